use Rattle.std.proofs.Common.{◌≡◌, ◌++◌, map, drop}
use Rattle.ground_rules.specs.Internal.Resolved.{table_of, role_table}
use Rattle.ground_rules.proofs.loading.roles_of.Given as goal

abbrev pub invariant-loop-name : goal.invariant-loop-name
invariant-loop-name l = l.roles.items ++ map (role_table (table_of l.names)) (drop l.name-index l.name-items) ≡ map (role_table (table_of l.names)) l.name-items
