use Rattle.std.proofs.Common.{◌≡◌, ◌++◌, drop, map}
use Rattle.desk_text.specs.Escapes.{escaped_name}
use Rattle.desk_text.specs.Words.{behind_spaces}
use Rattle.desk_text.proofs.account.push_names.Given as goal

abbrev pub invariant-loop-name : goal.invariant-loop-name
invariant-loop-name l = l.out.items ++ behind_spaces (map escaped_name (drop l.name-index l.names)) ≡ l.initial.out.items ++ behind_spaces (map escaped_name l.names)
