use Rattle.std.proofs.Common.{◌≡◌, drop}
use Rattle.ground_rules.specs.Internal.GameParts.{have_few_moves_by}
use Rattle.ground_rules.proofs.loading.have_few_moves.Given as goal

abbrev pub invariant-loop-role : goal.invariant-loop-role
invariant-loop-role l = have_few_moves_by (drop l.role-index l.roles) ≡ have_few_moves_by l.roles
