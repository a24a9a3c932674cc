use Rattle.std.proofs.Common.{◌≡◌}
use Rattle.std.specs.Prelude.{map}
use Rattle.match_book.specs.Roles.{present}
use Rattle.match_book.proofs.turn.turn_of.Given as goal

abbrev pub invariant-loop-part : goal.invariant-loop-part
invariant-loop-part g l = record {
  moves : l.moves.items ≡ map (λ j. j.taken) (present l.yielded);
  errors : l.errors.items ≡ map (λ j. j.error) (present l.yielded);
}
