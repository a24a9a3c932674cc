use Rattle.std.proofs.Common.{◌≡◌, ◌+◌, ◌≤◌, drop}
use Rattle.std.specs.Prelude.{count_by}
use Rattle.match_book.specs.MatchValue.{is_error}
use Rattle.match_book.proofs.turn.count_errors.Given as goal

abbrev pub invariant-loop-error : goal.invariant-loop-error
invariant-loop-error l = record {
  within : l.count ≤ l.error-index;
  counted : l.count + count_by is_error (drop l.error-index l.errors) ≡ count_by is_error l.errors;
}
