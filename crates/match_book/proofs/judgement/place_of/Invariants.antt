use Rattle.std.proofs.Common.{◌<◌, ◌≢◌, ℕ, slice_index_or}
use Rattle.match_book.proofs.judgement.place_of.Given as goal

abbrev pub invariant-loop-place : goal.invariant-loop-place
invariant-loop-place g l = (k : ℕ) (d : _) → k < l.place → (g.G.Game.rules l.game).move_text (slice_index_or l.moves k d) ≢ l.wanted
