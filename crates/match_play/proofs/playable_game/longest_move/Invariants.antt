use Rattle.std.proofs.Common.{◌≡◌, ◌<◌, ◌≤◌, ◌⊎◌, ℕ, [], length}
use Rattle.std.specs.Prelude.{slice_index_or}
use Rattle.match_book.specs.AnswerReading.{max_answer}
use Rattle.match_play.proofs.playable_game.longest_move.Given as goal

abbrev pub invariant-loop-text : goal.invariant-loop-text
invariant-loop-text l = ((k : ℕ) → k < l.text-index → length (slice_index_or l.texts k []) ≤ max_answer → length (slice_index_or l.texts k []) ≤ l.longest)
    × (64 ≤ l.longest)
    × ((l.longest ≡ 64) ⊎ ((k : ℕ) × (k < l.text-index) × (length (slice_index_or l.texts k []) ≡ l.longest) × (l.longest ≤ max_answer)))
