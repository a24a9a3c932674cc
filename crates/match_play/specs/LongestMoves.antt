-- The longest move of a game.
use Rattle.std.specs.Prelude.{◌≡◌, ◌≤◌, ◌⊎◌, ℕ, length}
use Rattle.game_core.specs.Play.{Rules}
use Rattle.match_book.specs.AnswerReading.{max_answer}

-- Each move of the game has a text of at most this many bytes, unless the text is too long for an answer. The number is 64, or the length
-- of such a text.
pub record IsLongestMove {S M : Type 0} (g : Rules S M) (most : ℕ) : Type 0 where
  pub bound : (m : M) → g.IsMove m → length (g.move_text m) ≤ max_answer → length (g.move_text m) ≤ most
  pub least : 64 ≤ most
  pub attained : (most ≡ 64) ⊎ ((m : M) × g.IsMove m × (length (g.move_text m) ≡ most) × (most ≤ max_answer))
