-- The longest move, computed by a loop over the texts of all moves.
use Rattle.std.proofs.Common.{◌≡◌, ◌<◌, ◌≤◌, ◌⊎◌, ℕ, List, [], length, arith, inl, inr}
use Rattle.std.specs.Prelude.{slice_index_or}
use Rattle.match_book.specs.AnswerReading.{max_answer}
use Rattle.ground_rules.specs.LoadedGame.{GameTables, loaded_game}
use Rattle.match_play.specs.LongestMoves.{IsLongestMove}

-- this is the length of the longest of the first texts that fit into an answer, or 64 if that is more
abbrev pub IsLongestOf : List (List ℕ) → ℕ → ℕ → Type 0
IsLongestOf texts count most = ((k : ℕ) → k < count → length (slice_index_or texts k []) ≤ max_answer → length (slice_index_or texts k []) ≤ most)
    × (64 ≤ most)
    × ((most ≡ 64) ⊎ ((k : ℕ) × (k < count) × (length (slice_index_or texts k []) ≡ most) × (most ≤ max_answer)))

pub longest_of_all : (g : GameTables) (count most : ℕ) → length g.moves ≡ count → IsLongestOf g.moves count most → IsLongestMove (loaded_game g) most
longest_of_all g count most all found = record {
  bound = λ m is fits. found.0 m.term (omega (arith, is, all)) fits;
  least = found.1;
  attained = elim found.2 [ inl short ↦ inl short | inr at ↦ inr (record { term = at.0 }, omega (arith, at.1, all), at.2, at.3) ];
}
