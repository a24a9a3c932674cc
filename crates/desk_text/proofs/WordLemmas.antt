-- Joining words.
use Rattle.std.proofs.Common.{◌≡◌, ℕ, List, [], ◌∷◌, ◌++◌, refl, Option, Some, None, ap, ◌∙◌}
use Rattle.std.specs.Prelude.{unwrap_or}
use Rattle.std.specs.List.{join_with_byte}
use Rattle.std.proofs.lemmas.List.{append-nil}
use Rattle.std.proofs.lemmas.List.Splits.{join_with_byte-slice_split}
use Rattle.game_core.specs.Bytes.{space}
use Rattle.desk_text.specs.Words.{words, words_behind, spaced}

spaced_join : (words : List (List ℕ)) → spaced words ≡ join_with_byte space words
spaced_join [] = refl
spaced_join (word ∷ []) = append-nil word
spaced_join (word ∷ next ∷ more) = ap (λ rest. word ++ space ∷ rest) (spaced_join (next ∷ more))

-- joining the words after a word gives the text after it
pub spaced_behind : (rest : Option (List ℕ)) → spaced (words_behind rest) ≡ unwrap_or rest []
spaced_behind None = refl
spaced_behind (Some rest) = spaced_join (words rest) ∙ join_with_byte-slice_split space rest
