-- A text is split at its first line feed.
use Rattle.std.proofs.Common.{◌≡◌, ℕ, ◌+◌, ◌<◌, Bool, eqb, List, [], ◌∷◌, length, take, drop, refl, ap, ◌∙◌, arith, Some, None}
use Rattle.std.specs.Prelude.{position}
use Rattle.std.specs.List.{slice_split}
use Rattle.std.specs.Str.Lines.{lines, lines_of_parts, strip_carriage_return}
use Rattle.std.proofs.lemmas.List.Splits.{length-slice_split}
use Rattle.desk_text.proofs.Pieces.{pieces_cut, pieces_whole}

abbrev pub is_feed : ℕ → Bool
is_feed b = eqb b 10

parts_more : (x : List ℕ) (parts : List (List ℕ)) → 0 < length parts
    → lines_of_parts (x ∷ parts) ≡ strip_carriage_return x ∷ lines_of_parts parts
parts_more x [] h = absurd (omega arith)
parts_more x (y ∷ more) h = refl

pub lines_cut : (text : List ℕ) (end : ℕ) → position is_feed text ≡ Some end
    → lines text ≡ strip_carriage_return (take end text) ∷ lines (drop (end + 1) text)
lines_cut text end h =
    let rest = slice_split is_feed (drop (end + 1) text) in
    let some : 0 < length rest = omega (arith, length-slice_split is_feed (drop (end + 1) text)) in
    ap lines_of_parts (pieces_cut is_feed text end h) ∙ parts_more _ rest some

whole_part : (text : List ℕ) → 0 < length text → lines_of_parts (text ∷ []) ≡ text ∷ []
whole_part [] h = absurd (omega arith)
whole_part (b ∷ text) h = grind arith

pub lines_whole : (text : List ℕ) → 0 < length text → position is_feed text ≡ None → lines text ≡ text ∷ []
lines_whole text some h = ap lines_of_parts (pieces_whole is_feed text h) ∙ whole_part text some
