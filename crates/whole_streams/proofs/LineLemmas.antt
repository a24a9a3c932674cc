use Rattle.std.proofs.Common.{◌≡◌, ◌≢◌, ℕ, suc, ◌<◌, Bool, false, cond, eqb, List, [], ◌∷◌, ◌++◌, length, refl, sym, ap, ◌∙◌, arith}
use Rattle.std.specs.List.{slice_split, onto_first}
use Rattle.std.specs.Str.Lines.{lines, lines_of_parts, strip_carriage_return}
use Rattle.std.proofs.lemmas.List.{append_assoc}
use Rattle.std.proofs.lemmas.List.Splits.{length-slice_split}
use Rattle.game_core.specs.Bytes.{line_feed}
use Rattle.whole_streams.specs.Lines.{BeginsWithLine, HasNoLineFeed}

abbrev is_feed : ℕ → Bool
is_feed b = eqb b 10

not_feed : (x : ℕ) → x ≢ 10 → eqb x 10 ≡ false
not_feed x h = grind arith

feedless_tail : (x : ℕ) (xs : List ℕ) → HasNoLineFeed (x ∷ xs) → HasNoLineFeed xs
feedless_tail x xs h k d inside = h (suc k) d (omega arith)

feedless_head : (x : ℕ) (xs : List ℕ) → HasNoLineFeed (x ∷ xs) → x ≢ 10
feedless_head x xs h = h 0 0 (omega arith)

parts_cut : (whole left : List ℕ) → HasNoLineFeed whole → slice_split is_feed (whole ++ 10 ∷ left) ≡ whole ∷ slice_split is_feed left
parts_cut [] left h = refl
parts_cut (x ∷ xs) left h =
    ap (λ b. cond b ([] ∷ slice_split is_feed (xs ++ 10 ∷ left)) (onto_first x (slice_split is_feed (xs ++ 10 ∷ left)))) (not_feed x (feedless_head x xs h))
    ∙ ap (onto_first x) (parts_cut xs left (feedless_tail x xs h))

parts_whole : (whole : List ℕ) → HasNoLineFeed whole → slice_split is_feed whole ≡ whole ∷ []
parts_whole [] h = refl
parts_whole (x ∷ xs) h =
    ap (λ b. cond b ([] ∷ slice_split is_feed xs) (onto_first x (slice_split is_feed xs))) (not_feed x (feedless_head x xs h))
    ∙ ap (onto_first x) (parts_whole xs (feedless_tail x xs h))

parts_more : (x : List ℕ) (parts : List (List ℕ)) → 0 < length parts → lines_of_parts (x ∷ parts) ≡ strip_carriage_return x ∷ lines_of_parts parts
parts_more x [] h = absurd (omega arith)
parts_more x (y ∷ more) h = refl

one_part : (text : List ℕ) → 0 < length text → lines_of_parts (text ∷ []) ≡ text ∷ []
one_part [] h = absurd (omega arith)
one_part (b ∷ text) h = grind arith

lines_cut : (whole left : List ℕ) → HasNoLineFeed whole → lines (whole ++ line_feed ∷ left) ≡ strip_carriage_return whole ∷ lines left
lines_cut whole left h =
    let some : 0 < length (slice_split is_feed left) = omega (arith, length-slice_split is_feed left) in
    ap lines_of_parts (parts_cut whole left h) ∙ parts_more whole (slice_split is_feed left) some

pub lines_begin : (bytes line left more : List ℕ) → BeginsWithLine bytes line left → lines (bytes ++ more) ≡ line ∷ lines (left ++ more)
lines_begin bytes line left more (whole, cut, feedless, is) =
    ap (λ l. lines (l ++ more)) cut ∙ ap lines (append_assoc whole (line_feed ∷ left) more) ∙ lines_cut whole (left ++ more) feedless ∙ ap (λ l. l ∷ lines (left ++ more)) (sym is)

pub lines_last : (bytes : List ℕ) → 0 < length bytes → HasNoLineFeed bytes → lines bytes ≡ bytes ∷ []
lines_last bytes some feedless = ap lines_of_parts (parts_whole bytes feedless) ∙ one_part bytes some
