-- The word with which a text begins.
use Rattle.std.proofs.Common.{◌≡◌, ℕ, suc, ◌<◌, ◌≤◌, Bool, true, false, true≢false, List, [], ◌∷◌, ◌++◌, length, take, drop, get_or, sym, ap, ◌∙◌, arith, length-append, take-append-drop, drop-cons}
use Rattle.std.proofs.lemmas.List.{get_or_append_left, take_all}
use Rattle.std.specs.Prelude.{◌↔◌, IsTrue}
use mathlib.Core.List.{IsPrefix}
use Rattle.match_messages.specs.MessageKinds.{kind_word}
use Rattle.match_messages.specs.declared.kind.MessageKind.{MessageKind}
use Rattle.match_messages.specs.declared.kind.MessageKind.TheVariants.{Info, Start, Play, Stop, Abort}

pub prefix_fits : (word text : List ℕ) → IsPrefix word text → length word ≤ length text
prefix_fits word text is = omega (arith, ap length is.1, length-append word is.0)

pub prefix_byte : (word text : List ℕ) (place : ℕ) → IsPrefix word text → place < length word → get_or word place 0 ≡ get_or text place 0
prefix_byte word text place is within = sym (get_or_append_left word is.0 0 place within) ∙ ap (λ t. get_or t place 0) is.1

pub prefix_whole : (word text : List ℕ) (place : ℕ) → length word ≤ place → take place word ≡ take place text → IsPrefix word text
prefix_whole word text place past same = (drop place text, ap (λ w. w ++ drop place text) (sym (take_all place word past) ∙ same) ∙ take-append-drop place text)

pub first_of_rest : (text rest more : List ℕ) (place : ℕ) → rest ++ more ≡ drop place text → place < length text → 0 < length rest → get_or rest 0 0 ≡ get_or text place 0
first_of_rest text [] more place is within some = absurd (omega arith)
first_of_rest text (x ∷ xs) more place is within some = let split : x ∷ (xs ++ more) ≡ get_or text place 0 ∷ drop (suc place) text = is ∙ drop-cons text place 0 within in cc

pub not_begun : (P : Type 0) (b : Bool) → IsTrue b ↔ P → b ≡ false → ¬ P
not_begun P b tells fails is = true≢false (sym (tells.1 is) ∙ fails)

pub no_kind : (text : List ℕ) → ¬ (IsPrefix (kind_word Info) text) → ¬ (IsPrefix (kind_word Start) text) → ¬ (IsPrefix (kind_word Play) text) → ¬ (IsPrefix (kind_word Stop) text) → ¬ (IsPrefix (kind_word Abort) text)
    → (kind : MessageKind) → ¬ (IsPrefix (kind_word kind) text)
no_kind text info start play stop abort Info = info
no_kind text info start play stop abort Start = start
no_kind text info start play stop abort Play = play
no_kind text info start play stop abort Stop = stop
no_kind text info start play stop abort Abort = abort
