-- The names at the end of a line, one by one.
use Rattle.std.proofs.Common.{◌≡◌, ℕ, ◌<◌, Bool, true, false, List, [], ◌∷◌, ◌++◌, length, if◌then◌else◌, Option, Some, None, ◌==◌, refl, ap, sym, ◌∙◌, append_assoc, arith, Bor}
use Rattle.std.specs.Prelude.{is_some, option_copied, option_map}
use Rattle.std.specs.List.{list_all}
use Rattle.std.proofs.lemmas.List.Splits.{length-slice_split}
use Rattle.game_core.specs.Bytes.{space}
use Rattle.desk_text.specs.ScriptLines.{first_name, is_end, is_name, names_of}
use Rattle.desk_text.specs.Words.{words, words_behind}
use Rattle.desk_text.specs.declared.script_lines.Grammar.{Grammar}

pub first_taken : (g : Grammar) (words : List (List ℕ)) (name : List ℕ) (more : List (List ℕ)) → Some (name, more) ≡ first_name g words → (words ≡ name ∷ more) × (is_name g name ≡ true)
first_taken g [] name more is = absurd cc
first_taken g (word ∷ others) name more is = step (is_name g word) refl is
  where
    step : (t : Bool) → is_name g word ≡ t → ◌≡◌ {A = Option (List ℕ × List (List ℕ))} (Some (name, more)) (if t then Some (word, others) else None) → (word ∷ others ≡ name ∷ more) × (is_name g name ≡ true)
    step true named same =
        let pair : ◌≡◌ {A = List ℕ × List (List ℕ)} (name, more) (word, others) = cc in
        (ap (λ p. p.0 ∷ p.1) (sym pair), ap (λ p. is_name g p.0) pair ∙ named)
    step false named same = absurd cc

abbrev pub before_names : List (List ℕ) → Option (List (List ℕ)) → Option (List (List ℕ))
before_names names others = option_map (λ more. names ++ more) others

pub no_names : (others : Option (List (List ℕ))) → before_names [] others ≡ others
no_names None = refl
no_names (Some more) = refl

one_name : (g : Grammar) (name : List ℕ) (more : List (List ℕ)) → is_name g name ≡ true → names_of g (name ∷ more) ≡ option_map (λ others. name ∷ others) (names_of g more)
one_name g name more named = rw named (step (list_all (is_name g) more))
  where
    step : (t : Bool) → (if t then Some (name ∷ more) else None) ≡ option_map (λ others. name ∷ others) (if t then Some more else None)
    step true = refl
    step false = refl

pub name_more : (g : Grammar) (words : List (List ℕ)) (name : List ℕ) (more names names' : List (List ℕ)) (all : Option (List (List ℕ)))
    → Some (name, more) ≡ first_name g words → names' ≡ names ++ name ∷ [] → before_names names (names_of g words) ≡ all → before_names names' (names_of g more) ≡ all
name_more g words name more names names' all is pushed so_far =
    let taken = first_taken g words name more is in
    let this : names_of g words ≡ option_map (λ others. name ∷ others) (names_of g more) = ap (names_of g) taken.0 ∙ one_name g name more taken.1 in
    ap (λ x. before_names x (names_of g more)) pushed ∙ step (names_of g more) ∙ ap (before_names names) (sym this) ∙ so_far
  where
    step : (o : Option (List (List ℕ))) → before_names (names ++ name ∷ []) o ≡ before_names names (option_map (λ others. name ∷ others) o)
    step None = refl
    step (Some others) = ap Some (append_assoc names (name ∷ []) others)

pub no_name : (g : Grammar) (words : List (List ℕ)) → 0 < length words → None ≡ first_name g words → names_of g words ≡ None
no_name g [] some is = absurd (omega arith)
no_name g (word ∷ others) some is = step (is_name g word) refl is
  where
    step : (t : Bool) → is_name g word ≡ t → ◌≡◌ {A = Option (List ℕ × List (List ℕ))} None (if t then Some (word, others) else None) → names_of g (word ∷ others) ≡ None
    step true named same = absurd cc
    step false named same = rw named refl

pub some_words : (text : List ℕ) → 0 < length (words text)
some_words text = omega (arith, length-slice_split (λ b. b == space) text)

not_end : (words : List (List ℕ)) → 0 < length words → is_end words ≡ false
not_end [] some = absurd (omega arith)
not_end (word ∷ more) some = refl

pub no_end : (text : List ℕ) → is_end (words text) ≡ false
no_end text = not_end (words text) (some_words text)

pub some_left : (rest : Option (Bor (List ℕ))) → is_some rest ≡ true → 0 < length (words_behind (option_copied rest))
some_left None is = absurd cc
some_left (Some text) is = some_words text.now

pub none_left : (rest : Option (Bor (List ℕ))) → is_some rest ≡ false → words_behind (option_copied rest) ≡ []
none_left None is = refl
none_left (Some text) is = absurd cc
