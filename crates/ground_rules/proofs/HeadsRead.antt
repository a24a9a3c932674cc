-- Properties of the heads of a description that was read.
use Rattle.std.proofs.Common.{◌≡◌, ℕ, ◌≤◌, Bool, true, false, ◌&&◌, if◌then◌else◌, nat_le, List, [], ◌∷◌, map, Option, Some, None, option_map, refl, ap, ◌∙◌, arith, subst}
use Rattle.std.specs.Prelude.{option_and_then}
use Rattle.std.specs.List.{cons_option}
use Rattle.std.specs.Str.Parse.{digits_value}
use Rattle.std.proofs.lemmas.Bool.Decides.{nat_tests}
use Rattle.game_core.specs.Numerals.{is_plain_numeral, number_up_to, plain_number}
use Rattle.game_core.specs.Play.{max_goal}
use Rattle.game_core.specs.Expression.{Expression, atom, list, Expressions, none, more, depth, max_depth}
use Rattle.game_core.specs.Canonical.{canonical}
use Rattle.kif_text.specs.View.{expressions}
use Rattle.rule_sentences.specs.declared.sentence.Derived.{Derived}
use Rattle.rule_sentences.specs.declared.sentence.Derived.TheVariants.{Role, Init, Next, Legal, Goal, Terminal, Other}
use Rattle.rule_sentences.specs.declared.sentence.Atomic.{Atomic}
use Rattle.rule_sentences.specs.declared.sentence.Atomic.TheVariants.{Derived as IsDerived, InState as IsInState, Does as IsDoes}
use Rattle.rule_sentences.specs.declared.words.Word.{Word}
use Rattle.rule_sentences.specs.declared.words.Word.TheVariants.{Role as RoleWord, Init as InitWord, True as TrueWord, Next as NextWord, Does as DoesWord, Legal as LegalWord, Goal as GoalWord, Terminal as TerminalWord, If as IfWord, Not as NotWord, Or as OrWord, Distinct as DistinctWord, And as AndWord, Plain as PlainWord}
use Rattle.ground_rules.specs.Lawfulness.Bools.{and-both, or-left, or-right}
use Rattle.ground_rules.specs.Lawfulness.Names.{text-same}
use Rattle.rule_sentences.specs.Terms.{is_ground_term, term_text}
use Rattle.ground_rules.specs.Lawfulness.TermTexts.{is_term_in, is_term_in_any}
use Rattle.rule_sentences.specs.Words.{word_of}
use Rattle.rule_sentences.specs.Sentences.{TextLiterals, TextRule, Sentence}
use Rattle.rule_sentences.specs.Reading.{both, goal_value, one_argument, two_arguments, head_word, read_relation, read_alone, read_atomic, read_literals, sentence, fact, read_rule, read_list, read_form, read_sentence}
use Rattle.rule_sentences.specs.Places.{place, place_head, is_head_of, are_placed}
use Rattle.rule_sentences.specs.SentenceFaults.{rule_in, description_of}
use Rattle.ground_rules.proofs.GameOf.{EachIs}
use Rattle.ground_rules.proofs.LawfulTables.{HeadFrom}

text-by : (x : Expression) (t : List ℕ) (b : Bool) → is_ground_term x ≡ b → (if b then Some (canonical x) else None) ≡ Some t → (is_ground_term x ≡ true) × (canonical x ≡ t)
text-by x t true is e = (is, some-is (canonical x) t e)
  where
    some-is : (s u : List ℕ) → ◌≡◌ {A = Option (List ℕ)} (Some s) (Some u) → s ≡ u
    some-is s u f = cc
text-by x t false is e = absurd cc

text-in : (x : Expression) (t : List ℕ) → term_text x ≡ Some t → is_term_in x t ≡ true
text-in (atom w) t e = let f = text-by (atom w) t (is_ground_term (atom w)) refl e in and-both _ _ f.0 (text-same w t f.1)
text-in (list xs) t e = let f = text-by (list xs) t (is_ground_term (list xs)) refl e in or-left _ _ (and-both _ _ f.0 (text-same (canonical (list xs)) t f.1))

one-in : (xs : Expressions) (t : List ℕ) → one_argument xs ≡ Some t → is_term_in_any xs t ≡ true
one-in none t e = absurd cc
one-in (more f none) t e = absurd cc
one-in (more f (more x none)) t e = or-right _ _ (or-left _ _ (text-in x t e))
one-in (more f (more x (more y xs))) t e = absurd cc

both-are : {A B C : Type 0} (f : A → B → C) (o : Option A) (p : Option B) (z : C) → both f o p ≡ Some z → (x : A) × (y : B) × (o ≡ Some x) × (p ≡ Some y) × (f x y ≡ z)
both-are {A} {B} {C} f (Some x) (Some y) z e = (x, y, refl, refl, some-is (f x y) z e)
  where
    some-is : (s u : C) → ◌≡◌ {A = Option C} (Some s) (Some u) → s ≡ u
    some-is s u g = cc
both-are f (Some x) None z e = absurd cc
both-are f None p z e = absurd cc

mapped-is : {A B : Type 0} (f : A → B) (o : Option A) (z : B) → option_map f o ≡ Some z → (x : A) × (o ≡ Some x) × (f x ≡ z)
mapped-is {A} {B} f (Some x) z e = (x, refl, some-is (f x) z e)
  where
    some-is : (s u : B) → ◌≡◌ {A = Option B} (Some s) (Some u) → s ≡ u
    some-is s u g = cc
mapped-is f None z e = absurd cc

two-are : {A : Type 0} (read : Expression → Option A) (xs : Expressions) (p : List ℕ × A) → two_arguments read xs ≡ Some p → (f x y : Expression) × (xs ≡ more f (more x (more y none))) × (term_text x ≡ Some p.0) × (read y ≡ Some p.1)
two-are read none p e = absurd cc
two-are read (more f none) p e = absurd cc
two-are read (more f (more x none)) p e = absurd cc
two-are read (more f (more x (more y none))) p e =
    let b = both-are (λ t u. (t, u)) (term_text x) (read y) p e in
    (f, x, y, refl, b.2 ∙ ap (λ q. Some q.0) b.4, b.3 ∙ ap (λ q. Some q.1) b.4)
two-are read (more f (more x (more y (more z xs)))) p e = absurd cc

second-in : (f x y : Expression) (t : List ℕ) → term_text y ≡ Some t → is_term_in_any (more f (more x (more y none))) t ≡ true
second-in f x y t e = or-right _ _ (or-right _ _ (or-left _ _ (text-in y t e)))

up-to-small : (v n : ℕ) → (if nat_le v max_goal then Some v else None) ≡ Some n → n ≤ max_goal
up-to-small v n e = grind (arith, nat_tests)

number-small : (w : List ℕ) (n : ℕ) → plain_number w max_goal ≡ Some n → n ≤ max_goal
number-small w n e = by-test (is_plain_numeral w) e
  where
    by-test : (b : Bool) → (if b then number_up_to w max_goal else None) ≡ Some n → n ≤ max_goal
    by-test true f = up-to-small (digits_value 10 w) n f
    by-test false f = absurd cc

value-small : (x : Expression) (n : ℕ) → goal_value x ≡ Some n → n ≤ max_goal
unfolding goal_value
value-small (atom w) n e = number-small w n e
value-small (list xs) n e = absurd cc

derived-is : (a b : Derived) → ◌≡◌ {A = Atomic} (IsDerived a) (IsDerived b) → a ≡ b
derived-is a b e = cc

transported : (xs : Expressions) (a b : Derived) → ◌≡◌ {A = Atomic} (IsDerived a) (IsDerived b) → HeadFrom xs a → HeadFrom xs b
transported xs a b e h = subst (HeadFrom xs) (derived-is a b e) h

relation-head : (w : Option Word) (xs : Expressions) (a : Derived) → read_relation w xs ≡ Some (IsDerived a) → HeadFrom xs a
relation-head (Some RoleWord) xs a e = let m = mapped-is _ (one_argument xs) (IsDerived a) e in transported xs (Role m.0) a m.2 (one-in xs m.0 m.1)
relation-head (Some InitWord) xs a e = let m = mapped-is _ (one_argument xs) (IsDerived a) e in transported xs (Init m.0) a m.2 (one-in xs m.0 m.1)
relation-head (Some TrueWord) xs a e = let m = mapped-is IsInState (one_argument xs) (IsDerived a) e in let f = m.2 in absurd cc
relation-head (Some NextWord) xs a e = let m = mapped-is _ (one_argument xs) (IsDerived a) e in transported xs (Next m.0) a m.2 (one-in xs m.0 m.1)
relation-head (Some DoesWord) xs a e = let m = mapped-is (λ p. IsDoes p.0 p.1) (two_arguments term_text xs) (IsDerived a) e in let f = m.2 in absurd cc
relation-head (Some LegalWord) xs a e =
    let m = mapped-is (λ p. IsDerived (Legal p.0 p.1)) (two_arguments term_text xs) (IsDerived a) e in
    let t = two-are term_text xs m.0 m.1 in
    transported xs (Legal m.0.0 m.0.1) a m.2 (ap (λ ys. is_term_in_any ys m.0.1) t.3 ∙ second-in t.0 t.1 t.2 m.0.1 t.5)
relation-head (Some GoalWord) xs a e =
    let m = mapped-is (λ p. IsDerived (Goal p.0 p.1)) (two_arguments goal_value xs) (IsDerived a) e in
    let t = two-are goal_value xs m.0 m.1 in
    transported xs (Goal m.0.0 m.0.1) a m.2 (value-small t.2 m.0.1 t.5)
relation-head (Some PlainWord) xs a e = let m = mapped-is _ (term_text (list xs)) (IsDerived a) e in transported xs (Other m.0) a m.2 tt
relation-head (Some TerminalWord) xs a e = absurd cc
relation-head (Some IfWord) xs a e = absurd cc
relation-head (Some NotWord) xs a e = absurd cc
relation-head (Some OrWord) xs a e = absurd cc
relation-head (Some DistinctWord) xs a e = absurd cc
relation-head (Some AndWord) xs a e = absurd cc
relation-head None xs a e = absurd cc

alone-head : (w : Word) (text : List ℕ) (xs : Expressions) (a : Derived) → read_alone w text ≡ Some (IsDerived a) → HeadFrom xs a
alone-head TerminalWord text xs a e = transported xs Terminal a (some-is _ _ e) tt
  where
    some-is : (s u : Atomic) → ◌≡◌ {A = Option Atomic} (Some s) (Some u) → s ≡ u
    some-is s u g = cc
alone-head PlainWord text xs a e = let m = mapped-is _ (term_text (atom text)) (IsDerived a) e in transported xs (Other m.0) a m.2 tt
alone-head w text xs a e = absurd cc

-- if every term in xs is also in ys, `HeadFrom` for xs implies `HeadFrom` for ys
more-known : (xs ys : Expressions) (a : Derived) → ((t : List ℕ) → is_term_in_any xs t ≡ true → is_term_in_any ys t ≡ true) → HeadFrom xs a → HeadFrom ys a
more-known xs ys (Role r) f h = f r h
more-known xs ys (Init t) f h = f t h
more-known xs ys (Next t) f h = f t h
more-known xs ys (Legal r m) f h = f m h
more-known xs ys (Goal r n) f h = h
more-known xs ys Terminal f h = tt
more-known xs ys (Other t) f h = tt

atomic-head : (x : Expression) (ys : Expressions) (a : Derived) → ((t : List ℕ) → is_term_in x t ≡ true → is_term_in_any ys t ≡ true) → read_atomic x ≡ Some (IsDerived a) → HeadFrom ys a
atomic-head (atom w) ys a f e = alone-head (word_of w) w ys a e
atomic-head (list xs) ys a f e = more-known xs ys a (λ t h. f t (or-right _ _ h)) (relation-head (head_word xs) xs a e)

rule-head : (xs : Expressions) (s : Sentence) (a : Derived) → read_rule xs ≡ Some s → s.head ≡ IsDerived a → HeadFrom xs a
rule-head none s a e is = absurd cc
rule-head (more f none) s a e is = absurd cc
rule-head (more f (more head body)) s a e is =
    let b = both-are sentence (read_atomic head) (read_literals body) s e in
    let h : read_atomic head ≡ Some (IsDerived a) = b.2 ∙ ap Some (ap (λ (x : Sentence). x.head) b.4 ∙ is) in
    atomic-head head (more f (more head body)) a (λ t k. or-right _ _ (or-left _ _ k)) h

fact-head : (o : Option Atomic) (s : Sentence) (a : Derived) → option_map fact o ≡ Some s → s.head ≡ IsDerived a → o ≡ Some (IsDerived a)
fact-head o s a e is = let m = mapped-is fact o s e in m.1 ∙ ap Some (ap (λ (x : Sentence). x.head) m.2 ∙ is)

list-head : (w : Option Word) (xs : Expressions) (s : Sentence) (a : Derived) → read_list w xs ≡ Some s → s.head ≡ IsDerived a → HeadFrom xs a
list-head (Some IfWord) xs s a e is = rule-head xs s a e is
list-head w xs s a e is = relation-head w xs a (fact-head (read_relation w xs) s a e is)

form-head : (x : Expression) (ys : Expressions) (s : Sentence) (a : Derived) → ((t : List ℕ) → is_term_in x t ≡ true → is_term_in_any ys t ≡ true) → read_form x ≡ Some s → s.head ≡ IsDerived a → HeadFrom ys a
form-head (atom w) ys s a f e is = alone-head (word_of w) w ys a (fact-head (read_alone (word_of w) w) s a e is)
form-head (list xs) ys s a f e is = more-known xs ys a (λ t h. f t (or-right _ _ h)) (list-head (head_word xs) xs s a e is)

sentence-head : (x : Expression) (ys : Expressions) (s : Sentence) (a : Derived) → ((t : List ℕ) → is_term_in x t ≡ true → is_term_in_any ys t ≡ true) → read_sentence x ≡ Some s → s.head ≡ IsDerived a → HeadFrom ys a
sentence-head x ys s a f e is = by-depth (nat_le (depth x) max_depth) e
  where
    by-depth : (b : Bool) → (if b then read_form x else None) ≡ Some s → HeadFrom ys a
    by-depth true g = form-head x ys s a f g is
    by-depth false g = absurd cc

placed-head : (h : Atomic) (body : TextLiterals) (r : TextRule) → place_head h body ≡ Some r → h ≡ IsDerived r.head
placed-head (IsDerived a) body r e = by-test (is_head_of a body && are_placed body) e
  where
    some-is : (s u : TextRule) → ◌≡◌ {A = Option TextRule} (Some s) (Some u) → s ≡ u
    some-is s u g = cc

    by-test : (b : Bool) → (if b then Some (record { head = a; body = body }) else None) ≡ Some r → IsDerived a ≡ IsDerived r.head
    by-test true f = ap (λ (x : TextRule). IsDerived x.head) (some-is _ _ f)
    by-test false f = absurd cc
placed-head (IsInState t) body r e = absurd cc
placed-head (IsDoes q m) body r e = absurd cc

rule-in-head : (x : Expression) (ys : Expressions) (r : TextRule) (o : Option Sentence) → read_sentence x ≡ o → ((t : List ℕ) → is_term_in x t ≡ true → is_term_in_any ys t ≡ true) → option_and_then place o ≡ Some r → HeadFrom ys r.head
rule-in-head x ys r None e f g = absurd cc
rule-in-head x ys r (Some s) e f g = sentence-head x ys s r.head f e (placed-head s.head s.body r g)

heads-by : (ys : Expressions) (o : Option TextRule) (rs : List TextRule) → ((r : TextRule) → o ≡ Some r → HeadFrom ys r.head) → EachIs (HeadFrom ys) (map (λ r. r.head) rs) → EachIs (HeadFrom ys) (map (λ r. r.head) (cons_option o rs))
heads-by ys None rs f h = h
heads-by ys (Some r) rs f h = (f r refl, h)

from-all : (ys : Expressions) (xs : List Expression) → ((t : List ℕ) → is_term_in_any (expressions xs) t ≡ true → is_term_in_any ys t ≡ true) → EachIs (HeadFrom ys) (map (λ r. r.head) (description_of xs))
from-all ys [] f = tt
from-all ys (x ∷ xs) f = heads-by ys (rule_in x) (description_of xs) (λ r e. rule-in-head x ys r (read_sentence x) refl (λ t h. f t (or-left _ _ h)) e) (from-all ys xs (λ t h. f t (or-right _ _ h)))

pub heads-read : (xs : List Expression) → EachIs (HeadFrom (expressions xs)) (map (λ r. r.head) (description_of xs))
heads-read xs = from-all (expressions xs) xs (λ t h. h)
