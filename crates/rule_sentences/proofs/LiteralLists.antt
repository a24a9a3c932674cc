-- The loop that reads literals.
use Rattle.std.proofs.Common.{◌≡◌, ◌≢◌, ℕ, zero, suc, ◌+◌, ◌-◌, ◌<◌, ◌≤◌, List, [], ◌∷◌, ◌++◌, map, drop, length, get_or, drop-cons, add-one, None, Some, Option, Vec, Global, refl, sym, ap, ◌∙◌, rules, arith}
use Rattle.std.proofs.lemmas.List.{drop_all, map-append}
use Rattle.game_core.specs.Expression.{Expressions, none, more}
use Rattle.kif_text.specs.View.{view as expression, views as expressions}
use Rattle.kif_text.specs.declared.expr.Expr.{Expr}
use Rattle.numbered_rules.specs.Literals.{literals, Or, More, End}
use Rattle.rule_sentences.specs.Sentences.{TextLiteral, TextLiterals}
use Rattle.rule_sentences.specs.SentenceViews.{view, views}
use Rattle.rule_sentences.specs.Reading.{both, negation, disjunction, read_literal, read_literals}
use Rattle.rule_sentences.specs.Internal.Members.{without_first}
use Rattle.rule_sentences.specs.declared.sentence.Literal.{Literal as CodeLiteral, Or as CodeOr, the_lemmas}

pub negation-none : (ls : List CodeLiteral) → length ls ≢ 1 → None ≡ negation (Some (views ls))
negation-none [] ne = refl
negation-none (l ∷ []) ne = absurd (ne (omega arith))
negation-none (l ∷ m ∷ ls) ne = refl

disjunction-some : (ls : List CodeLiteral) → 0 < length ls → Some (Or (views ls)) ≡ disjunction (Some (views ls))
disjunction-some [] some = absurd (omega arith)
disjunction-some (l ∷ ls) some = refl

view-Or : (v : Vec CodeLiteral Global) → view (CodeOr v) ≡ Or (views v.items)
view-Or v = search (rules, the_lemmas)

pub disjunction-is : (v : Vec CodeLiteral Global) → 0 < length v.items → Some (view (CodeOr v)) ≡ disjunction (Some (views v.items))
disjunction-is v some = ap Some (view-Or v) ∙ disjunction-some v.items some

-- these literals, followed by those that are read
abbrev pub prefixed : List TextLiteral → Option TextLiterals → Option TextLiterals
prefixed [] o = o
prefixed (l ∷ ls) o = both More (Some l) (prefixed ls o)

prefixed-none : (ls : List TextLiteral) → prefixed ls None ≡ None
prefixed-none [] = refl
prefixed-none (l ∷ ls) = rw (prefixed-none ls) refl

prefixed-end : (ls : List TextLiteral) → prefixed ls (Some End) ≡ Some (literals ls)
prefixed-end [] = refl
prefixed-end (l ∷ ls) = rw (prefixed-end ls) refl

prefixed-push : (ls : List TextLiteral) (l : TextLiteral) (o : Option TextLiterals) → prefixed (ls ++ l ∷ []) o ≡ prefixed ls (both More (Some l) o)
prefixed-push [] l o = refl
prefixed-push (m ∷ ls) l o = ap (both More (Some m)) (prefixed-push ls l o)

-- the members that are left to read from this place
abbrev pub left : ℕ → ℕ → List Expr → Expressions
left start place xs = without_first (start - place) (expressions (drop place xs))

expressions-at : (xs : List Expr) (i : ℕ) (d : Expr) → i < length xs → expressions (drop i xs) ≡ more (expression (get_or xs i d)) (expressions (drop (i + 1) xs))
expressions-at xs i d lt = rw (add-one, drop-cons xs i d) refl

without-cons : (start place : ℕ) (xs : Expressions) (x : _) → place < start → without_first (start - place) (more x xs) ≡ without_first (start - (place + 1)) xs
without-cons start place xs x lt = let e : start - place ≡ suc (start - (place + 1)) = omega arith in rw e refl

pub left-passed : (start place : ℕ) (xs : List Expr) (d : Expr) → place < length xs → place < start → left start place xs ≡ left start (place + 1) xs
left-passed start place xs d lt before = rw (expressions-at xs place d lt) (without-cons start place (expressions (drop (place + 1) xs)) (expression (get_or xs place d)) before)

pub left-read : (start place : ℕ) (xs : List Expr) (d : Expr) → place < length xs → start ≤ place → left start place xs ≡ more (expression (get_or xs place d)) (left start (place + 1) xs)
left-read start place xs d lt before =
    let e : start - place ≡ 0 = omega arith in
    let f : start - (place + 1) ≡ 0 = omega arith in
    rw (e, f) (expressions-at xs place d lt)

pub left-none : (start place : ℕ) (xs : List Expr) → length xs ≤ place → left start place xs ≡ none
left-none start place xs le = rw (drop_all place xs le) (without-none (start - place))
  where
    without-none : (n : ℕ) → without_first n none ≡ none
    without-none zero = refl
    without-none (suc n) = refl

-- a member that is not a literal ends the loop
pub stops : (ls : List TextLiteral) (start place : ℕ) (xs : List Expr) (d : Expr) (whole : Option TextLiterals) → place < length xs → start ≤ place → read_literal (expression (get_or xs place d)) ≡ None
    → prefixed ls (read_literals (left start place xs)) ≡ whole → None ≡ whole
stops ls start place xs d whole lt le is e =
    let f : read_literals (left start place xs) ≡ None = ap read_literals (left-read start place xs d lt le) ∙ ap (λ o. both More o (read_literals (left start (place + 1) xs))) is in
    sym (prefixed-none ls) ∙ ap (prefixed ls) (sym f) ∙ e

-- a member that is a literal continues the loop
goes-on-view : (ls : List TextLiteral) (l : TextLiteral) (start place : ℕ) (xs : List Expr) (d : Expr) (whole : Option TextLiterals) → place < length xs → start ≤ place → Some l ≡ read_literal (expression (get_or xs place d))
    → prefixed ls (read_literals (left start place xs)) ≡ whole → prefixed (ls ++ l ∷ []) (read_literals (left start (place + 1) xs)) ≡ whole
goes-on-view ls l start place xs d whole lt le is e =
    let f : read_literals (left start place xs) ≡ both More (Some l) (read_literals (left start (place + 1) xs)) = ap read_literals (left-read start place xs d lt le) ∙ ap (λ o. both More o (read_literals (left start (place + 1) xs))) (sym is) in
    prefixed-push ls l _ ∙ ap (prefixed ls) (sym f) ∙ e

pub goes-on : (ls : List CodeLiteral) (l : CodeLiteral) (start place : ℕ) (xs : List Expr) (d : Expr) (whole : Option TextLiterals) → place < length xs → start ≤ place → Some (view l) ≡ read_literal (expression (get_or xs place d))
    → prefixed (map view ls) (read_literals (left start place xs)) ≡ whole → prefixed (map view (ls ++ l ∷ [])) (read_literals (left start (place + 1) xs)) ≡ whole
goes-on ls l start place xs d whole lt le is e =
    ap (λ ms. prefixed ms (read_literals (left start (place + 1) xs))) (map-append view ls (l ∷ [])) ∙ goes-on-view (map view ls) (view l) start place xs d whole lt le is e

pub ends : (ls : List TextLiteral) (start place : ℕ) (xs : List Expr) (whole : Option TextLiterals) → length xs ≤ place → prefixed ls (read_literals (left start place xs)) ≡ whole → Some (literals ls) ≡ whole
ends ls start place xs whole le e = sym (prefixed-end ls) ∙ ap (λ o. prefixed ls (read_literals o)) (sym (left-none start place xs le)) ∙ e
