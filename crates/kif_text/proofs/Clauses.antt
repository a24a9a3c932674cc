-- The clauses of `read_all` and `read_one`, proved from the reader's steps.
use Rattle.std.proofs.Common.{◌≡◌, ℕ, ◌≤◌, List, length, Result, Ok, Err, Vec, Global, Some, None, refl, ap, ◌∙◌}
use Rattle.std.specs.Prelude.{IfOk, IfErr}
use Rattle.std.specs.Result.{result_ok}
use Rattle.game_core.specs.Expression.{Expressions, max_depth}
use Rattle.kif_text.specs.Spelling.{max_length, SpellsUpTo, SpellsOne}
use Rattle.kif_text.specs.Faults.{one_expression, any_number, IsFault, IsFaultUpTo}
use Rattle.kif_text.specs.View.{view, views}
use Rattle.kif_text.specs.Machine.{read, read_single}
use Rattle.kif_text.specs.Internal.Following.{Gives}
use Rattle.kif_text.specs.Reading.{reading}
use Rattle.kif_text.specs.declared.expr.Expr.{Expr}
use Rattle.kif_text.specs.declared.fault.KifFault.{KifFault}
use Rattle.kif_text.specs.declared.fault.KifFault.TheVariants.{Memory}
use Rattle.kif_text.proofs.ReadIsSpelled.{read_found}
use Rattle.kif_text.proofs.Depth.{read_nests}
use Rattle.kif_text.proofs.FirstFault.{read_fails}
use Rattle.kif_text.proofs.ReadOne.{single_found, single_fault}
use Rattle.kif_text.proofs.NeverBoth.{all_not_refused}
use Rattle.kif_text.proofs.Readings.{reading_within}

pub all_spelled : (limit : ℕ) (text : List ℕ) (r : Result (Vec Expr Global) KifFault) → length text ≤ limit → Gives (λ v. views v.items) r (read max_depth text) → IfOk r (λ v. SpellsUpTo limit text (views v.items))
all_spelled limit text (Ok v) le h = record { short = le; spelled = read_found max_depth text (views v.items) h; shallow = read_nests max_depth text (views v.items) h }
all_spelled limit text (Err e) le h = tt

pub all_fault : (limit : ℕ) (text : List ℕ) (r : Result (Vec Expr Global) KifFault) → length text ≤ limit → Gives (λ v. views v.items) r (read max_depth text) → IfErr r (IsFaultUpTo limit any_number text)
all_fault limit text (Ok v) le h = tt
all_fault limit text (Err Memory) le h = le
all_fault limit text (Err e) le h = read_fails limit text e le h

pub all_refused : (limit : ℕ) (text : List ℕ) (r : Result (Vec Expr Global) KifFault) → IfErr r (IsFaultUpTo limit any_number text) → IfErr r (λ e. (e ≡ Memory → ⊥) → (xs : Expressions) → SpellsUpTo limit text xs → ⊥)
all_refused limit text (Ok v) h = tt
all_refused limit text (Err e) h = λ not xs spells. all_not_refused limit text xs spells (e, not, h)

pub one_spelled : (text : List ℕ) (r : Result Expr KifFault) → length text ≤ max_length → Gives view r (read_single text) → IfOk r (λ x. SpellsOne text (view x))
one_spelled text (Ok x) le h = (let found = single_found text (view x) h in record { short = le; spelled = found.0; shallow = found.1 })
one_spelled text (Err e) le h = tt

pub one_fault : (text : List ℕ) (r : Result Expr KifFault) → length text ≤ max_length → Gives view r (read_single text) → IfErr r (IsFault one_expression text)
one_fault text (Ok x) le h = tt
one_fault text (Err Memory) le h = le
one_fault text (Err e) le h = single_fault text e le h

pub one_found : (text : List ℕ) (r : Result Expr KifFault) → length text ≤ max_length → Gives view r (read_single text) → IfOk r (λ x. reading text ≡ Some (view x))
one_found text (Ok x) le h = reading_within text le ∙ ap result_ok h
one_found text (Err e) le h = tt

pub one_refused : (text : List ℕ) (r : Result Expr KifFault) → length text ≤ max_length → Gives view r (read_single text) → IfErr r (λ e. (e ≡ Memory → ⊥) → reading text ≡ None)
one_refused text (Ok x) le h = tt
one_refused text (Err Memory) le h = λ not. absurd (not refl)
one_refused text (Err e) le h = λ not. reading_within text le ∙ ap result_ok h
