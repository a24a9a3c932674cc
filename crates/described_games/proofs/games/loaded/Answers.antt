use Rattle.std.proofs.Common.{rules, ◌≢◌, List, ℕ, refl, sym, subst}
use Rattle.std.proofs.lemmas.Result.{err_from_is_err_and}
use Rattle.std.specs.Prelude.{map}
use Rattle.game_core.specs.Expression.{Expression, folded}
use Rattle.game_core.specs.Limits.{max_bytes}
use Rattle.game_core.specs.declared.limits.Limits.{Limits}
use Rattle.kif_text.specs.Faults.{IsFaultUpTo, any_number}
use Rattle.kif_text.specs.Spelling.{SpellsUpTo}
use Rattle.kif_text.specs.View.{view, expressions}
use Rattle.kif_text.specs.declared.fault.KifFault.{KifFault}
use Rattle.kif_text.specs.declared.fault.KifFault.TheVariants.{BadByte, Unopened, TooDeep, Unclosed, Nothing, More, TooLong, Memory as KifMemory}
use Rattle.ground_rules.specs.Loading.{IsLoadFault}
use Rattle.rule_sentences.specs.declared.fault.LoadFault.{LoadFault}
use Rattle.rule_sentences.specs.declared.fault.LoadFault.TheVariants.{Variable, BadForm, Misplaced, NoRole, RoleTwice, TooLarge, Cyclic, Depends, Memory as LoadMemory}
use Rattle.described_games.specs.declared.games.DescriptionFault.{DescriptionFault}
use Rattle.described_games.specs.declared.games.DescriptionFault.TheVariants.{Memory}
use Rattle.described_games.specs.Games.{DescribesNone, faulty, IsRefusedAs, reading_fault, loading_fault}
use Rattle.described_games.proofs.games.loaded.Goals as goal

IsNoneBut : Limits → List ℕ → DescriptionFault → Type 0
IsNoneBut limits text fault = fault ≢ Memory → DescribesNone limits text

unread : (limits : Limits) (text : List ℕ) (fault : KifFault) → IsFaultUpTo (max_bytes limits) any_number text fault → IsRefusedAs limits text (reading_fault fault)
unread limits text (BadByte i) found = ((λ same. absurd cc), found)
unread limits text (Unopened i) found = ((λ same. absurd cc), found)
unread limits text (TooDeep i) found = ((λ same. absurd cc), found)
unread limits text (Unclosed i) found = ((λ same. absurd cc), found)
unread limits text Nothing found = ((λ same. absurd cc), found)
unread limits text (More i) found = ((λ same. absurd cc), found)
unread limits text TooLong found = ((λ same. absurd cc), found)
unread limits text KifMemory found = tt

unfit : (limits : Limits) (text : List ℕ) (xs : List Expression) (fault : LoadFault) → SpellsUpTo (max_bytes limits) text (expressions xs) → IsLoadFault limits (map folded xs) fault → IsRefusedAs limits text (loading_fault fault)
unfit limits text xs (Variable i) spelled found = ((λ same. absurd cc), xs, spelled, found)
unfit limits text xs (BadForm i) spelled found = ((λ same. absurd cc), xs, spelled, found)
unfit limits text xs (Misplaced i) spelled found = ((λ same. absurd cc), xs, spelled, found)
unfit limits text xs NoRole spelled found = ((λ same. absurd cc), xs, spelled, found)
unfit limits text xs RoleTwice spelled found = ((λ same. absurd cc), xs, spelled, found)
unfit limits text xs TooLarge spelled found = ((λ same. absurd cc), xs, spelled, found)
unfit limits text xs Cyclic spelled found = ((λ same. absurd cc), xs, spelled, found)
unfit limits text xs Depends spelled found = ((λ same. absurd cc), xs, spelled, found)
unfit limits text xs LoadMemory spelled found = tt

refused : (limits : Limits) (text : List ℕ) (xs : List Expression) (fault : LoadFault) → SpellsUpTo (max_bytes limits) text (expressions xs) → IsLoadFault limits (map folded xs) fault → IsNoneBut limits text (loading_fault fault)
unfolding IsNoneBut
refused limits text xs (Variable i) spelled found = λ _. faulty xs (Variable i) spelled (λ same. absurd cc) found
refused limits text xs (BadForm i) spelled found = λ _. faulty xs (BadForm i) spelled (λ same. absurd cc) found
refused limits text xs (Misplaced i) spelled found = λ _. faulty xs (Misplaced i) spelled (λ same. absurd cc) found
refused limits text xs NoRole spelled found = λ _. faulty xs NoRole spelled (λ same. absurd cc) found
refused limits text xs RoleTwice spelled found = λ _. faulty xs RoleTwice spelled (λ same. absurd cc) found
refused limits text xs TooLarge spelled found = λ _. faulty xs TooLarge spelled (λ same. absurd cc) found
refused limits text xs Cyclic spelled found = λ _. faulty xs Cyclic spelled (λ same. absurd cc) found
refused limits text xs Depends spelled found = λ _. faulty xs Depends spelled (λ same. absurd cc) found
refused limits text xs LoadMemory spelled found = λ differs. absurd (differs refl)

pub returns-in_err-load_within-clause-refused : goal.returns-in_err-load_within-clause-refused
unfolding IsNoneBut
returns-in_err-load_within-clause-refused c =
    let limits = c.args.limits in
    let text = c.args.rules.now in
    let sentences = map view c.in_ok-sentences.sentences.items in
    let passed = err_from_is_err_and c.from_residual-in_err-load_within.result c.from_residual-in_err-load_within.ensures.1 in
    let spelled : SpellsUpTo (max_bytes limits) text (expressions sentences) = rw c.bytes.ensures at c.in_ok-sentences.ensures.spelled in
    let why = refused limits text sentences c.in_err-load_within.field-0.0 spelled c.in_err-load_within.ensures in
    rw passed.1 (subst (IsNoneBut limits text) (sym passed.2) why)

pub returns-in_err-sentences-clause-fault : goal.returns-in_err-sentences-clause-fault
returns-in_err-sentences-clause-fault c =
    let limits = c.args.limits in
    let text = c.args.rules.now in
    let passed = err_from_is_err_and c.from_residual.result c.from_residual.ensures.1 in
    let why = unread limits text c.in_err-sentences.field-0.0 (rw c.bytes.ensures at c.in_err-sentences.ensures.fault) in
    rw passed.1 (subst (IsRefusedAs limits text) (sym passed.2) why)

pub returns-in_err-load_within-clause-fault : goal.returns-in_err-load_within-clause-fault
returns-in_err-load_within-clause-fault c =
    let limits = c.args.limits in
    let text = c.args.rules.now in
    let sentences = map view c.in_ok-sentences.sentences.items in
    let passed = err_from_is_err_and c.from_residual-in_err-load_within.result c.from_residual-in_err-load_within.ensures.1 in
    let spelled : SpellsUpTo (max_bytes limits) text (expressions sentences) = rw c.bytes.ensures at c.in_ok-sentences.ensures.spelled in
    let why = unfit limits text sentences c.in_err-load_within.field-0.0 spelled c.in_err-load_within.ensures in
    rw passed.1 (subst (IsRefusedAs limits text) (sym passed.2) why)
