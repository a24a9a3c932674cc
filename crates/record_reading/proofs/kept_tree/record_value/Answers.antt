use Rattle.std.proofs.Common.{◌≡◌, [], ◌∷◌, sym, ap, ◌∙◌, arith, rules, inr}
use Rattle.std.specs.Prelude.{option_map}
use Rattle.json.specs.Json.{value}
use Rattle.json.specs.Reads.{token_of}
use Rattle.json.proofs.Grammar.{value_is}
use Rattle.serde_json.specs.Data.{object, null}
use Rattle.serde_json.specs.Find.{get}
use Rattle.serde_json.specs.Read.{of_json, converted}
use Rattle.serde_json.specs.View.{view}
use Rattle.serde_json.specs.declared.value.Value.{Null, the_lemmas}
use Rattle.serde_json.proofs.Views.{view-Object}
use Rattle.record_reading.specs.Internal.KeptTree.{kept_at}
use Rattle.record_reading.specs.RecordTree.{key_text}
use Rattle.record_reading.specs.declared.verify_fault.VerifyFault.TheVariants.{NotJson}
use Rattle.record_reading.proofs.KeptMembers.{nothing_at, other_token}
use Rattle.record_reading.proofs.KeptReading.{object_read, object_refused, refused, refused_as}
use Rattle.record_reading.proofs.kept_tree.record_value.Goals as goal

pub returns-in_err-token-clause-err : goal.returns-in_err-token-clause-err
returns-in_err-token-clause-err c =
    let empty : c.args.reader.now ≡ [] = grind arith in
    let is : c.in_err-token.field-0.0 ≡ NotJson = grind arith in
    refused c.from_residual.result _ c.from_residual.ensures.1 (inr (is, ap (λ ts. converted of_json (value 127 ts)) empty ∙ ap (converted of_json) (value_is 127 [])))

pub returns-in_err-record_members-in-BeginObject-clause-err : goal.returns-in_err-record_members-in-BeginObject-clause-err
returns-in_err-record_members-in-BeginObject-clause-err c =
    let rest = c.next.new.self in
    let first : c.args.reader.now ≡ token_of c.in_ok-token.token ∷ rest = grind arith in
    let begins = ap (λ ts. converted of_json (value 127 ts)) (first ∙ ap (λ k. token_of k ∷ rest) c.in-BeginObject.is) in
    refused c.from_residual-in_err-record_members-in-BeginObject.result _ c.from_residual-in_err-record_members-in-BeginObject.ensures.1
    (refused_as _ _ (λ none. begins ∙ object_refused 127 rest (omega arith) none) c.in_err-record_members-in-BeginObject.ensures.err)

pub returns-in_ok-record_members-in-BeginObject-clause-ok : goal.returns-in_ok-record_members-in-BeginObject-clause-ok
returns-in_ok-record_members-in-BeginObject-clause-ok c =
    let rest = c.next.new.self in
    let first : c.args.reader.now ≡ token_of c.in_ok-token.token ∷ rest = grind arith in
    let begins = ap (λ ts. converted of_json (value 127 ts)) (first ∙ ap (λ k. token_of k ∷ rest) c.in-BeginObject.is) in
    let found = c.in_ok-record_members-in-BeginObject.ensures.ok in (
      object found.0,
      begins ∙ object_read 127 rest (omega arith) found.0 c.record_members.new.reader found.1,
      λ key. ap (get (key_text key)) (view-Object c.in_ok-record_members-in-BeginObject.field-0) ∙ found.2 key,
    )

pub returns-in_ok-value_of-in_default : goal.returns-in_ok-value_of-in_default
returns-in_ok-value_of-in_default c =
    let rest = c.next.new.self in
    let t = c.in_ok-token.token in
    let first : c.args.reader.now ≡ token_of t ∷ rest = grind arith in
    let found = c.in_ok-value_of-in_default.ensures.ok in
    let seen : view Null ≡ null = search (rules, the_lemmas) in
    let none = nothing_at 127 (token_of t) rest c.value_of.new.reader found.0 (other_token t c.in_default.not-BeginObject) found.1 in
    record { ok = (found.0, ap (λ ts. converted of_json (value 127 ts)) first ∙ found.1, λ key. ap (get (key_text key)) seen ∙ sym (ap (option_map kept_at) (none (key_text key)))); err = tt }
