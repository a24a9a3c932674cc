use Rattle.std.proofs.Common.{◌≡◌, ◌-◌, ◌<◌, [], ◌∷◌, length, Some, None, refl, ap, ◌∙◌, arith, inr}
use Rattle.json.specs.Json.{read_key, value}
use Rattle.json.specs.Reads.{token_of}
use Rattle.json.proofs.Grammar.{value_is, read_key-shorter}
use Rattle.serde_json.specs.Data.{put, no_members}
use Rattle.serde_json.specs.Find.{get_member}
use Rattle.serde_json.specs.Read.{of_json, converted}
use Rattle.serde_json.specs.View.{members_view}
use Rattle.record_reading.specs.RecordTree.{key_text}
use Rattle.record_reading.specs.declared.verify_fault.VerifyFault.TheVariants.{NotJson}
use Rattle.record_reading.proofs.JsonTurns.{member_read, member_refused, key_refused, members_over}
use Rattle.record_reading.proofs.KeptMembers.{members_kept}
use Rattle.record_reading.proofs.KeptReading.{refused, refused_as}
use Rattle.record_reading.proofs.kept_tree.record_members.Goals as goal

pub members-init : goal.members-init
members-init c = (length c.args.reader.now, no_members, omega arith, refl, λ key. ap (λ es. get_member (key_text key) (members_view es)) c.new-found.ensures.empty)

pub returns-in_err-name-clause-err : goal.returns-in_err-name-clause-err
returns-in_err-name-clause-err c =
    let l = c.members in
    let none = c.in_err-name.ensures.err in
    refused c.from_residual.result _ c.from_residual.ensures.1 (inr (none.0, l.invariant.3 ∙ key_refused (value 126) l.invariant.1 l.invariant.0 l.reader none.1))

pub returns-in_err-token-clause-err : goal.returns-in_err-token-clause-err
returns-in_err-token-clause-err c =
    let l = c.members in
    let k = c.in-Some.name.now in
    let s = c.next_key.new.reader in
    let named : read_key l.reader ≡ Some (Some k, s) = grind arith in
    let empty : s ≡ [] = grind arith in
    let none : converted of_json (value 126 s) ≡ None = ap (λ ts. converted of_json (value 126 ts)) empty ∙ ap (converted of_json) (value_is 126 []) in
    let is : c.in_err-token.field-0.0 ≡ NotJson = grind arith in
    refused c.from_residual-in_err-token.result _ c.from_residual-in_err-token.ensures.1 (inr (is, l.invariant.3 ∙ member_refused (value 126) l.invariant.1 l.invariant.0 k l.reader s named none))

pub returns-in_err-member-clause-err : goal.returns-in_err-member-clause-err
returns-in_err-member-clause-err c =
    let l = c.members in
    let k = c.in-Some.name.now in
    let s = c.next_key.new.reader in
    let named : read_key l.reader ≡ Some (Some k, s) = grind arith in
    let first : s ≡ token_of c.in_ok-token.token ∷ c.next.new.self = grind arith in
    refused c.from_residual-in_err-member.result _ c.from_residual-in_err-member.ensures.1
    (refused_as _ _ (λ none. l.invariant.3 ∙ member_refused (value 126) l.invariant.1 l.invariant.0 k l.reader s named (ap (λ ts. converted of_json (value 126 ts)) first ∙ none)) c.in_err-member.ensures.err)

pub members-preserved : goal.members-preserved
members-preserved c =
    let l = c.members in
    let n = l.invariant.0 in
    let k = c.in-Some.name.now in
    let s = c.next_key.new.reader in
    let named : read_key l.reader ≡ Some (Some k, s) = grind arith in
    let first : s ≡ token_of c.in_ok-token.token ∷ c.next.new.self = grind arith in
    let done = c.in_ok-member.ensures.ok in
    let r = c.value_of.new.reader in
    let less = read_key-shorter l.reader (Some k) s named in
    let lesser : length r < length s = omega (arith, ap length first, c.in_ok-member.ensures.no_longer) in (
      n - 1,
      put k done.0 l.invariant.1,
      omega (arith, l.invariant.2),
      l.invariant.3 ∙ member_read (value 126) l.invariant.1 n k l.reader s r done.0 (omega (arith, l.invariant.2)) named (ap (λ ts. converted of_json (value 126 ts)) first ∙ done.1),
      members_kept l.invariant.1 (members_view l.found.entries) (members_view c.keep_member.new.found.entries) k done.0 l.invariant.4 c.lists_at-lists.result _ c.lists_at-lists.ensures.known c.lists_at-lists.ensures.few done.2 c.in_ok-keep_member.ensures,
    )

pub returns-clause-ok : goal.returns-clause-ok
returns-clause-ok c =
    let l = c.members in
    (l.invariant.1, l.invariant.3 ∙ members_over (value 126) l.invariant.1 l.invariant.0 l.reader c.next_key.new.reader l.invariant.2 (grind arith), l.invariant.4)
