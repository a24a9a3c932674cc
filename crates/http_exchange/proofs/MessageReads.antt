-- The steps of reading a message.
use Rattle.std.proofs.Common.{◌≡◌, ℕ, ◌+◌, ◌<◌, ◌≤◌, Bool, true, false, cond, List, ◌++◌, length, Option, Some, None, refl, sym, ap, subst, ◌∙◌, arith, inr}
use Rattle.std.specs.Prelude.{nat_le, nat_lt}
use Rattle.std.specs.Io.KnownBytes.{Consumes}
use Rattle.std.proofs.KnownBytes.{Consumes-trans, Consumes-kept}
use Rattle.std.proofs.lemmas.Bool.{false≢true}
use Rattle.game_core.specs.Counting.{Counting, CallsMade, one_more}
use Rattle.http_exchange.specs.HttpHead.{HeadIs, max_head, max_body}
use Rattle.http_exchange.specs.Internal.Heads.{IsKnown}
use Rattle.http_exchange.specs.Looks.{Looks, look_from, look_past}
use Rattle.http_exchange.specs.Exchange.{Gives}
use Rattle.http_exchange.specs.WireFaults.{fault_of, ReadStops, WantsMore}
use Rattle.http_exchange.specs.Internal.Reads.{Grows, ReadOnceStops}
use Rattle.http_exchange.specs.declared.head.HttpKind.{HttpKind}
use Rattle.http_exchange.specs.declared.head.HttpKind.TheVariants.{Reply}
use Rattle.http_exchange.specs.declared.head.Head.{Head}
use Rattle.http_exchange.specs.declared.head.Head.TheVariants.{Unfinished, Whole, Bad, Refused}
use Rattle.http_exchange.specs.declared.look.Look.{Look}
use Rattle.http_exchange.specs.declared.look.Look.TheVariants as looks
use Rattle.http_exchange.specs.declared.wire_fault.FrameFault.{FrameFault}
use Rattle.http_exchange.specs.declared.wire_fault.FrameFault.TheVariants as refusals
use Rattle.http_exchange.specs.declared.wire_fault.WireFault.{WireFault}
use Rattle.http_exchange.specs.declared.wire_fault.WireFault.TheVariants.{WriteFault, ReadFault, BadHead, BadStatus, BadLength, TooLong, CutShort, TooManyReads, Memory}
use Rattle.http_exchange.proofs.Heads.{known_on}

-- the earlier bytes, followed by the bytes of one more read
pub reached : (a b c : Option (List ℕ)) (held given now : List ℕ) (ended : Bool) → Consumes a b held → Gives b c given ended
    → now ≡ held ++ given → Gives a c now ended
reached a b c held given now ended before gives grew = record {
  consumed = subst (Consumes a c) (sym grew) (Consumes-trans a b c held given before gives.consumed);
  at_end = gives.at_end;
}

pub read_stops : {S : Type 0} (kind : HttpKind) (fault : WireFault) (a b c : Option (List ℕ)) (held : List ℕ) (first before after : Counting S)
    → Consumes a b held → WantsMore kind held → first.faults ≤ before.faults → ReadOnceStops fault b c before after
    → (given : List ℕ) × (ended : Bool) × Gives a c given ended × ReadStops kind fault given ended first after
read_stops kind (ReadFault cause) a b c held first before after h wants kept fails =
    (held, false, record { consumed = Consumes-kept a b c held h fails.1; at_end = λ e. absurd (false≢true e) }, (fails.0, refl, wants, λ below. let rose : before.faults < after.faults = fails.2 below in omega arith))
read_stops kind Memory a b c held first before after h wants kept fails =
    (held ++ fails.0, false, record { consumed = Consumes-trans a b c held fails.0 h fails.1; at_end = λ e. absurd (false≢true e) }, tt)
read_stops kind WriteFault a b c held first before after h wants kept fails = absurd fails
read_stops kind BadHead a b c held first before after h wants kept fails = absurd fails
read_stops kind BadStatus a b c held first before after h wants kept fails = absurd fails
read_stops kind BadLength a b c held first before after h wants kept fails = absurd fails
read_stops kind TooLong a b c held first before after h wants kept fails = absurd fails
read_stops kind CutShort a b c held first before after h wants kept fails = absurd fails
read_stops kind TooManyReads a b c held first before after h wants kept fails = absurd fails

refused_as : {S : Type 0} (kind : HttpKind) (refusal : FrameFault) (given : List ℕ) (ended : Bool) (old new : Counting S) → Looks kind given ended (looks.Refused refusal)
    → ReadStops kind (fault_of refusal) given ended old new
refused_as kind refusals.BadHead given ended old new h = (refusals.BadHead, refl, h)
refused_as kind (refusals.BadStatus status) given ended old new h = (refusals.BadStatus status, refl, h)
refused_as kind refusals.TransferEncoding given ended old new h = (refusals.TransferEncoding, refl, h)
refused_as kind refusals.NoNumber given ended old new h = (refusals.NoNumber, refl, h)
refused_as kind refusals.TwoLengths given ended old new h = (refusals.TwoLengths, refl, h)
refused_as kind refusals.NoLength given ended old new h = (refusals.NoLength, refl, h)
refused_as kind refusals.TooLong given ended old new h = (refusals.TooLong, refl, h)
refused_as kind refusals.CutShort given ended old new h = (refusals.CutShort, refl, h)

pub look_stops : {S : Type 0} (kind : HttpKind) (refusal : FrameFault) (fault : WireFault) (given : List ℕ) (ended : Bool) (old new : Counting S) → fault ≡ fault_of refusal
    → Looks kind given ended (looks.Refused refusal) → ReadStops kind fault given ended old new
look_stops kind refusal fault given ended old new is h =
    subst (λ (f : WireFault). ReadStops kind f given ended old new) (sym is) (refused_as kind refusal given ended old new h)

pub want_of_memory : {S : Type 0} (kind : HttpKind) (fault : WireFault) (given : List ℕ) (ended : Bool) (old new : Counting S) → fault ≡ Memory
    → ReadStops kind fault given ended old new
want_of_memory kind fault given ended old new is = subst (λ (f : WireFault). ReadStops kind f given ended old new) (sym is) tt

neither : (b : Bool) (x y : Look) → (looks.More ≡ x → ⊥) → (looks.More ≡ y → ⊥) → looks.More ≡ cond b x y → ⊥
neither true x y p q h = p h
neither false x y p q h = q h

not_refused : (r : FrameFault) → looks.More ≡ looks.Refused r → ⊥
not_refused r h = cc

not_body : (s e : ℕ) → looks.More ≡ looks.Body s e → ⊥
not_body s e h = cc

no_more_from : (start : ℕ) (size : Option ℕ) (have : ℕ) → looks.More ≡ look_from start size have true → ⊥
no_more_from start (Some n) have h = neither (nat_le (start + n) have) _ _ (not_body _ _) (not_refused _) h
no_more_from start None have h = neither (nat_lt (start + max_body Reply) have) _ _ (not_refused _) (not_body _ _) h

no_more_past : (head : Head) (have : ℕ) → looks.More ≡ look_past head have true → ⊥
no_more_past Unfinished have h = neither (nat_le max_head have) _ _ (not_refused _) (not_refused _) h
no_more_past (Bad part) have h = not_refused refusals.BadHead h
no_more_past (Refused refusal) have h = not_refused refusal h
no_more_past (Whole frame) have h = no_more_from frame.start frame.length have h

not_ended : (head : Head) (have : ℕ) (ended : Bool) → looks.More ≡ look_past head have ended → ended ≡ false
not_ended head have true h = absurd (no_more_past head have h)
not_ended head have false h = refl

-- the result for the bytes, from the result for their number
pub looks_at : (kind : HttpKind) (seen now : List ℕ) (head : Head) (have : ℕ) (ended : Bool) (look : Look) → seen ≡ now → have ≡ length now
    → HeadIs kind seen head → look ≡ look_past head have ended → Looks kind now ended look
looks_at kind seen now head have ended look same count is said =
    (head, subst (λ (l : List ℕ). HeadIs kind l head) same is, said ∙ ap (λ n. look_past head n ended) count)

pub one_more_call : (calls first before after : ℕ) → CallsMade calls first before → after ≡ one_more before → CallsMade (calls + 1) first after
one_more_call calls first before after made is below =
    let one : 1 + before ≤ after = omega arith in
    let so_far : calls + first ≤ before = made (omega arith) in
    omega arith

-- what was known about the earlier bytes is still known about all bytes so far
pub known_after : (kind : HttpKind) (held given now seen : List ℕ) (head : Head) → now ≡ held ++ given → seen ≡ now → IsKnown kind held head → IsKnown kind seen head
known_after kind held given now seen head grew same known =
    subst (λ (l : List ℕ). IsKnown kind l head) (sym (same ∙ grew)) (known_on kind held given head known)

-- one more read, after which still more bytes are needed
pub read_keeps : {S : Type 0} (kind : HttpKind) (a b c : Option (List ℕ)) (held now seen : List ℕ) (head : Head) (have : ℕ) (ended : Bool) (first before after : Counting S) (call : ℕ)
    → Consumes a b held → first.faults ≤ before.faults → CallsMade call first.calls before.calls
    → Grows b c held now ended before after → seen ≡ now → have ≡ length now → HeadIs kind seen head → looks.More ≡ look_past head have ended
    → Consumes a c now × WantsMore kind now × (first.faults ≤ after.faults) × CallsMade (call + 1) first.calls after.calls × IsKnown kind now head
read_keeps kind a b c held now seen head have ended first before after call given kept called more same count is said =
    let open_yet = not_ended head have ended said in
    let later : before.faults ≤ after.faults = more.kept in
    let here : HeadIs kind now head = subst (λ (l : List ℕ). HeadIs kind l head) same is in
    let asked : looks.More ≡ look_past head (length now) false = said ∙ (λ i. look_past head (count i) (open_yet i)) in (
      (reached a b c held more.given now ended given more.gives more.grew).consumed,
      inr (head, here, asked),
      omega arith,
      one_more_call call _ before.calls _ called more.called,
      inr here,
    )
