-- The values that a text is read as, and whether the text is a lawful record.
use Rattle.std.proofs.Common.{◌≡◌, ◌≢◌, ap, List, sym, subst, Result, inr}
use Rattle.std.specs.Prelude.{ℕ, IfErr}
use Rattle.std.proofs.lemmas.Result.{IfErr-weaker}
use Rattle.serde_json.specs.Data.{Data}
use Rattle.game_core.specs.Play.{Rules}
use Rattle.match_book.specs.MatchValue.{MatchValue}
use Rattle.desk_calls.specs.Names.{IsLawfulSetup}
use Rattle.record_reading.specs.LawfulRecord.{AreLawfulParts, IsJson, IsLawfulRecord, HasNoShape, HasWrongLength, HoldsOnePartsAtMost, LawfulPartsHaveShape, RefusedIsUnlawful}
use Rattle.record_reading.specs.RecordParts.{parts_in}
use Rattle.record_reading.specs.RecordTree.{Holds, HasShape, IsShapedAt}
use Rattle.record_reading.specs.declared.record_parts.Key.{Key}
use Rattle.record_reading.specs.declared.record_parts.Key.TheVariants.{MatchId, PlayClock, Players, StartClock, Strikes}
use Rattle.record_reading.specs.declared.record_parts.RecordParts.{RecordParts}
use Rattle.record_reading.specs.declared.record_parts.Version.{Version}
use Rattle.record_reading.specs.declared.verify_fault.VerifyFault.{VerifyFault}
use Rattle.record_reading.specs.declared.verify_fault.VerifyFault.TheVariants.{BadShape, Memory}
use Rattle.record_reading.proofs.OneRecord.{same_read}

-- the values of a text of the right shape
abbrev pub Says : {S M : Type 0} → Rules S M → List ℕ → RecordParts → Type 0
Says g text p = (tree : Data) × IsJson text tree × Holds tree p × HasShape g p

lawful_setup : {S M : Type 0} (g : Rules S M) (version : Version) (m : MatchValue M) → HasShape g (parts_in g version m) → IsLawfulSetup m.setup
lawful_setup g version m shape = record { id = shape.keys MatchId; players = (shape.keys Players).1; start = shape.keys StartClock; play = shape.keys PlayClock; strikes = shape.keys Strikes }

pub lawful_record : {S M : Type 0} (g : Rules S M) (text : List ℕ) (p : RecordParts) → Says g text p → AreLawfulParts g p → IsLawfulRecord g text
lawful_record g text p (tree, json, holds, shape) (m, lawful, same) =
    (tree, m, record { json = json; setup = lawful_setup g p.version m (subst (λ (q : RecordParts). HasShape g q) (sym same) shape); lawful = lawful; version = p.version; holds = subst (λ (q : RecordParts). Holds tree q) (sym same) holds })

pub lawful_parts : {S M : Type 0} (g : Rules S M) → LawfulPartsHaveShape g → HoldsOnePartsAtMost g → (text : List ℕ) (p : RecordParts) → Says g text p → IsLawfulRecord g text → AreLawfulParts g p
lawful_parts g shapes one text p (tree, json, holds, shape) (other, m, found) =
    let same = same_read text other tree found.json json in
    let also = subst (λ (d : Data). Holds d (parts_in g found.version m)) same found.holds in
    let is : parts_in g found.version m ≡ p = one tree (parts_in g found.version m) p (shapes m found.version found.lawful found.setup) shape also holds in
    (m, found.lawful, subst (λ (v : Version). parts_in g v m ≡ p) (ap (λ (q : RecordParts). q.version) is) is)

pub no_shape_refuses : {S M T : Type 0} (g : Rules S M) → RefusedIsUnlawful g → (text : List ℕ) (r : Result T VerifyFault) → IfErr r (HasNoShape g text) → IfErr r (λ fault. fault ≢ Memory → ¬ IsLawfulRecord g text)
no_shape_refuses g refused text r none = IfErr-weaker r (HasNoShape g text) (λ fault. fault ≢ Memory → ¬ IsLawfulRecord g text) (λ fault misshapen other. refused text fault other misshapen) none

pub wrong_length_refuses : {S M : Type 0} (g : Rules S M) → RefusedIsUnlawful g → (text : List ℕ) (tree : Data) (p : RecordParts) (key : Key) → IsJson text tree → Holds tree p × ((at : Key) → IsShapedAt g at p) → HasWrongLength p key → BadShape key ≢ Memory
    → ¬ IsLawfulRecord g text
wrong_length_refuses g refused text tree p key json (holds, shaped) wrong other = refused text (BadShape key) other (tree, json, inr (p, holds, shaped, wrong))
