-- The names in a line, taken from its parsed record.
use Rattle.std.proofs.Common.{◌≡◌, ◌∙◌, ℕ, Bool, true, false, List, Option, Some, None, ap, sym, subst, refl}
use Rattle.std.specs.Prelude.{if◌then◌else◌}
use Rattle.serde_json.specs.Data.{Data}
use Rattle.game_core.specs.Play.{Rules}
use Rattle.desk_calls.specs.Phases.{is_last}
use Rattle.match_book.specs.MatchValue.{MatchValue}
use Rattle.record_reading.specs.LawfulRecord.{HoldsOnePartsAtMost, IsJson, IsLawfulRecord, IsRecordOf, LawfulPartsHaveShape}
use Rattle.record_reading.specs.RecordParts.{parts_in}
use Rattle.record_reading.specs.RecordTree.{HasShape, Holds}
use Rattle.record_reading.specs.declared.record_parts.RecordParts.{RecordParts}
use Rattle.matches_to_play.specs.Done.{AreNamesOf, IsDone, match_names}

abbrev pub found_by : RecordParts → Option (List ℕ)
found_by p = if is_last p.phase then Some (match_names p.id p.players) else None

module _ {S M : Type 0} (g : Rules S M) (shapes : LawfulPartsHaveShape g) (one : HoldsOnePartsAtMost g) (line : List ℕ) (read : Data) (p : RecordParts) (json : IsJson line read) (holds : Holds read p) (shape : HasShape g p) where
  said_by : (tree : Data) (m : MatchValue M) (is : IsRecordOf g line tree m) → p ≡ parts_in g is.version m
  said_by tree m is =
      let same : Some read ≡ Some tree = sym json.is_read ∙ is.json.is_read in
      let also : read ≡ tree = cc in
      one tree p (parts_in g is.version m) shape (shapes m is.version is.lawful is.setup) (subst (λ (d : Data). Holds d p) also holds) is.holds

  pub done_by_parts : IsLawfulRecord g line → AreNamesOf g line (found_by p)
  done_by_parts (tree, m, is) names = (named (is_last p.phase) refl, found)
    where
      named : (b : Bool) → is_last p.phase ≡ b → (if b then Some (match_names p.id p.players) else None) ≡ Some names → IsDone g line names
      named true last some =
          let said = said_by tree m is in
          let same : match_names p.id p.players ≡ names = cc in
          (tree, m, is, ap (λ (q : RecordParts). is_last q.phase) (sym said) ∙ last, sym same ∙ ap (λ (q : RecordParts). match_names q.id q.players) said)
      named false last none = let bad : ⊥ = cc in absurd bad

      found : IsDone g line names → found_by p ≡ Some names
      found (other, n, also, last, same) =
          let said = said_by other n also in
          let over : is_last p.phase ≡ true = ap (λ (q : RecordParts). is_last q.phase) said ∙ last in
          let here : names ≡ match_names p.id p.players = same ∙ sym (ap (λ (q : RecordParts). match_names q.id q.players) said) in
          ap (λ b. if b then Some (match_names p.id p.players) else None) over ∙ ap Some (sym here)

pub no_names : {S M : Type 0} (g : Rules S M) (line : List ℕ) → ¬ IsLawfulRecord g line → AreNamesOf g line None
no_names g line unlawful names = ((λ none. let bad : ⊥ = cc in absurd bad), λ (tree, m, is, last, same). absurd (unlawful (tree, m, is)))
