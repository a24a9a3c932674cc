-- A lawful manager stays lawful.
use Rattle.std.proofs.Common.{◌≡◌, ℕ, zero, suc, ◌<◌, Bool, true, false, Option, Some, None, List, [], ◌∷◌, ◌++◌, length, slice_index_or, refl, arith, ap, sym, ◌∙◌, subst, Vec}
use Rattle.std.proofs.lemmas.List.{length-map}
use Rattle.std.proofs.lemmas.List.Elements.{All-map}
use Rattle.std.specs.Prelude.{map, is_none, slice_set, option_map, unwrap_or, if◌then◌else◌}
use Rattle.std.specs.Global.{Global}
use Rattle.game_core.specs.Play.{Rules}
use Rattle.match_book.specs.MatchValue.{MatchValue, state_after}
use Rattle.match_book.specs.Lawful.{IsLawfulMatch}
use Rattle.match_book.specs.Roles.{every_role, blank}
use Rattle.match_book.specs.Judgement.{judgement}
use Rattle.match_book.specs.Phase.{stage, answered_in, is_live}
use Rattle.match_book.specs.Steps.{refusal, recorded, turn_of, parts, with_answer_in, with_answer, with_abort, after_answer, after_abort}
use Rattle.match_book.specs.declared.phase.Stage.{Stage}
use Rattle.match_book.specs.declared.phase.Stage.TheVariants.{Starting, Playing, Stopping, Aborting}
use Rattle.desk_calls.specs.declared.setup.Setup.{Setup}
use Rattle.desk_calls.specs.declared.answer.Answer.{Answer}
use Rattle.match_book.specs.Laws.{AnswersKeepLawful, AbortKeepsLawful}
use Rattle.match_desk.specs.ManagerValue.{DeskMatch, ManagerValue, has_id, game_of, IsMatchOf, IsLawfulManager}
use Rattle.desk_calls.specs.Names.{IsLawfulSetup}
use Rattle.match_desk.specs.Internal.Slots.{AreKept}
use Rattle.match_desk.specs.declared.slot.Slot.{Slot}
use Rattle.match_desk.specs.Steps.{changed_match, with_change}

pub lawful-opening : {G S M : Type 0} (rules : G → Rules S M) (games : List G) → IsLawfulManager rules (record { games = games; matches = [] })
lawful-opening rules games = record {
  matches = λ k d lt. absurd (omega arith);
  ids_differ = λ i j d lt below. absurd (omega arith);
  few = omega arith;
}

pub kept-opening : {G S M : Type 0} (rules : G → Rules S M) (games : List G) (entries : List (Vec ℕ Global × Slot G S M)) → entries ≡ [] → AreKept rules games entries
kept-opening {G} {S} {M} rules games entries empty =
    subst (λ (x : List (Vec ℕ Global × Slot G S M)). AreKept rules games x) (sym empty) (record {
      slots = λ k d lt. absurd (omega arith);
      lawful = lawful-opening rules games;
    })

-- answers and aborts do not change the setup
recorded-setup : {S M : Type 0} (g : Rules S M) (m : MatchValue M) → (recorded g m).setup ≡ m.setup
recorded-setup {S} {M} g m = step (every_role g.roles (answered_in Playing m))
  where
    step : (b : Bool) → (if b then record m { turns = m.turns ++ turn_of (parts g m) ∷ []; open_answers = blank g.roles } else m).setup ≡ m.setup
    step true = refl
    step false = refl

with_answer-setup : {S M : Type 0} (g : Rules S M) (m : MatchValue M) (role : ℕ) (answer : Answer) (at : Stage) → (with_answer_in at g m role answer).setup ≡ m.setup
with_answer-setup g m role answer Starting = refl
with_answer-setup g m role answer Playing = recorded-setup g (record m { open_answers = slice_set m.open_answers role (judgement g (state_after g m.turns) role answer) })
with_answer-setup g m role answer Stopping = refl
with_answer-setup g m role answer (Aborting c) = refl

pub after_answer-setup : {S M : Type 0} (g : Rules S M) (m : MatchValue M) (role round : ℕ) (answer : Answer) → (after_answer g m role round answer).setup ≡ m.setup
after_answer-setup {S} {M} g m role round answer = step (is_none (refusal g m role round))
  where
    step : (b : Bool) → (if b then with_answer g m role answer else m).setup ≡ m.setup
    step true = with_answer-setup g m role answer (stage g m)
    step false = refl

pub after_abort-setup : {S M : Type 0} (g : Rules S M) (m : MatchValue M) → (after_abort g m).setup ≡ m.setup
after_abort-setup {S} {M} g m = step (is_live (stage g m))
  where
    step : (b : Bool) → (if b then with_abort g m else m).setup ≡ m.setup
    step true = refl
    step false = refl

-- a change keeps a match lawful, and keeps its setup
pub record IsKeptBy {S M : Type 0} (g : Rules S M) (f : Rules S M → MatchValue M → MatchValue M) : Type 0 where
  pub lawful : (m : MatchValue M) → IsLawfulMatch g m → IsLawfulMatch g (f g m)
  pub setup : (m : MatchValue M) → (f g m).setup ≡ m.setup

pub keeps-answer : {G S M : Type 0} (rules : G → Rules S M) → ((g : G) → AnswersKeepLawful (rules g)) → (role round : ℕ) (answer : Answer) (g : G) → IsKeptBy (rules g) (λ r m. after_answer r m role round answer)
keeps-answer rules keep role round answer g = record {
  lawful = λ m lawful. keep g m role round answer lawful;
  setup = λ m. after_answer-setup (rules g) m role round answer;
}

pub keeps-abort : {G S M : Type 0} (rules : G → Rules S M) → ((g : G) → AbortKeepsLawful (rules g)) → (g : G) → IsKeptBy (rules g) after_abort
keeps-abort rules keep g = record {
  lawful = λ m lawful. keep g m lawful;
  setup = λ m. after_abort-setup (rules g) m;
}

module _ {G S M : Type 0} (rules : G → Rules S M) (d : ManagerValue G M) (id : List ℕ) (f : Rules S M → MatchValue M → MatchValue M) (kept : (g : G) → IsKeptBy (rules g) f) where
  changed : DeskMatch M → DeskMatch M
  changed m = if has_id id m then changed_match rules d f m else m

  value-setup : (o : Option G) (m : MatchValue M) → (unwrap_or (option_map (λ g. f (rules g) m) o) m).setup ≡ m.setup
  value-setup None m = refl
  value-setup (Some g) m = (kept g).setup m

  changed-setup : (m : DeskMatch M) → (changed m).value.setup ≡ m.value.setup
  unfolding changed
  changed-setup m = step (has_id id m)
    where
      step : (b : Bool) → (if b then changed_match rules d f m else m).value.setup ≡ m.value.setup
      step true = value-setup (game_of d m) m.value
      step false = refl

  changed_match-lawful : (m : DeskMatch M) → IsMatchOf rules d.games m → IsMatchOf rules d.games (changed_match rules d f m)
  changed_match-lawful m is =
      let now : unwrap_or (option_map (λ g. f (rules g) m.value) (game_of d m)) m.value ≡ f (rules is.game) m.value = ap (λ o. unwrap_or (option_map (λ g. f (rules g) m.value) o) m.value) is.is_game in
      record {
        game = is.game;
        is_game = is.is_game;
        lawful = subst (λ (x : MatchValue M). IsLawfulMatch (rules is.game) x) (sym now) ((kept is.game).lawful m.value is.lawful);
        setup = subst (λ (x : Setup). IsLawfulSetup x) (sym (value-setup (game_of d m) m.value)) is.setup;
      }

  changed-lawful : (m : DeskMatch M) → IsMatchOf rules d.games m → IsMatchOf rules d.games (changed m)
  unfolding changed
  changed-lawful m is = step (has_id id m)
    where
      step : (b : Bool) → IsMatchOf rules d.games (if b then changed_match rules d f m else m)
      step true = changed_match-lawful m is
      step false = is

  index-map : (ms : List (DeskMatch M)) (k : ℕ) (x : DeskMatch M) → k < length ms → slice_index_or (map changed ms) k x ≡ changed (slice_index_or ms k x)
  index-map [] k x lt = absurd (omega arith)
  index-map (m ∷ ms) zero x lt = refl
  index-map (m ∷ ms) (suc k) x lt = index-map ms k x (omega arith)

  pub lawful-with_change : IsLawfulManager rules d → IsLawfulManager rules (with_change rules d id f)
  unfolding changed
  lawful-with_change lawful = record {
    matches = All-map (IsMatchOf rules d.games) changed d.matches (λ k x lt. changed-lawful (slice_index_or d.matches k x) (lawful.matches k x lt));
    ids_differ = λ i j x lt below.
        let within : j < length d.matches = omega (arith, length-map d.matches changed) in
        let at_i = ap (λ (m : DeskMatch M). m.value.setup.id) (index-map d.matches i x (omega arith)) ∙ ap (λ (s : Setup). s.id) (changed-setup (slice_index_or d.matches i x)) in
        let at_j = ap (λ (m : DeskMatch M). m.value.setup.id) (index-map d.matches j x within) ∙ ap (λ (s : Setup). s.id) (changed-setup (slice_index_or d.matches j x)) in
        λ same. lawful.ids_differ i j x lt within (sym at_i ∙ (same ∙ at_j));
    few = omega (arith, lawful.few, length-map d.matches changed);
  }
