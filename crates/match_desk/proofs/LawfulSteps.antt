-- Each call keeps a manager lawful.
use Rattle.std.proofs.Common.{◌≡◌, ◌≢◌, ℕ, zero, suc, ◌<◌, Bool, true, false, Option, Some, None, List, [], ◌∷◌, length, slice_index_or, refl, arith, sym, ◌∙◌, subst, length-append}
use Rattle.std.proofs.lemmas.List.Elements.{All-push}
use Rattle.std.proofs.lemmas.List.Quantifiers.{all_pairs_push}
use Rattle.std.proofs.lemmas.Slice.Eq.{bytes_eq-Decides}
use Rattle.std.specs.Prelude.{find, is_none, slice_get, bytes_eq, if◌then◌else◌}
use Rattle.game_core.specs.Play.{Rules}
use Rattle.match_book.specs.Steps.{new_match}
use Rattle.desk_calls.specs.declared.setup.Setup.{Setup}
use Rattle.desk_calls.specs.declared.answer.Answer.TheVariants.{Text}
use Rattle.match_book.specs.Laws.{NewMatchIsLawful}
use Rattle.match_desk.specs.ManagerValue.{DeskMatch, ManagerValue, has_id, IsMatchOf, IsLawfulManager}
use Rattle.match_desk.specs.Open.{open_refusal, with_new_match, after_open}
use Rattle.match_desk.specs.Steps.{setup_of, missed, after}
use Rattle.match_desk.specs.Internal.MatchLaws.{MatchLaws}
use Rattle.desk_calls.specs.declared.call.Call.{Call}
use Rattle.desk_calls.specs.declared.call.Call.TheVariants.{Open, Next, Submit, Miss, Query, Abort}
use Rattle.desk_calls.specs.declared.call.Refusal.{Refusal}
use Rattle.match_desk.proofs.Managers.{keeps-answer, keeps-abort, lawful-with_change}
use Rattle.match_desk.proofs.OpenTests.{IsOpenable, openable}

pub find-none : {M : Type 0} (id : List ℕ) (ms : List (DeskMatch M)) → find (has_id id) ms ≡ None → (k : ℕ) (d : DeskMatch M) → k < length ms → (slice_index_or ms k d).value.setup.id ≢ id
find-none id [] none k d lt = absurd (omega arith)
find-none {M} id (m ∷ ms) none k d lt = step (bytes_eq id m.value.setup.id) refl none (find-none id ms) k lt
  where
    step : (b : Bool) → bytes_eq id m.value.setup.id ≡ b → (if b then Some m else find (has_id id) ms) ≡ None
        → (find (has_id id) ms ≡ None → (k : ℕ) (d : DeskMatch M) → k < length ms → (slice_index_or ms k d).value.setup.id ≢ id)
        → (k : ℕ) → k < length (m ∷ ms) → (slice_index_or (m ∷ ms) k d).value.setup.id ≢ id
    step true is none later k lt = absurd cc
    step false is none later zero lt = λ same. let w : true ≡ false = sym ((bytes_eq-Decides id m.value.setup.id).1 (sym same)) ∙ is in absurd cc
    step false is none later (suc k) lt = later none k d (omega arith)

module _ {G S M : Type 0} (rules : G → Rules S M) (new : (g : G) → NewMatchIsLawful (rules g)) (d : ManagerValue G M) (lawful : IsLawfulManager rules d) where
  lawful-opened : (game : ℕ) (setup : Setup) → IsOpenable rules d game setup → (o : Option G) → slice_get d.games game ≡ o → IsLawfulManager rules (with_new_match rules d game setup o)
  lawful-opened game setup is None at = lawful
  lawful-opened game setup is (Some g) at =
      let same : is.of_game ≡ g = let w : Some is.of_game ≡ Some g = sym is.is_game ∙ at in cc in
      let wide : length setup.players ≡ (rules g).roles = subst (λ (x : G). length setup.players ≡ (rules x).roles) same is.one_each in
      let opened : IsMatchOf rules d.games (record { game = game; value = new_match (rules g) setup }) =
      record { game = g; is_game = at; lawful = new g setup wide; setup = is.lawful }
      in
      record {
        matches = All-push (IsMatchOf rules d.games) d.matches (record { game = game; value = new_match (rules g) setup }) lawful.matches opened;
        ids_differ = all_pairs_push (λ (m n : DeskMatch M). m.value.setup.id ≢ n.value.setup.id) d.matches (record { game = game; value = new_match (rules g) setup }) lawful.ids_differ (find-none setup.id d.matches is.free);
        few = omega (arith, is.room, length-append d.matches ((record { game = game; value = new_match (rules g) setup }) ∷ []));
      }

  pub lawful-after_open : (game : ℕ) (setup : Setup) → IsLawfulManager rules (after_open rules d game setup)
  lawful-after_open game setup = step (open_refusal rules d game setup) refl
    where
      step : (o : Option Refusal) → open_refusal rules d game setup ≡ o → IsLawfulManager rules (if is_none o then with_new_match rules d game setup (slice_get d.games game) else d)
      step None is = lawful-opened game setup (openable rules d game setup is) (slice_get d.games game) refl
      step (Some reason) is = lawful

pub lawful-after : {G S M : Type 0} (rules : G → Rules S M) → ((g : G) → MatchLaws (rules g)) → (d : ManagerValue G M) → IsLawfulManager rules d → (call : Call) → IsLawfulManager rules (after rules d call)
lawful-after rules laws d lawful (Open id game start play strikes players) = lawful-after_open rules (λ g. (laws g).new) d lawful game (setup_of id start play strikes players)
lawful-after rules laws d lawful (Next id role) = lawful
lawful-after rules laws d lawful (Submit id role round text) = lawful-with_change rules d id _ (keeps-answer rules (λ g. (laws g).answers) role round (Text text)) lawful
lawful-after rules laws d lawful (Miss id role round broken) = lawful-with_change rules d id _ (keeps-answer rules (λ g. (laws g).answers) role round (missed broken)) lawful
lawful-after rules laws d lawful (Query id) = lawful
lawful-after rules laws d lawful (Abort id) = lawful-with_change rules d id _ (keeps-abort rules (λ g. (laws g).aborts)) lawful
