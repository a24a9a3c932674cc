-- Counting the matches of a desk that are not over.
use Rattle.std.proofs.Common.{◌≡◌, ℕ, ◌+◌, [], ◌∷◌, ◌++◌, take, Bool, true, not, cond, Option, Some, None, refl, sym, ap, ◌∙◌}
use Rattle.std.specs.Prelude.{slice_get, option_map, option_and_then, unwrap_or, count_by}
use Rattle.std.proofs.lemmas.List.{take_more}
use Rattle.std.proofs.lemmas.List.Sums.{sum_by_push}
use Rattle.std.proofs.lemmas.Option.{get_or_from_slice_get, slice_get_within}
use Rattle.game_core.specs.Play.{Rules}
use Rattle.desk_calls.specs.Phases.{is_last}
use Rattle.match_book.specs.MatchValue.{GameMatch}
use Rattle.match_book.specs.Phase.{status}
use Rattle.match_desk.specs.ManagerValue.{ManagerValue, DeskMatch, game_match}
use Rattle.game_commands.specs.Replays.{is_over}

abbrev pub open_before : {G S M : Type 0} → (G → Rules S M) → ManagerValue G M → ℕ → ℕ
open_before rules d k = count_by (λ m. not (is_over rules d m)) (take k d.matches)

pub open_before-next : {G S M : Type 0} (rules : G → Rules S M) (d : ManagerValue G M) (k : ℕ) (held : GameMatch G M) → Some held ≡ option_and_then (game_match d) (slice_get d.matches k)
    → open_before rules d (k + 1) ≡ open_before rules d k + cond (not (is_last (status (rules held.game) held.value).phase)) 1 0
open_before-next {G} {S} {M} rules d k held found = at (slice_get d.matches k) refl (sym found)
  where
    over : Option (GameMatch G M) → Bool
    over o = unwrap_or (option_map (λ x. is_last (status (rules x.game) x.value).phase) o) true

    at : (o : Option (DeskMatch M)) → slice_get d.matches k ≡ o → option_and_then (game_match d) o ≡ Some held
        → open_before rules d (k + 1) ≡ open_before rules d k + cond (not (is_last (status (rules held.game) held.value).phase)) 1 0
    at None is found = absurd cc
    at (Some m) is found =
        ap (count_by (λ m. not (is_over rules d m))) (take_more d.matches k m (slice_get_within d.matches k m is) ∙ ap (λ x. take k d.matches ++ x ∷ []) (get_or_from_slice_get d.matches k m m is))
        ∙ sum_by_push (λ m. cond (not (is_over rules d m)) 1 0) (take k d.matches) m
        ∙ ap (λ (o : Option (GameMatch G M)). open_before rules d k + cond (not (unwrap_or (option_map (λ x. is_last (status (rules x.game) x.value).phase) o) true)) 1 0) found
