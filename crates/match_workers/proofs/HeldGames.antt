-- The game of a match of a desk, as the manager's functions return it.
use Rattle.std.proofs.Common.{◌≡◌, Option, Some, None, sym, ap, ◌∙◌}
use Rattle.std.specs.Prelude.{option_map, option_and_then}
use Rattle.match_book.specs.MatchValue.{GameMatch}
use Rattle.match_desk.specs.ManagerValue.{ManagerValue, DeskMatch, game_of, game_match}

pub same_game : {G M : Type 0} (d : ManagerValue G M) (found : Option (DeskMatch M)) (g : G) (held : GameMatch G M)
    → option_and_then (game_of d) found ≡ Some g → option_and_then (game_match d) found ≡ Some held → g ≡ held.game
same_game d None g held is_game is_held = absurd cc
same_game {G} {M} d (Some m) g held is_game is_held = at (game_of d m) is_game is_held
  where
    at : (o : Option G) → o ≡ Some g → option_map (λ x. record { game = x; value = m.value }) o ≡ Some held → g ≡ held.game
    at None is_game is_held = absurd cc
    at (Some x) is_game is_held =
        let same : x ≡ g = cc in
        let whole : record { game = x; value = m.value } ≡ held = cc in
        sym same ∙ ap (λ (h : GameMatch G M). h.game) whole
