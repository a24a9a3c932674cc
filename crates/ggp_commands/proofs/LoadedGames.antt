-- Games that are loaded one after another.
use Rattle.std.proofs.Common.{◌<◌, ◌+◌, ◌++◌, ◌∷◌, [], ℕ, List, get_or, length, subst, sym, take}
use Rattle.std.proofs.lemmas.List.{take_more}
use Rattle.match_plans.specs.declared.game_source.GameSource.{GameSource}
use Rattle.packed_rules.specs.declared.packed_game.PackedGame.{PackedGame}
use Rattle.ggp_commands.specs.LoadedGame.{AreGamesOf, IsGameOf}

one_more : (sources : List GameSource) (games : List PackedGame) (source : GameSource) (game : PackedGame)
    → AreGamesOf sources games → IsGameOf source game → AreGamesOf (sources ++ source ∷ []) (games ++ game ∷ [])
one_more [] [] source game all this = (this, tt)
one_more [] (y ∷ ys) source game all this = absurd all
one_more (x ∷ xs) [] source game all this = absurd all
one_more (x ∷ xs) (y ∷ ys) source game all this = (all.0, one_more xs ys source game all.1 this)

pub one_more_game : (sources : List GameSource) (at : ℕ) (d : GameSource) (games : List PackedGame) (game : PackedGame) → at < length sources
    → AreGamesOf (take at sources) games → IsGameOf (get_or sources at d) game → AreGamesOf (take (at + 1) sources) (games ++ game ∷ [])
one_more_game sources at d games game within all this =
    subst (λ them. AreGamesOf them (games ++ game ∷ [])) (sym (take_more sources at d within)) (one_more (take at sources) games (get_or sources at d) game all this)
