use Rattle.std.proofs.Common.{ℕ, List, ◌⊎◌, inl, inr}
use Rattle.std.proofs.lemmas.Result.{IfErr-weaker}
use Rattle.command_line.specs.declared.tasks.GameOptions.{GameOptions}
use Rattle.game_commands.specs.Commands.{IsRefused, IsSourceText, limits_of}
use Rattle.command_faults.specs.declared.fault.Fault.{Fault}
use Rattle.ggp_commands.specs.LoadedGame.{HasNoRules, IsNotLoadedGame}
use Rattle.ggp_commands.proofs.loaded_game.load.Goals as goal

not_loaded : (plan : GameOptions) (text : List ℕ) (fault : Fault) → IsSourceText plan.game text
    → IsRefused (limits_of plan.game) text fault ⊎ HasNoRules plan.player_rules fault → IsNotLoadedGame plan fault
not_loaded plan text fault is (inl refused) = inr (inl (text, is, refused))
not_loaded plan text fault is (inr none) = inr (inr none)

pub returns-clause-fault : goal.returns-clause-fault
returns-clause-fault g c =
    let faults = rw c.deref.ensures.value at (rw c.limits_of.ensures at c.loaded_game_of.ensures.fault) in
    IfErr-weaker c.loaded_game_of.result _ _ (λ fault why. not_loaded c.args.plan _ fault c.in_ok-text.ensures.text why) faults
