use Rattle.match_season.specs.Outputs.{IsOutputOf}
use Rattle.match_season.proofs.season.play_season.Given as goal

abbrev pub ghosts-play_named : goal.ghosts-play_named
ghosts-play_named g a = record { is_output = IsOutputOf (g.S.Reach.is_reached a.around.now.reach.now) g.S.Player.Player.handed a.game a.plans.now a.form.has_history }
