use Rattle.ggp_commands.proofs.SeasonEnds.{season_into_file, season_stops_in_file}
use Rattle.ggp_commands.proofs.matches.season.Goals as goal

pub returns-clause-written : goal.returns-clause-written
returns-clause-written g c = season_into_file (g.S.Reach.is_reached c.args.around.now.reach.now) g.S.Player.Player.handed c.args.game c.args.season c.args.schedule.now c.args.season.records c.in-Some.path c.in_ok-plans.plans.items
    (g.W.Write.contents c.args.writer.now.stream) c.in-Some.is c.in_ok-plans.ensures.plans c.play_into_file.result c.play_into_file.ensures.written

pub returns-clause-at_fault : goal.returns-clause-at_fault
returns-clause-at_fault g c = season_stops_in_file (g.S.Reach.is_reached c.args.around.now.reach.now) g.S.Player.Player.handed c.args.game c.args.season c.args.schedule.now c.args.season.records c.in-Some.path c.in_ok-plans.plans.items
    (g.W.Write.contents c.args.writer.now.stream) c.in-Some.is c.in_ok-plans.ensures.plans c.play_into_file.result c.play_into_file.ensures.at_fault
