use Rattle.std.proofs.Common.{length, refl}
use Rattle.std.proofs.lemmas.Option.{slice_get_read}
use Rattle.std.proofs.lemmas.Result.{IfOk-weaker}
use Rattle.match_season.proofs.season.Season.play.Goals as goal

pub returns-clause-played : goal.returns-clause-played
returns-clause-played g c =
    let prepared = c.in_ok-prepared.prepared in
    let plans = c.args.self.now.plans.now in
    let read = c.in-Some.ensures.lookup in
    let there = slice_get_read plans (length plans) c.args.place c.in-Some.plan.now refl read.3.0 read.1 in
    IfOk-weaker c.ended_match.result _ _ (λ ended it. (c.in-Some.plan.now, there, it.0, it.1, (prepared.setup, c.in_ok-prepared.ensures.setup, prepared.players.items, c.in_ok-prepared.ensures.reached, it.2), it.3)) c.ended_match.ensures.played
