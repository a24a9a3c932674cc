use Rattle.match_desk.proofs.FollowedHistories.{closed-headline}
use Rattle.match_desk.proofs.closing.close_desk.Goals as goal

pub returns-clause-headline : goal.returns-clause-headline
returns-clause-headline g c =
    closed-headline g.G.Game.rules c.match_laws.ensures c.args.desk.lines (λ x. x.object) (λ x. x.history.items) (λ x. x.made_by_line.items) c.close.result
    c.close.ensures.replay c.close.ensures.lines c.close.ensures.counted
