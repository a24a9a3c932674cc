use Rattle.std.proofs.Common.{arith, ap, length, ◌∙◌}
use Rattle.std.proofs.lemmas.List.{length-replicate}
use Rattle.match_season.proofs.WrittenLines.{all-but}
use Rattle.match_season.proofs.season.Season.write_played.Goals as goal

pub returns-in-Ok-clause-written : goal.returns-in-Ok-clause-written
returns-in-Ok-clause-written g c =
    let before = c.args.nothing in
    let after = c.write_season.new.written in
    all-but _ _ (length c.args.self.now.plans.now) c.missing.result before after _ _ c.requires.fresh.0 (ap length c.requires.fresh.1 ∙ length-replicate _ _) (omega arith) (omega (arith, c.missing.ensures, after.is_settled.ok.0)) c.in-Ok.ensures.written

pub returns-clause-at_fault : goal.returns-clause-at_fault
returns-clause-at_fault g c = rw (ap length c.requires.fresh.1 ∙ length-replicate _ _) at c.in-Err.ensures.at_fault
