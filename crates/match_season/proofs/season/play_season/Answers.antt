use Rattle.std.proofs.Common.{length, rules}
use Rattle.match_season.proofs.WrittenLines.{nothing-written}
use Rattle.match_season.proofs.season.play_season.Goals as goal

pub returns-then-is_empty-clause-written : goal.returns-then-is_empty-clause-written
returns-then-is_empty-clause-written g c = nothing-written _ _ (length c.args.plans.now) _ (search rules)
