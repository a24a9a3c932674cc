use Rattle.ggp_commands.proofs.matches.perform_match_task.Goals as goal

pub returns-in-Season-clause-at_fault : goal.returns-in-Season-clause-at_fault
returns-in-Season-clause-at_fault g c = rw c.in-Season.is c.season.ensures.at_fault
