use Rattle.std.specs.Prelude.{Some}
use Rattle.match_workers.proofs.refereeing.referee_shared.Given as goal

abbrev pub ghosts-attend_match : goal.ghosts-attend_match
ghosts-attend_match g a = record { desk = Some a.holder.desk }
