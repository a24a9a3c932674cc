use Rattle.std.proofs.Common.{◌≡◌, take}
use Rattle.record_reading.specs.RecordParts.{each_role}
use Rattle.record_reading.proofs.reading.are_role_names.Given as goal

abbrev pub invariant-loop-role : goal.invariant-loop-role
invariant-loop-role g l = take l.role l.texts ≡ each_role l.role (g.G.Game.rules l.game).role_name
