use Rattle.std.proofs.Common.{map}
use Rattle.serde_json.specs.Data.{string}
use Rattle.match_record.specs.Internal.Written.{HasBegun}
use Rattle.record_reading.specs.RecordParts.{each_role}
use Rattle.match_record.proofs.record.write_role_names.Given as goal

abbrev pub invariant-loop-role : goal.invariant-loop-role
invariant-loop-role g l = HasBegun l.fn.out l.out (map string (each_role l.role (g.G.Game.rules l.game).role_name))
