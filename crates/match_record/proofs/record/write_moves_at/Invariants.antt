use Rattle.std.proofs.Common.{◌≡◌}
use Rattle.std.specs.Prelude.{IfSome, slice_get}
use Rattle.serde_json.specs.Data.{string}
use Rattle.match_record.specs.Internal.Written.{HasBegun}
use Rattle.match_record.proofs.RecordLists.{part_of}
use Rattle.match_record.proofs.record.write_moves_at.Given as goal

abbrev pub invariant-loop-role : goal.invariant-loop-role
invariant-loop-role g l = (l.out.before ≡ l.fn.out.before) × IfSome (part_of (λ t. t.moves) (λ m. string ((g.G.Game.rules l.game).move_text m)) l.role (slice_get l.held.value.turns l.turn)) (HasBegun l.fn.out l.out)
