use Rattle.std.proofs.Common.{◌≡◌, ◌+◌, ◌++◌, map, length, drop}
use Rattle.std.specs.Vec.Iter.{into_iter_items, into_iter_len}
use Rattle.role_workers.specs.RoleLines.{IsFinishedAt}
use Rattle.role_workers.specs.Places.{EachAt}
use Rattle.role_workers.proofs.finishing.finish_all.Given as goal

-- the elements that were added, followed by the elements that remain
abbrev pub invariant-loop-wire : goal.invariant-loop-wire
invariant-loop-wire g l = record {
  rest : into_iter_items l.wire-iterator ≡ drop (length l.lines.items) l.fn.attended.items;
  left : into_iter_len l.wire-iterator + length l.lines.items ≡ length l.fn.attended.items;
  each : EachAt (IsFinishedAt (map (λ a. a.wire.line) l.fn.attended.items)) l.lines.items;
  ends : l.ends.items ++ map (λ a. a.end) (into_iter_items l.wire-iterator) ≡ map (λ a. a.end) l.fn.attended.items;
  players : l.players.items ++ map (λ a. a.player) (into_iter_items l.wire-iterator) ≡ map (λ a. a.player) l.fn.attended.items;
}
