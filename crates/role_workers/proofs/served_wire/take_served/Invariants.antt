use Rattle.std.proofs.Common.{◌≡◌}
use Rattle.call_history.specs.RingLines.{posted_calls, taken_replies, SameLine}
use Rattle.role_workers.proofs.served_wire.take_served.Given as goal

abbrev pub invariant-loop-tried : goal.invariant-loop-tried
invariant-loop-tried g l = record {
  line : SameLine l.initial.line l.line;
  posted : posted_calls l.line ≡ posted_calls l.initial.line;
  taken : taken_replies l.line ≡ taken_replies l.initial.line;
}
