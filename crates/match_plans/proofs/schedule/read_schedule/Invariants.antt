use Rattle.std.proofs.Common.{◌≡◌, ◌≤◌, All, length, map, vec_len}
use Rattle.std.specs.List.{AllZip}
use Rattle.match_plans.specs.Schedules.{HaveIdsOnce, IsPlanned, match_words}
use Rattle.match_plans.proofs.schedule.read_schedule.Given as goal

abbrev pub invariant-loop-line : goal.invariant-loop-line
invariant-loop-line l = record {
  can_next : (goal.iterator-loop-line).can_next l.line-iterator;
  finite : (goal.iterator-loop-line).is_finite l.line-iterator;
  number : l.number ≡ length l.yielded;
  within : length l.plans.items ≤ 65536;
  planned : AllZip (IsPlanned l.strikes) (match_words (map (λ line. line.now) l.yielded)) l.plans.items;
  roles : All (λ plan. vec_len plan.players ≡ l.roles) l.plans.items;
  once : HaveIdsOnce l.plans.items;
  ids : map (λ id. id.now) l.ids.keys ≡ map (λ plan. plan.id.now) l.plans.items;
}
