use Rattle.std.proofs.Common.{◌≡◌, ◌≤◌, vec_len}
use Rattle.match_plans.specs.declared.season_form.RecordOrder.TheVariants.{OfSchedule}
use Rattle.match_season.specs.Seasons.{ArePlaced, Rises, WritesMore, settled_on}
use Rattle.match_season.proofs.season_output.write_season.Given as goal

abbrev pub invariant-loop : goal.invariant-loop
invariant-loop g l = record {
  within : l.next ≤ vec_len l.waiting;
  places : vec_len l.waiting ≡ l.count;
  placed : ArePlaced (λ over. over.place) l.waiting.items;
  settled : l.order ≡ OfSchedule → l.written.is_settled.items ≡ settled_on l.initial.written.is_settled.items 0 l.next;
  written : WritesMore g.N.OutputBrand.is_output (λ places. l.order ≡ OfSchedule → Rises 0 places l.next) l.initial.written l.written (g.W.Write.contents l.initial.writer.stream) (g.W.Write.contents l.writer.stream);
  faults : l.writer.faults ≡ l.initial.writer.faults;
}
