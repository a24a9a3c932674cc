use Rattle.std.proofs.Common.{◌≡◌, ℕ, ◌+◌, ◌-◌, ◌≤◌, Option, true, get_or, is_some}
use Rattle.std.specs.List.{AllWithin}
use Rattle.match_season.specs.Seasons.{ArePlaced, Rises, WritesMore, settled_on}
use Rattle.match_season.proofs.season_output.write_waiting.Given as goal

abbrev pub invariant-loop-place : goal.invariant-loop-place
invariant-loop-place g l = record {
  bound : l.place - l.next ≤ l.count - l.next;
  ahead : (k : ℕ) (d : Option _) → l.place ≤ k → get_or l.waiting k d ≡ get_or l.initial.waiting k d;
  over : AllWithin (λ it. is_some it ≡ true) l.initial.waiting l.next l.place;
  placed : ArePlaced (λ over. over.place) l.initial.waiting → ArePlaced (λ over. over.place) l.waiting;
  settled : ArePlaced (λ over. over.place) l.initial.waiting → l.written.is_settled.items ≡ settled_on l.initial.written.is_settled.items l.next (l.place - l.next);
  written : WritesMore g.N.OutputBrand.is_output (λ places. ArePlaced (λ over. over.place) l.initial.waiting → Rises l.next places (l.next + (l.place - l.next))) l.initial.written l.written (g.W.Write.contents l.initial.writer.stream) (g.W.Write.contents l.writer.stream);
  faults : l.writer.faults ≡ l.initial.writer.faults;
}
