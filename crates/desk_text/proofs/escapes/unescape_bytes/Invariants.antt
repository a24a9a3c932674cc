use Rattle.std.proofs.Common.{◌≡◌, ◌≤◌, ◌++◌, take, drop, length, ◌-◌}
use Rattle.std.specs.Prelude.{option_map}
use Rattle.desk_text.specs.Escapes.{unescaped}
use Rattle.desk_text.proofs.escapes.unescape_bytes.Given as goal

abbrev pub invariant-loop-place : goal.invariant-loop-place
invariant-loop-place l = record {
  kept : l.kept ≤ l.place;
  within : l.place ≤ length l.bytes.items;
  read : option_map (λ behind. take l.kept l.bytes.items ++ behind) (unescaped (drop l.place l.bytes.items)) ≡ unescaped l.initial.bytes.items;
}

abbrev pub decreases-loop-place : goal.decreases-loop-place
decreases-loop-place l = length l.bytes.items - l.place
