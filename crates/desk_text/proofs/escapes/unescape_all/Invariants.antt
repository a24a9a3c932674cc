use Rattle.std.proofs.Common.{◌≡◌, ◌++◌, take, drop}
use Rattle.std.specs.Prelude.{option_map}
use Rattle.desk_text.specs.Escapes.{all_unescaped}
use Rattle.desk_text.proofs.escapes.unescape_all.Given as goal

abbrev pub invariant-loop-place : goal.invariant-loop-place
invariant-loop-place l = option_map (λ behind. take l.place l.texts.items ++ behind) (all_unescaped (drop l.place l.texts.items)) ≡ all_unescaped l.initial.texts.items
