use Rattle.std.proofs.Common.{◌≡◌, ◌++◌, drop}
use Rattle.desk_text.specs.Escapes.{escaped_from}
use Rattle.desk_text.proofs.escapes.push_escaped.Given as goal

abbrev pub invariant-loop-byte : goal.invariant-loop-byte
invariant-loop-byte l = l.out.items ++ escaped_from l.least (drop l.byte-index l.text) ≡ l.initial.out.items ++ escaped_from l.least l.text
