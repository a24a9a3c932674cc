use Rattle.std.proofs.Common.{◌≡◌, length}
use Rattle.std.specs.Prelude.{option_copied}
use Rattle.desk_text.specs.ScriptLines.{names_of}
use Rattle.desk_text.specs.Words.{words_behind}
use Rattle.desk_text.proofs.Names.{before_names}
use Rattle.desk_text.proofs.script_lines.names.Given as goal

abbrev pub invariant-loop-rest : goal.invariant-loop-rest
invariant-loop-rest l = before_names l.items.items (names_of l.grammar (words_behind (option_copied l.rest))) ≡ names_of l.grammar (words_behind (option_copied l.initial.rest))

abbrev pub decreases-loop-rest : goal.decreases-loop-rest
decreases-loop-rest l = length (words_behind (option_copied l.rest))
