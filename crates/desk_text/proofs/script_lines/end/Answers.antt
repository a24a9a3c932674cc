use Rattle.std.proofs.Common.{ap, sym, ◌∙◌}
use Rattle.std.specs.Prelude.{option_copied}
use Rattle.desk_text.specs.ScriptLines.{is_end}
use Rattle.desk_text.specs.Words.{words_behind}
use Rattle.desk_text.proofs.Names.{no_end}
use Rattle.desk_text.proofs.script_lines.end.Goals as goal

pub returns-in-Some : goal.returns-in-Some
returns-in-Some c = sym (ap (λ rest. is_end (words_behind (option_copied rest))) c.in-Some.is ∙ no_end c.in-Some.text.now)
