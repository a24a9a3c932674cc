use Rattle.std.proofs.Common.{◌≡◌, ◌++◌, drop}
use Rattle.desk_text.specs.Account.{history_text}
use Rattle.desk_text.proofs.account.push_history.Given as goal

abbrev pub invariant-loop-entry : goal.invariant-loop-entry
invariant-loop-entry l = l.out.items ++ history_text (drop l.entry-index l.history) ≡ l.initial.out.items ++ history_text l.history
