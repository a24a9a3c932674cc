use Rattle.std.proofs.Common.{◌≡◌, ◌+◌, ◌≤◌, ◌++◌, ℕ, List, drop}
use Rattle.player_commands.specs.Rows.{bad_answers}
use Rattle.player_commands.specs.Tables.{AreRows}
use Rattle.player_commands.proofs.check.push_rows.Given as goal

abbrev pub invariant-loop-exchange : goal.invariant-loop-exchange
invariant-loop-exchange l = record {
  count : l.bad + bad_answers (drop l.exchange-index l.exchange-items) l.left ≡ bad_answers l.exchange-items l.turns;
  few : l.bad ≤ l.exchange-index;
  rows : (text : List ℕ) × (l.table.items ≡ l.initial.table.items ++ text)
      × ((rest : List ℕ) → AreRows l.role (drop l.exchange-index l.exchange-items) l.left rest → AreRows l.role l.exchange-items l.turns (text ++ rest));
}
