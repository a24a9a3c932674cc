use Rattle.std.proofs.Common.{◌≡◌, ◌∷◌, [], ℕ, List}
use Rattle.std.specs.Io.KnownBytes.{Consumes}
use Rattle.game_core.specs.Counting.{CallsMade}
use Rattle.game_commands.proofs.ReadAccounts.{Reads}
use Rattle.game_commands.proofs.replaying.replay_accounts.Given as goal

abbrev pub invariant-loop-place : goal.invariant-loop-place
invariant-loop-place g l = record {
  reads : (given : List ℕ)
      × Consumes (g.R.Read.remaining l.initial.reader.stream) (g.R.Read.remaining l.reader.stream) given
      × Reads g.W.Write.contents l.is_json g.G.Game.rules (l.game ∷ []) given l.buffer l.account l.place l.initial.writer l.writer;
  calls : CallsMade 0 l.initial.reader.calls l.reader.calls;
  read : l.reader.faults ≡ l.initial.reader.faults;
}
