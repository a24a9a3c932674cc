use Rattle.std.proofs.Common.{◌≡◌, take}
use Rattle.std.specs.Prelude.{map}
use Rattle.match_book.proofs.turn.move_texts.Given as goal

abbrev pub invariant-loop-taken : goal.invariant-loop-taken
invariant-loop-taken g l = l.items.items ≡ map (g.G.Game.rules l.game).move_text (take l.taken-index l.moves)
