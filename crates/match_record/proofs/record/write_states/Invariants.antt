use Rattle.std.proofs.Common.{map, take}
use Rattle.match_book.specs.MatchValue.{state_after}
use Rattle.match_record.specs.Internal.Written.{HasBegun}
use Rattle.record_reading.specs.RecordParts.{prefixes}
use Rattle.record_reading.specs.RecordTree.{texts_tree}
use Rattle.match_record.proofs.record.write_states.Given as goal

abbrev pub invariant-loop-turn : goal.invariant-loop-turn
invariant-loop-turn g l = HasBegun l.fn.out l.out (map (λ front. texts_tree ((g.G.Game.rules l.game).state_text (state_after (g.G.Game.rules l.game) front))) (prefixes (take l.turn l.held.value.turns)))
