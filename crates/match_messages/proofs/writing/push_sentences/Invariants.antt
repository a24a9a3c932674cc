use Rattle.std.proofs.Common.{◌≡◌, ◌++◌, drop}
use Rattle.game_core.specs.Canonical.{later}
use Rattle.kif_text.specs.View.{views}
use Rattle.match_messages.proofs.writing.push_sentences.Given as goal

abbrev pub invariant-loop-sentence : goal.invariant-loop-sentence
invariant-loop-sentence l = l.text.items ++ later (views (drop l.sentence-index l.others)) ≡ l.initial.text.items ++ later (views l.others)
