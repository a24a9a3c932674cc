use Rattle.std.proofs.Common.{◌≡◌, take}
use Rattle.match_desk.proofs.asked_setup.copy_texts.Given as goal

abbrev pub invariant-loop-text : goal.invariant-loop-text
invariant-loop-text l = l.items.items ≡ take l.text-index l.texts
