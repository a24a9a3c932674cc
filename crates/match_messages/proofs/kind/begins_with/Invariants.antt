use Rattle.std.proofs.Common.{◌≡◌, take}
use Rattle.match_messages.proofs.kind.begins_with.Given as goal

abbrev pub invariant-loop-place : goal.invariant-loop-place
invariant-loop-place l = take l.place l.word ≡ take l.place l.text
