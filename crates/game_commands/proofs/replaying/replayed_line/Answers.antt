use Rattle.std.proofs.Common.{◌≡◌, ◌≤◌, ℕ, zero, suc, List, ◌++◌, ap, append_assoc, arith}
use Rattle.std.specs.Prelude.{codes}
use Rattle.std.specs.Fmt.{decimal}
use Rattle.game_commands.specs.Replays.{open_words}
use Rattle.game_commands.proofs.replaying.replayed_line.Goals as goal

words_of_many : (count : ℕ) (end : List ℕ) → 2 ≤ count → open_words count ++ end ≡ codes ", " ++ (decimal count ++ (codes " matches not ended" ++ end))
words_of_many zero end many = absurd (omega arith)
words_of_many (suc zero) end many = absurd (omega arith)
words_of_many (suc (suc more)) end many = ap (λ l. codes ", " ++ l) (append_assoc (decimal (suc (suc more))) (codes " matches not ended") end)

pub returns-in-0 : goal.returns-in-0
returns-in-0 c = rw (c.if-is_json.false, c.in-0.is) c.format-in-0.ensures.ok

pub returns-in-1 : goal.returns-in-1
returns-in-1 c = rw (c.if-is_json.false, c.in-1.is) c.format-in-1.ensures.ok

pub returns-in_default : goal.returns-in_default
returns-in_default c =
    let many : 2 ≤ c.args.unended = omega arith in
    rw (c.if-is_json.false, words_of_many) c.format-in_default.ensures.ok
