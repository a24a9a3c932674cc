use Rattle.std.proofs.Common.{◌≡◌, ◌≤◌, ◌+◌, ◌++◌, ℕ, [], Bool, false, nat_lt, string_bytes, append-nil, ap, sym, ◌∙◌, arith, if◌then◌else◌}
use Rattle.std.proofs.lemmas.Bool.Decides.{nat_tests}
use Rattle.std.specs.Prelude.{codes}
use Rattle.described_games.specs.CountdownText.{step_rule, steps_to}
use Rattle.described_games.proofs.countdown_text.push_steps_to.Goals as goal

-- if taking two would exceed the size, only the rule for taking one is left
one_alone : (size left : ℕ) → size ≤ left + 1 → steps_to size left ≡ step_rule left (left + 1) (codes "one")
one_alone size left few =
    let over : nat_lt (left + 1) size ≡ false = grind (arith, nat_tests) in
    ap (λ (two : Bool). step_rule left (left + 1) (codes "one") ++ (if two then step_rule left (left + 2) (codes "two") else [])) over ∙ append-nil (step_rule left (left + 1) (codes "one"))

pub returns-else-left-from : goal.returns-else-left-from
returns-else-left-from c =
    let few : c.args.size ≤ c.args.left + 1 = omega (arith, c.if-left-from.false, c.from.ensures, c.from-left.ensures) in
    let wrote = rw c.from-left.ensures at c.in_ok-push_step.ensures in
    wrote ∙ ap (λ l. string_bytes c.args.rules.now ++ l) (sym (one_alone c.args.size c.args.left few))
