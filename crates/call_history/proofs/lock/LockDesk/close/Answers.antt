use Rattle.std.proofs.Common.{◌≡◌, ◌++◌, List, ℕ, length, take, drop, slice_index, Contains, ap, subst, sym, arith}
use Rattle.std.proofs.lemmas.Grind.{common_steps}
use Rattle.call_history.specs.Lines.{LockDeskValue}
use Rattle.call_history.proofs.lock.LockDesk.close.Goals as goal

pub returns-clause-made : goal.returns-clause-made
returns-clause-made g c =
    let old = c.self.inside.made_by_line in
    let new : List ℕ = c.gather.new.made_by_line in
    let whole : take old.len (new ++ drop (length new) old.items) ≡ new = grind (arith, common_steps) in
    let count : length c.self.inside.found.items ≡ c.args.self.lines = ap (λ (desk : LockDeskValue). desk.lines) c.self.view_is in
    λ k below. subst (λ (made : List ℕ). Contains c.args.lines.items (record { number = k; made = slice_index made k })) (sym whole) (c.gather.ensures.made k (omega (arith, count)))
