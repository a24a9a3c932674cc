use Rattle.std.proofs.Common.{◌≡◌, ◌∷◌, [], ◌++◌, sym, ◌∙◌, ap, arith}
use Rattle.call_history.specs.declared.journal.Entry.{Entry}
use Rattle.call_history.proofs.Histories.{IsReplay-snoc}
use Rattle.call_history.proofs.journal.Journal.call.Goals as goal

pub returns-clause-kept : goal.returns-clause-kept
returns-clause-kept g c =
    let O = g.O.Object in
    let before = c.self.inside in
    let entry : Entry g.row.O-Call.Denot g.row.O-Reply.Denot = record { line = c.args.line; call = c.in_ok-copy.copy; reply = c.in_ok-kept.kept } in
    let more : c.push_reserved.new.self.items ≡ before.entries.items ++ entry ∷ [] = rw c.reserve.ensures.items at c.push_reserved.ensures.items in
    IsReplay-snoc O.reply O.after O.opening g.met.O.Object.keeps_opening
    before.object c.apply.new.self before.entries.items c.push_reserved.new.self.items entry
    c.self.invariant.0
    (c.in_ok-kept.ensures ∙ ap (λ call. O.reply before.object call) (sym c.in_ok-copy.ensures))
    (c.in_ok-apply.ensures.ok ∙ ap (λ call. O.after before.object call) (sym c.in_ok-copy.ensures))
    more

pub invariant_of-self-2 : goal.invariant_of-self-2
invariant_of-self-2 g c = (returns-clause-kept g c, omega arith, c.self.invariant.2)
