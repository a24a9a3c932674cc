use Rattle.std.proofs.Common.{◌∙◌, Result, Ok, Err, OnErr}
use Rattle.std.specs.Prelude.{bytes_eq}
use Rattle.indexmap.proofs.CallerLemmas.{insert_entry-new}
use Rattle.match_desk.specs.Open.{open_refusal}
use Rattle.match_desk.specs.Internal.AskedSetups.{asked_setup}
use Rattle.match_desk.proofs.OpenTests.{not_refused}
use Rattle.match_desk.proofs.NewMatches.{index-none, few-strikes, one_each, value-opened, kept-opened}
use Rattle.match_desk.proofs.manager.Manager.open.Goals as goal

pub setup-requires : goal.setup-requires
setup-requires g c =
    few-strikes g.G.Game.rules c.self.inside.games.items c.self.inside.matches.entries c.self.invariant c.args.self.now c.self.view_is c.args.asked.now.game (asked_setup c.args.asked.now)
    (not_refused c.open_refusal.result (open_refusal g.G.Game.rules c.args.self.now c.args.asked.now.game (asked_setup c.args.asked.now)) c.if-is_some.ensures c.open_refusal.ensures)

pub new-requires : goal.new-requires
new-requires g c =
    one_each g.G.Game.rules c.self.inside.games.items c.self.inside.matches.entries c.self.invariant c.args.self.now c.self.view_is c.args.asked.now.game (asked_setup c.args.asked.now)
    (not_refused c.open_refusal.result (open_refusal g.G.Game.rules c.args.self.now c.args.asked.now.game (asked_setup c.args.asked.now)) c.if-is_some.ensures c.open_refusal.ensures)
    c.index.result.now c.in_ok-setup.setup c.index.ensures c.in_ok-setup.ensures

pub invariant_of-self-2 : goal.invariant_of-self-2
invariant_of-self-2 g c =
    kept-opened g.G.Game.rules c.self.inside.games.items c.self.inside.matches.entries c.self.invariant c.args.self.now c.self.view_is c.args.asked.now.game (asked_setup c.args.asked.now)
    (not_refused c.open_refusal.result (open_refusal g.G.Game.rules c.args.self.now c.args.asked.now.game (asked_setup c.args.asked.now)) c.if-is_some.ensures c.open_refusal.ensures)
    c.index.result.now c.index.ensures c.in_ok-id.id (c.in_ok-id.ensures.items ∙ c.as_slice.ensures) c.in_ok-setup.setup c.in_ok-setup.ensures c.in_ok-held.held c.in_ok-held.ensures c.insert.new.self.entries
    (c.in_ok-insert.ensures.entries ∙ insert_entry-new (λ x y. bytes_eq x.items y.items) c.self.inside.matches c.in_ok-id.id (record { game = c.args.asked.now.game; held = c.in_ok-held.held })
    (index-none g.G.Game.rules c.self.inside.games.items c.self.inside.matches.entries c.self.invariant c.args.self.now c.self.view_is c.args.asked.now.game (asked_setup c.args.asked.now)
    (not_refused c.open_refusal.result (open_refusal g.G.Game.rules c.args.self.now c.args.asked.now.game (asked_setup c.args.asked.now)) c.if-is_some.ensures c.open_refusal.ensures)
    c.in_ok-id.id.items (c.in_ok-id.ensures.items ∙ c.as_slice.ensures)))
    c.new_match_is_lawful.ensures

pub returns-clause-ok : goal.returns-clause-ok
returns-clause-ok g c =
    value-opened g.G.Game.rules c.self.inside.games.items c.self.inside.matches.entries c.self.invariant c.args.self.now c.self.view_is c.args.asked.now.game (asked_setup c.args.asked.now)
    (not_refused c.open_refusal.result (open_refusal g.G.Game.rules c.args.self.now c.args.asked.now.game (asked_setup c.args.asked.now)) c.if-is_some.ensures c.open_refusal.ensures)
    c.index.result.now c.index.ensures c.in_ok-id.id (c.in_ok-id.ensures.items ∙ c.as_slice.ensures) c.in_ok-setup.setup c.in_ok-setup.ensures c.in_ok-held.held c.in_ok-held.ensures c.insert.new.self.entries
    (c.in_ok-insert.ensures.entries ∙ insert_entry-new (λ x y. bytes_eq x.items y.items) c.self.inside.matches c.in_ok-id.id (record { game = c.args.asked.now.game; held = c.in_ok-held.held })
    (index-none g.G.Game.rules c.self.inside.games.items c.self.inside.matches.entries c.self.invariant c.args.self.now c.self.view_is c.args.asked.now.game (asked_setup c.args.asked.now)
    (not_refused c.open_refusal.result (open_refusal g.G.Game.rules c.args.self.now c.args.asked.now.game (asked_setup c.args.asked.now)) c.if-is_some.ensures c.open_refusal.ensures)
    c.in_ok-id.id.items (c.in_ok-id.ensures.items ∙ c.as_slice.ensures)))

on_err : {T E P : Type 0} (r : Result T E) → P → OnErr r P
on_err (Ok v) p = tt
on_err (Err e) p = p

pub returns-in_err-insert-clause-accepted : goal.returns-in_err-insert-clause-accepted
returns-in_err-insert-clause-accepted g c =
    on_err c.from_residual-in_err-insert.result
    (not_refused c.open_refusal.result (open_refusal g.G.Game.rules c.args.self.now c.args.asked.now.game (asked_setup c.args.asked.now)) c.if-is_some.ensures c.open_refusal.ensures)
