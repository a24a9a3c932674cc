use Rattle.std.proofs.Common.{sym, ap}
use Rattle.match_book.specs.Steps.{after_abort}
use Rattle.match_desk.proofs.Managers.{keeps-abort}
use Rattle.match_desk.proofs.MatchSlots.{value-none, kept-ok, value-ok}
use Rattle.match_desk.proofs.manager.Manager.take_abort.Goals as goal

pub returns-in_default : goal.returns-in_default
returns-in_default g c =
    value-none g.G.Game.rules c.self.inside.games.items c.self.inside.matches.entries c.self.invariant c.args.id.now after_abort
    (keeps-abort g.G.Game.rules c.abort_keeps_lawful.ensures) c.args.self.now c.self.view_is (sym c.in_default.ensures.value) c.get_mut.follows.lender-at-none.entries (ap (λ m. m.entries) c.get_mut.follows.holds-at-none)

pub invariant_of-self-2 : goal.invariant_of-self-2
invariant_of-self-2 g c =
    kept-ok g.G.Game.rules c.self.inside.games.items c.self.inside.matches.entries c.self.invariant c.args.id.now after_abort
    (keeps-abort g.G.Game.rules c.abort_keeps_lawful.ensures) c.args.self.now c.self.view_is c.in-Some.slot.now (sym c.in-Some.ensures.value) c.take_abort.new.held c.take_abort.ensures.game
    (c.get_mut.follows.lender (record { game = c.in-Some.slot.now.game; held = c.take_abort.new.held })).entries (c.get_mut.follows.holds (record { game = c.in-Some.slot.now.game; held = c.take_abort.new.held })).0 c.take_abort.ensures.value

pub returns : goal.returns
returns g c =
    value-ok g.G.Game.rules c.self.inside.games.items c.self.inside.matches.entries c.self.invariant c.args.id.now after_abort
    (keeps-abort g.G.Game.rules c.abort_keeps_lawful.ensures) c.args.self.now c.self.view_is c.in-Some.slot.now (sym c.in-Some.ensures.value) c.take_abort.new.held c.take_abort.ensures.game
    (c.get_mut.follows.lender (record { game = c.in-Some.slot.now.game; held = c.take_abort.new.held })).entries (c.get_mut.follows.holds (record { game = c.in-Some.slot.now.game; held = c.take_abort.new.held })).0 c.take_abort.ensures.value
