use Rattle.std.proofs.Common.{sym, arith}
use Rattle.match_desk.proofs.MatchSlots.{lookup-within, lookup-read, match_with_id-found, match_with_id-none}
use Rattle.match_desk.proofs.manager.Manager.game_and_match.Goals as goal

pub returns-in_err-slot-clause-found : goal.returns-in_err-slot-clause-found
returns-in_err-slot-clause-found g c =
    rw c.from_residual.ensures (match_with_id-none c.self.inside.games.items c.self.inside.matches.entries c.self.invariant.slots c.args.id.now c.args.self.now c.self.view_is (sym c.in_err-slot.ensures.value))

pub index-requires : goal.index-requires
index-requires g c = omega (arith, c.self.inside.games.ok.0, lookup-within c.self.inside.games.items c.args.id.now c.self.inside.matches.entries c.self.invariant.slots c.in_ok-slot.slot.now (sym c.in_ok-slot.ensures.value))

pub returns-clause-found : goal.returns-clause-found
returns-clause-found g c =
    match_with_id-found c.self.inside.games.items c.self.inside.matches.entries c.self.invariant.slots c.args.id.now c.args.self.now c.self.view_is c.in_ok-slot.slot.now (sym c.in_ok-slot.ensures.value)

pub returns-clause-game : goal.returns-clause-game
returns-clause-game g c =
    lookup-read c.self.inside.games.items c.args.id.now c.self.inside.matches.entries c.self.invariant.slots c.in_ok-slot.slot.now c.index.result.now (sym c.in_ok-slot.ensures.value) c.index.ensures
