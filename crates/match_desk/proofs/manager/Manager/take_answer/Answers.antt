use Rattle.std.proofs.Common.{sym, arith, ap}
use Rattle.std.proofs.lemmas.Result.{on_err_weaker}
use Rattle.match_book.specs.Steps.{after_answer}
use Rattle.desk_calls.specs.Answers.{answer_lent}
use Rattle.match_desk.proofs.Managers.{keeps-answer}
use Rattle.match_desk.proofs.MatchSlots.{lookup-within, lookup-read, match_with_id-found, value-none, kept-either, value-either, value-refused}
use Rattle.match_desk.proofs.Replies.{accepted-answer, answer_wants_memory}
use Rattle.match_desk.proofs.manager.Manager.take_answer.Goals as goal

pub returns-in_default-clause-ok : goal.returns-in_default-clause-ok
returns-in_default-clause-ok g c =
    value-none g.G.Game.rules c.self.inside.games.items c.self.inside.matches.entries c.self.invariant c.args.id.now (λ r m. after_answer r m c.args.role c.args.round (answer_lent c.args.given.now))
    (keeps-answer g.G.Game.rules c.answers_keep_lawful.ensures c.args.role c.args.round (answer_lent c.args.given.now)) c.args.self.now c.self.view_is (sym c.in_default.ensures.value) c.get_mut.follows.lender-at-none.entries (ap (λ m. m.entries) c.get_mut.follows.holds-at-none)

pub index-game-requires : goal.index-game-requires
index-game-requires g c = omega (arith, c.self.inside.games.ok.0, lookup-within c.self.inside.games.items c.args.id.now c.self.inside.matches.entries c.self.invariant.slots c.in-Some.slot.now (sym c.in-Some.ensures.value))

pub take_answer-requires : goal.take_answer-requires
take_answer-requires g c = lookup-read c.self.inside.games.items c.args.id.now c.self.inside.matches.entries c.self.invariant.slots c.in-Some.slot.now c.index-game.result.now (sym c.in-Some.ensures.value) c.index-game.ensures

pub invariant_of-self-2 : goal.invariant_of-self-2
invariant_of-self-2 g c =
    kept-either g.G.Game.rules c.self.inside.games.items c.self.inside.matches.entries c.self.invariant c.args.id.now (λ r m. after_answer r m c.args.role c.args.round (answer_lent c.args.given.now))
    (keeps-answer g.G.Game.rules c.answers_keep_lawful.ensures c.args.role c.args.round (answer_lent c.args.given.now)) c.args.self.now c.self.view_is c.in-Some.slot.now (sym c.in-Some.ensures.value) c.take_answer.new.held c.take_answer.ensures.game
    (c.get_mut.follows.lender (record { game = c.in-Some.slot.now.game; held = c.take_answer.new.held })).entries (c.get_mut.follows.holds (record { game = c.in-Some.slot.now.game; held = c.take_answer.new.held })).0 c.take_answer.result c.take_answer.ensures.ok c.take_answer.ensures.err

pub returns-clause-ok : goal.returns-clause-ok
returns-clause-ok g c =
    value-either g.G.Game.rules c.self.inside.games.items c.self.inside.matches.entries c.self.invariant c.args.id.now (λ r m. after_answer r m c.args.role c.args.round (answer_lent c.args.given.now))
    (keeps-answer g.G.Game.rules c.answers_keep_lawful.ensures c.args.role c.args.round (answer_lent c.args.given.now)) c.args.self.now c.self.view_is c.in-Some.slot.now (sym c.in-Some.ensures.value) c.take_answer.new.held c.take_answer.ensures.game
    (c.get_mut.follows.lender (record { game = c.in-Some.slot.now.game; held = c.take_answer.new.held })).entries (c.get_mut.follows.holds (record { game = c.in-Some.slot.now.game; held = c.take_answer.new.held })).0 c.take_answer.result c.take_answer.ensures.ok

pub returns-clause-err : goal.returns-clause-err
returns-clause-err g c =
    value-refused g.G.Game.rules c.self.inside.games.items c.self.inside.matches.entries c.self.invariant c.args.id.now (λ r m. after_answer r m c.args.role c.args.round (answer_lent c.args.given.now))
    (keeps-answer g.G.Game.rules c.answers_keep_lawful.ensures c.args.role c.args.round (answer_lent c.args.given.now)) c.args.self.now c.self.view_is c.in-Some.slot.now (sym c.in-Some.ensures.value) c.take_answer.new.held c.take_answer.ensures.game
    (c.get_mut.follows.lender (record { game = c.in-Some.slot.now.game; held = c.take_answer.new.held })).entries (c.get_mut.follows.holds (record { game = c.in-Some.slot.now.game; held = c.take_answer.new.held })).0 c.take_answer.result c.take_answer.ensures.err

pub returns-clause-accepted : goal.returns-clause-accepted
returns-clause-accepted g c =
    on_err_weaker c.take_answer.result
    (accepted-answer g.G.Game.rules c.args.self.now c.args.id.now c.args.role c.args.round c.in-Some.slot.now.held
    (match_with_id-found c.self.inside.games.items c.self.inside.matches.entries c.self.invariant.slots c.args.id.now c.args.self.now c.self.view_is c.in-Some.slot.now (sym c.in-Some.ensures.value)))
    c.take_answer.ensures.accepted

pub returns-clause-memory : goal.returns-clause-memory
returns-clause-memory g c =
    on_err_weaker c.take_answer.result
    (answer_wants_memory g.G.Game.rules c.args.self.now c.args.id.now c.args.role c.in-Some.slot.now.held
    (match_with_id-found c.self.inside.games.items c.self.inside.matches.entries c.self.invariant.slots c.args.id.now c.args.self.now c.self.view_is c.in-Some.slot.now (sym c.in-Some.ensures.value)))
    c.take_answer.ensures.memory
