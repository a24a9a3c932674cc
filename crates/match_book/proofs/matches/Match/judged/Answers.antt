use Rattle.std.proofs.Common.{◌≡◌, ap, ◌∙◌, arith, sym, subst}
use Rattle.std.specs.Prelude.{All}
use Rattle.desk_calls.specs.Answers.{answer_lent}
use Rattle.match_book.specs.Judgement.{judged_answer}
use Rattle.match_book.proofs.KeptMatches.{legal-within, legal-moves, judged-is, judged-some}
use Rattle.match_book.proofs.matches.Match.judged.Goals as goal

pub index-requires : goal.index-requires
index-requires g c =
    let playing = c.self.invariant.stage_is ∙ (rw (← c.self.view_is) at c.requires.stage) in
    let within = legal-within (g.G.Game.rules c.self.inside.game.value) (g.met.G.Game.laws c.self.inside.game.value) c.self.invariant playing c.args.role (rw (← c.self.view_is) at c.requires.role) in
    omega (arith, within, c.self.inside.legal.ok.0)

pub judge-requires : goal.judge-requires
judge-requires g c =
    let rules = g.G.Game.rules c.self.inside.game.value in
    let same = ap (λ p. p.game) c.self.view_is ∙ c.requires.game in
    let playing = c.self.invariant.stage_is ∙ (rw (← c.self.view_is) at c.requires.stage) in
    let moves = legal-moves rules (g.met.G.Game.laws c.self.inside.game.value) c.self.invariant playing c.args.role (rw (← c.self.view_is) at c.requires.role) c.index.result.now c.index.ensures in
    subst (λ x. All (λ m. (g.G.Game.rules x).IsMove m) c.as_slice-moves.result.now) same (subst (λ l. All (λ m. rules.IsMove m) l) (sym c.as_slice-moves.ensures) moves)

pub unwrap-requires : goal.unwrap-requires
unwrap-requires g c =
    let rules = g.G.Game.rules c.self.inside.game.value in
    let same = ap (λ p. p.game) c.self.view_is ∙ c.requires.game in
    let playing = c.self.invariant.stage_is ∙ (rw (← c.self.view_is) at c.requires.stage) in
    let is : c.in_ok-judge.field-0 ≡ judged_answer rules c.index.result.now (answer_lent c.args.answer.now) = cc (c.in_ok-judge.ensures, same, c.as_slice-moves.ensures) in
    judged-some rules (g.met.G.Game.laws c.self.inside.game.value) c.self.invariant playing c.args.role (rw (← c.self.view_is) at c.requires.role) c.index.result.now (answer_lent c.args.answer.now) c.in_ok-judge.field-0 c.index.ensures is

pub returns : goal.returns
returns g c =
    let rules = g.G.Game.rules c.self.inside.game.value in
    let same = ap (λ p. p.game) c.self.view_is ∙ c.requires.game in
    let playing = c.self.invariant.stage_is ∙ (rw (← c.self.view_is) at c.requires.stage) in
    let is : c.in_ok-judge.field-0 ≡ judged_answer rules c.index.result.now (answer_lent c.args.answer.now) = cc (c.in_ok-judge.ensures, same, c.as_slice-moves.ensures) in
    let judged = judged-is rules (g.met.G.Game.laws c.self.inside.game.value) c.self.invariant playing c.args.role (rw (← c.self.view_is) at c.requires.role) c.index.result.now (answer_lent c.args.answer.now) c.in_ok-judge.field-0 c.index.ensures is in
    rw (← c.self.view_is) (sym judged ∙ c.unwrap.ensures)
