use Rattle.std.proofs.Common.{◌≡◌, [], arith, rules, subst}
use Rattle.std.proofs.lemmas.List.{take_all}
use Rattle.match_season.specs.Queues.{AreNumbersOf}
use Rattle.match_season.proofs.Numbering.{lengthens-not, lengthens-trans, numbers-kept, numbers-more, numbers-none}
use Rattle.match_season.proofs.queue.numbers.Goals as goal

pub loop-player-init : goal.loop-player-init
loop-player-init c =
    let none : c.in_ok-numbers.numbers.items ≡ [] = search rules in
    record { numbers = numbers-none _ _ none; kept = lengthens-not _ }

pub loop-player-preserved : goal.loop-player-preserved
loop-player-preserved c =
    let before = c.loop-player.invariant in
    let this = c.in_ok-number.ensures in
    record {
      numbers = numbers-more _ c.args.players.now c.loop-player.player-index _ _ _ _ c.loop-player-test.true this.number this.listed c.in_ok-list_once.ensures (numbers-kept _ _ _ _ this.kept before.numbers);
      kept = lengthens-trans _ _ _ before.kept this.kept;
    }

pub returns-clause-numbers : goal.returns-clause-numbers
returns-clause-numbers c =
    let players = c.args.players.now in
    subst (λ them. AreNumbersOf c.loop-player.addresses.keys them c.loop-player.numbers.items) (take_all c.loop-player.player-index players (omega (arith, c.loop-player-test.false))) c.loop-player.invariant.numbers
