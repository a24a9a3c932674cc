use Rattle.std.proofs.Common.{inl, inr, refl}
use Rattle.std.proofs.lemmas.Result.{IfErr-weaker, on_ok_weaker}
use Rattle.game_commands.proofs.commands.for_game.Goals as goal

pub returns-in-Countdown-clause-answers : goal.returns-in-Countdown-clause-answers
returns-in-Countdown-clause-answers g c =
    rw c.in-Countdown.is (on_ok_weaker c.perform_on.result (λ answers. (c.in-Some.game, c.in-Some.ensures.value, answers)) c.perform_on.ensures.answers)

pub returns-in-Countdown-clause-fails : goal.returns-in-Countdown-clause-fails
returns-in-Countdown-clause-fails g c =
    rw c.in-Countdown.is (IfErr-weaker c.perform_on.result _ _ (λ fault fails. inr (c.in-Some.game, c.in-Some.ensures.value, fails)) c.perform_on.ensures.fails)

pub returns-in-Ok-clause-answers : goal.returns-in-Ok-clause-answers
returns-in-Ok-clause-answers g c =
    let described = rw c.deref.ensures.value at c.in-Ok.ensures.described in
    rw c.in-Described.is (on_ok_weaker c.perform_on-in-Ok.result (λ answers. (_, c.in-Ok.game, c.in_ok-text-in-Described.ensures.text, described, answers)) c.perform_on-in-Ok.ensures.answers)

pub returns-in-Ok-clause-fails : goal.returns-in-Ok-clause-fails
returns-in-Ok-clause-fails g c =
    let described = rw c.deref.ensures.value at c.in-Ok.ensures.described in
    rw c.in-Described.is (IfErr-weaker c.perform_on-in-Ok.result _ _ (λ fault fails. inr (_, c.in-Ok.game, c.in_ok-text-in-Described.ensures.text, described, fails)) c.perform_on-in-Ok.ensures.fails)

pub returns-clause-fails : goal.returns-clause-fails
returns-clause-fails g c =
    let refused = rw c.deref.ensures.value at c.in-Err.ensures.refused in
    rw c.in-Described.is (inl (inr (_, c.in_ok-text-in-Described.ensures.text, refused), refl, refl))
