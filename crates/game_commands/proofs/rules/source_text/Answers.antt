use Rattle.std.proofs.Common.{ap, ◌∙◌}
use Rattle.described_games.specs.CountdownText.{countdown_text}
use Rattle.game_commands.proofs.rules.source_text.Goals as goal

pub returns-in-Ok-clause-text : goal.returns-in-Ok-clause-text
returns-in-Ok-clause-text g c = rw c.in-Countdown.is (ap (λ v. v.items) c.into_bytes.ensures.value ∙ c.in-Ok.ensures ∙ ap countdown_text c.in-Some.ensures.value)
