use Rattle.std.proofs.Common.{◌∙◌, ap}
use Rattle.match_log.specs.ShownTexts.{shown_text}
use Rattle.player_commands.proofs.watched.exchange_of.Goals as goal

pub invariant_of-result : goal.invariant_of-result
invariant_of-result c = record {
  of_message = ∣ record {
    body = c.args.message.now;
    given = c.args.answer.now;
    message_shown = c.in_ok-format.ensures.ok ∙ ap shown_text c.message.ensures;
    asks = c.asks_for_move-is_play.ensures;
    answer_shown = c.in_ok-format-2.ensures.ok ∙ ap shown_text (c.text.ensures ∙ c.brought_of-brought.ensures.text);
    brings = c.brought_of-brought.ensures.brought;
  } ∣₁;
}
