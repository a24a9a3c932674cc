use Rattle.std.proofs.Common.{arith, rules, ◌∙◌, ◌++◌, [], ap, sym}
use Rattle.std.specs.Prelude.{string_bytes}
use Rattle.std.proofs.lemmas.Grind.{common_steps}
use Rattle.std.proofs.lemmas.List.{append_assoc, append-nil}
use Rattle.player_commands.specs.Rows.{next_turn, row_verdict}
use Rattle.player_commands.specs.Tables.{row_text}
use Rattle.player_commands.specs.Verdicts.{is_refused}
use Rattle.player_commands.proofs.TableRows.{all-rows, next-row}
use Rattle.player_commands.proofs.check.push_rows.Goals as goal

pub loop-exchange-init : goal.loop-exchange-init
loop-exchange-init c = record { count = search rules; few = search rules; rows = ([], sym (append-nil _), λ rest rows. rows) }

pub loop-exchange-preserved : goal.loop-exchange-preserved
loop-exchange-preserved c =
    let before = c.loop-exchange.invariant.rows in
    let exchange = c.exchange-item.result in
    let words = string_bytes c.in_ok-words.words in
    let row = c.as_bytes.result.now in
    record {
      count = grind (arith, common_steps);
      few = search rules;
      rows = (
        before.0 ++ row,
        c.in_ok-extend_from_slice.ensures.items ∙ ap (λ table. table ++ row) before.1 ∙ append_assoc _ before.0 row,
        next-row _ _ _ c.loop-exchange.exchange-index exchange _ _ before.0 row c.loop-exchange-test.true c.exchange-item.is c.next_turn.ensures.later
            (record {
              words = words;
              no_words = λ fine good. c.in_ok-words.ensures fine (ap is_refused (c.row_verdict-verdict.ensures ∙ ap (row_verdict exchange) c.next_turn.ensures.turn) ∙ good);
              is_text = c.as_bytes.ensures.value ∙ c.in_ok-format.ensures.ok ∙ ap (λ turn. row_text c.args.role.now exchange turn c.as_str.result.now) c.next_turn.ensures.turn
                  ∙ ap (λ words. row_text c.args.role.now exchange (next_turn exchange.is_play c.loop-exchange.left.now) words) c.as_str.ensures.value;
            })
            before.2,
      );
    }

pub returns-clause-rows : goal.returns-clause-rows
returns-clause-rows c = let all = c.loop-exchange.invariant.rows in (all.0, all-rows _ _ _ _ c.loop-exchange.exchange-index _ all.0 c.deref-exchange-items.ensures.value c.loop-exchange-test.false all.2, all.1)
