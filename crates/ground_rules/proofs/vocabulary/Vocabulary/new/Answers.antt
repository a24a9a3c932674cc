use Rattle.std.proofs.Common.{◌∙◌, ap, refl, map}
use Rattle.kif_text.specs.View.{view as expression}
use Rattle.ground_rules.specs.Lawfulness.TableTests.{are_in_order}
use Rattle.ground_rules.specs.declared.tables.StateHead.TheVariants.{Init as InitHead, Next as NextHead}
use Rattle.ground_rules.specs.Internal.Resolved.{table_of, state_mentions}
use Rattle.rule_sentences.specs.SentenceFaults.{description_of}
use Rattle.ground_rules.proofs.Assembled.{some-role, few-roles, tables-pass, names-pass, names-read, states-read, moves-read}
use Rattle.ground_rules.proofs.vocabulary.Vocabulary.new.Goals as goal

pub invariant_of-result : goal.invariant_of-result
invariant_of-result c =
    let xs = map expression c.args.description.items in
    let d = description_of xs in
    let t = table_of c.args.names in
    let roles = c.args.roles.items in
    let p = c.requires in
    record {
      few_atoms = c.len-atoms.ensures.small;
      some_role = some-role d t roles p;
      few_roles = few-roles d t roles p;
      tables = tables-pass xs t roles c.in_ok-moves.moves.items p c.in_ok-moves.ensures;
      names_differ = names-pass d t roles p;
      names_spelled = names-read xs t roles p;
      states_ordered = ap are_in_order c.in_ok-states.ensures ∙ p.table.states_ordered;
      states_spelled = states-read xs t roles c.in_ok-states.states.items p c.in_ok-states.ensures;
      moves_ordered = ap are_in_order c.in_ok-moves.ensures ∙ p.table.moves_ordered;
      moves_spelled = moves-read xs t roles c.in_ok-moves.moves.items p c.in_ok-moves.ensures;
    }

pub returns : goal.returns
returns c =
    let t = table_of c.args.names in
    let keys = c.as_slice-heads.ensures.keys in
    record {
      description' = refl;
      roles' = refl;
      states = c.in_ok-states.ensures;
      moves = c.in_ok-moves.ensures;
      atoms = c.len-atoms.ensures.len;
      init = c.in_ok-init.ensures ∙ ap (state_mentions InitHead t.states 0) keys;
      next = c.in_ok-next.ensures ∙ ap (state_mentions NextHead t.states 0) keys;
      terminal = c.place_of_head-terminal.ensures;
    }
