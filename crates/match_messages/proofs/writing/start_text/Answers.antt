use Rattle.std.proofs.Common.{◌≡◌, ◌++◌, [], sym, codes, slice_index_or, ◌∙◌}
use Rattle.std.specs.Fmt.{decimal}
use Rattle.std.proofs.lemmas.Option.{get_or_from_slice_get}
use Rattle.std.proofs.lemmas.Result.{IfOk-weaker}
use Rattle.game_core.specs.Bytes.{right_parenthesis}
use Rattle.desk_calls.specs.declared.due.Owed.TheVariants.{Start}
use Rattle.match_messages.specs.MessageText.{message_text}
use Rattle.match_messages.specs.StartRules.{start_rules_text}
use Rattle.match_messages.proofs.Printed.{start_joined}
use Rattle.match_messages.proofs.writing.start_text.Goals as goal

pub returns : goal.returns
returns c =
    let brief = c.brief.inside in
    let name : slice_index_or brief.roles.now c.args.role [] ≡ c.at.result.now = get_or_from_slice_get brief.roles.now c.args.role c.at.result.now [] c.at.ensures in
    let joined = start_joined (codes "(START") brief.id.now (slice_index_or brief.roles.now c.args.role []) (start_rules_text brief.rules) (decimal brief.start) (decimal brief.play) right_parenthesis in
    let is : c.in_ok-front.front.items ++ (start_rules_text brief.rules ++ c.as_slice.result.now) ≡ message_text c.args.brief.now c.args.role Start =
    rw (sym c.brief.view_is, c.in_ok-front.ensures, c.as_slice.ensures.value, c.in_ok-end.ensures, sym name) joined in
    IfOk-weaker c.around_rules.result _ _ (λ text e. e ∙ is) c.around_rules.ensures
