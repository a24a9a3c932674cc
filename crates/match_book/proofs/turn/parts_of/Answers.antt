use Rattle.std.proofs.Common.{◌∙◌, ◌++◌, ◌∷◌, [], ap, arith}
use Rattle.match_book.specs.Internal.OpenAnswers.{kept_part}
use Rattle.match_book.proofs.RoleTests.{of_each_role-push}
use Rattle.match_book.proofs.TurnParts.{kept_part-is}
use Rattle.match_book.proofs.turn.parts_of.Goals as goal

pub loop-role-preserved : goal.loop-role-preserved
loop-role-preserved g c =
    let here =
    kept_part-is c.args.answers.now c.args.strikes.now c.args.legal.now c.loop-role.role c.index-answers-role.result c.is_retired_at-is_retired.result c.index-legal-role.result (omega (arith, c.requires.one_list)) (omega arith)
    c.index-answers-role.is c.is_retired_at-is_retired.ensures c.index-legal-role.is
    in
    c.in_ok-push.ensures.items
    ∙ (ap (λ l. l ++ c.in_ok-part.part ∷ []) c.loop-role.invariant
    ∙ of_each_role-push c.loop-role.role (kept_part c.args.answers.now c.args.strikes.now c.args.legal.now) c.in_ok-part.part (cc (c.in_ok-part.ensures, c.as_slice-moves.ensures, here)))
