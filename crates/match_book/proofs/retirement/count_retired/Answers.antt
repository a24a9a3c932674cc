use Rattle.std.proofs.Common.{◌≡◌, ◌∙◌, arith, ap, length, sym}
use Rattle.std.specs.Prelude.{◌==◌}
use Rattle.match_book.specs.RoleStrikes.{count_roles, is_retired_in}
use Rattle.match_book.proofs.RoleTests.{count_roles-le, every_role-count}
use Rattle.match_book.proofs.retirement.count_retired.Goals as goal

pub overflow_add-count : goal.overflow_add-count
overflow_add-count c = let few = count_roles-le c.loop-role.role (is_retired_in c.args.kept.now) in omega (arith, few)

pub returns-clause-all : goal.returns-clause-all
returns-clause-all c =
    let retired = is_retired_in c.args.kept.now in
    let all : c.loop-role.role ≡ length c.args.kept.now = omega (arith, c.loop-role-test.false, c.loop-role.auto.role-end) in
    every_role-count (length c.args.kept.now) retired ∙ ap (λ n. n == length c.args.kept.now) (sym (c.loop-role.invariant ∙ ap (λ n. count_roles n retired) all))
