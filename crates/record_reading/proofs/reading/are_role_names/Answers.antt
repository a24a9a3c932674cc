use Rattle.std.proofs.Common.{◌≡◌, ◌<◌, ◌++◌, ◌∷◌, [], length, get_or, take, true≢false, sym, ap, ◌∙◌, arith}
use Rattle.std.proofs.lemmas.List.{take_more}
use Rattle.record_reading.proofs.RecordShapes.{each_role-more, length_each_role, at_each_role, same_when_equal, apart_when_not}
use Rattle.record_reading.proofs.reading.are_role_names.Goals as goal

pub returns-then-texts-roles : goal.returns-then-texts-roles
returns-then-texts-roles g c =
    let rules = g.G.Game.rules c.args.game.now in
    (λ wrong. absurd (true≢false (sym wrong)), λ same. absurd (c.if-texts-roles.true (ap length same ∙ length_each_role rules.roles rules.role_name ∙ sym c.roles.ensures)))

pub returns-then-ne : goal.returns-then-ne
returns-then-ne g c =
    let rules = g.G.Game.rules c.args.game.now in
    let role = c.loop-role.role in
    let below : role < rules.roles = omega (arith, c.loop-role-test.true, c.if-texts-roles.false, c.roles.ensures) in
    let differ = apart_when_not c.as_slice.result.now c.role_name.result.now (sym c.if-ne.ensures) in (
      λ wrong. absurd (true≢false (sym wrong)),
      λ same.
          let there : c.index-texts-role.result ≡ rules.role_name role = c.index-texts-role.is ∙ ap (λ ts. get_or ts role c.index-texts-role.result) same ∙ at_each_role rules.roles rules.role_name role c.index-texts-role.result below in
          absurd (differ (c.as_slice.ensures ∙ there ∙ sym c.role_name.ensures)),
    )

pub loop-role-preserved : goal.loop-role-preserved
loop-role-preserved g c =
    let rules = g.G.Game.rules c.args.game.now in
    let role = c.loop-role.role in
    let texts = c.args.texts.now in
    let equal = same_when_equal c.as_slice.result.now c.role_name.result.now (sym c.if-ne.ensures) in
    let there : get_or texts role c.index-texts-role.result ≡ rules.role_name role = sym c.index-texts-role.is ∙ sym c.as_slice.ensures ∙ equal ∙ c.role_name.ensures in
    take_more texts role c.index-texts-role.result c.loop-role-test.true ∙ ap (λ t. take role texts ++ t ∷ []) there ∙ ap (λ ts. ts ++ rules.role_name role ∷ []) c.loop-role.invariant ∙ sym (each_role-more role rules.role_name)
