use Rattle.std.proofs.Common.{◌∙◌}
use Rattle.player_commands.proofs.PlayedRoles.{planned-for, told-of}
use Rattle.player_commands.proofs.check.check_role.Goals as goal

pub returns-clause-told : goal.returns-clause-told
returns-clause-told g c =
    let rows = c.in_ok-push_rows.ensures.rows in (
      rows.0,
      told-of _ _ _ _ _ _ _ _ c.role_name.ensures c.deref-2.ensures.value
          (record {
            made = c.in_ok-match_plan.match_plan;
            planned = planned-for _ _ _ _ _ _ _ (c.as_str.ensures.value ∙ c.in_ok-id.ensures.ok) c.roles.ensures c.in_ok-match_plan.ensures;
            setup = c.in_ok-prepared.prepared.setup;
            is_setup = c.in_ok-prepared.ensures.setup;
            participants = c.in_ok-prepared.prepared.players.items;
            reached = c.in_ok-prepared.ensures.reached;
            played = c.in_ok-turns.ensures.told;
          })
          rows.1 c.in_ok-push_rows.ensures.bad,
      rows.2,
    )
