-- The tables of a role.
use Rattle.std.specs.Prelude.{ℕ, List, []}
use Rattle.ground_rules.specs.declared.tables.Mention.{Mention}
use Rattle.ground_rules.specs.declared.tables.GoalHead.{GoalHead}

pub record RoleTable : Type 0 where
  pub name : List ℕ
  pub legal : List Mention
  pub goals : List GoalHead

abbrev pub no_role : RoleTable
no_role = record { name = []; legal = []; goals = [] }
