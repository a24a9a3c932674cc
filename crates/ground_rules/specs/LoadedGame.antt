-- The answers of a loaded game, computed from its tables. They do not depend on how the tables are stored.
use Rattle.std.specs.Prelude.{ℕ, ◌≡◌, ◌<◌, Bool, List, [], map, slice_index_or, length}
use Rattle.game_core.specs.Play.{Rules}
use Rattle.ground_rules.specs.declared.tables.Mention.{Mention}
use Rattle.ground_rules.specs.declared.state.GroundMove.{GroundMove}
use Rattle.numbered_rules.specs.Literals.{Rule}
use Rattle.ground_rules.specs.States.{StateRows}
use Rattle.ground_rules.specs.Roles.{RoleTable, no_role}
use Rattle.ground_rules.specs.Lookups.{marked, chosen, only_goal, picked}
use Rattle.numbered_rules.specs.Numbered.{bit, numbered, row_after, unset}

-- the tables of a game, with numbers for derived atoms, terms of states and terms of moves
pub record GameTables : Type 0 where
  pub roles : List RoleTable
  -- the texts of the terms of states and of moves; the index is the term's number
  pub states : List (List ℕ)
  pub moves : List (List ℕ)
  -- the rules with heads that do not depend on moves, in the order of a ranking
  pub rest : List (Rule ℕ ℕ)
  -- the other rules, in the order of a ranking
  pub turn : List (Rule ℕ ℕ)
  -- the number of derived atoms that are heads
  pub atoms : ℕ
  pub init : List Mention
  pub next : List Mention
  -- the derived atom `terminal`, or an atom that is never true
  pub terminal : ℕ

abbrev pub role_at : GameTables → ℕ → RoleTable
role_at g r = slice_index_or g.roles r no_role

abbrev pub terms_of : List GroundMove → List ℕ
terms_of joint = map (λ m. m.term) joint

-- the truth values of the derived atoms that do not depend on moves
abbrev pub kept_row : GameTables → List Bool → List Bool
kept_row g row = row_after (numbered row []) (unset g.atoms) g.rest

-- the state with this row of terms
abbrev pub settled : GameTables → List Bool → StateRows
settled g row = record { row = row; kept = kept_row g row }

-- the truth values of all derived atoms
abbrev pub turn_row : GameTables → StateRows → List ℕ → List Bool
turn_row g s joint = row_after (numbered s.row joint) s.kept g.turn

-- the state has a truth value for each term and for each derived atom that does not depend on moves
pub record IsSettled (g : GameTables) (s : StateRows) : Type 0 where
  pub size : length s.row ≡ length g.states
  pub kept : s.kept ≡ kept_row g s.row

abbrev pub loaded_game : GameTables → Rules StateRows GroundMove
loaded_game g = record {
  roles = length g.roles;
  role_name = λ r. (role_at g r).name;
  initial = settled g (marked (unset (length g.states)) (turn_row g (settled g (unset (length g.states))) []) g.init);
  legal = λ s r. chosen s.kept (role_at g r).legal;
  next = λ s joint. settled g (marked (unset (length g.states)) (turn_row g s (terms_of joint)) g.next);
  terminal = λ s. bit s.kept g.terminal;
  goal = λ s r. only_goal s.kept (role_at g r).goals;
  move_text = λ m. slice_index_or g.moves m.term [];
  state_text = λ s. picked s.row g.states;
  IsState = IsSettled g;
  IsMove = λ m. m.term < length g.moves;
}
