-- The game of Countdown: two roles alternately take one or two from a heap. If a role must move when the heap is empty, it loses.
use Rattle.std.specs.Prelude.{ℕ, zero, suc, ◌-◌, ◌==◌, nat_le, ◌≤◌, if◌then◌else◌, List, [], ◌∷◌, ◌++◌, Option, Some, None, slice_index_or, codes}
use Rattle.std.specs.Fmt.{decimal}
use Rattle.game_core.specs.declared.countdown.Position.{Position}
use Rattle.game_core.specs.declared.countdown.Side.{Side}
use Rattle.game_core.specs.declared.countdown.Side.TheVariants.{Red, Blue}
use Rattle.game_core.specs.declared.countdown.Take.{Take}
use Rattle.game_core.specs.declared.countdown.Take.TheVariants.{Noop, One, Two}
use Rattle.game_core.specs.Play.{Rules}

abbrev pub max_heap : ℕ
max_heap = 100

-- the number that a move takes from the heap
abbrev pub count_of : Take → ℕ
count_of Noop = 0
count_of One = 1
count_of Two = 2

abbrev pub role_of : Side → ℕ
role_of Red = 0
role_of Blue = 1

abbrev pub other_side : Side → Side
other_side Red = Blue
other_side Blue = Red

abbrev pub side_of : ℕ → Side
side_of zero = Red
side_of (suc r) = Blue

abbrev pub side_name : Side → List ℕ
side_name Red = codes "red"
side_name Blue = codes "blue"

abbrev pub turn_text : Side → List ℕ
turn_text side = codes "(turn " ++ side_name side ++ codes ")"

-- the moves of the role to move
abbrev pub takes : ℕ → List Take
takes heap = if nat_le 2 heap then One ∷ (Two ∷ []) else (One ∷ [])

abbrev pub legal_takes : Position → ℕ → List Take
legal_takes p role = if p.heap == 0 then [] else (if role_of p.on_turn == role then takes p.heap else (Noop ∷ []))

abbrev pub take_text : Take → List ℕ
take_text Noop = codes "noop"
take_text One = codes "(take 1)"
take_text Two = codes "(take 2)"

-- the position after a joint move; only the role to move takes from the heap
abbrev pub next_position : Position → List Take → Position
next_position p joint = record { heap = p.heap - count_of (slice_index_or joint (role_of p.on_turn) Noop); on_turn = other_side p.on_turn }

abbrev pub position_texts : Position → List (List ℕ)
position_texts p = (codes "(heap " ++ decimal p.heap ++ codes ")") ∷ (turn_text p.on_turn ∷ [])

-- if the heap is empty, the role to move loses
abbrev pub goal_at : Position → ℕ → Option ℕ
goal_at p role = if p.heap == 0 then (if role_of p.on_turn == role then Some 0 else Some 100) else None

-- the game that starts with a heap of n
abbrev pub countdown : ℕ → Rules Position Take
countdown n = record {
  roles = 2;
  role_name = λ role. side_name (side_of role);
  initial = record { heap = n; on_turn = Red };
  legal = legal_takes;
  next = next_position;
  terminal = λ p. p.heap == 0;
  goal = goal_at;
  move_text = take_text;
  state_text = position_texts;
  IsState = λ p. p.heap ≤ n;
  IsMove = λ m. Unit {0};
}
