-- Numbers that replace names.
use Rattle.std.specs.Prelude.{ℕ, ◌+◌, suc, Bool, not, bytes_eq, if◌then◌else◌, List, [], ◌∷◌, ◌++◌, map, Option, Some, None}
use Rattle.rule_sentences.specs.declared.sentence.Derived.{Derived}
use Rattle.rule_sentences.specs.declared.sentence.Derived.TheVariants.{Init, Next, Legal, Goal}
use Rattle.ground_rules.specs.declared.tables.StateHead.{StateHead}
use Rattle.ground_rules.specs.declared.tables.StateHead.TheVariants.{Init as InitHead, Next as NextHead}
use Rattle.ground_rules.specs.declared.names.TermKind.{TermKind}
use Rattle.ground_rules.specs.declared.names.TermKind.TheVariants.{State, Move}
use Rattle.ground_rules.specs.declared.tables.Mention.{Mention}
use Rattle.ground_rules.specs.declared.tables.GoalHead.{GoalHead}
use Rattle.numbered_rules.specs.Literals.{Literal, Literals, Holds, InState, Does, Distinct, Not, Or, End, More, Rule}
use Rattle.rule_sentences.specs.Sentences.{TextLiteral, TextLiterals, TextRule}
use Rattle.rule_sentences.specs.Descriptions.{Description, same_derived}
use Rattle.numbered_rules.specs.Numbered.{known}
use Rattle.ground_rules.specs.declared.resolve.Names.{Names}
use Rattle.ground_rules.specs.Roles.{RoleTable}

-- the tables of names; a name's number is its place
pub record NameTable : Type 0 where
  pub roles : List (List ℕ)
  pub heads : List Derived
  -- the terms of states, and those of moves
  pub states : List (List ℕ)
  pub moves : List (List ℕ)

abbrev pub table_of : Names → NameTable
table_of names = record { roles = names.roles.keys; heads = names.heads.keys; states = names.states.keys; moves = names.moves.keys }

-- the first place of x, or the length of the list
abbrev pub place : {A : Type 0} → (A → A → Bool) → List A → A → ℕ
place same [] x = 0
place same (y ∷ ys) x = if same x y then 0 else suc (place same ys x)

abbrev pub atom_number : NameTable → Derived → ℕ
atom_number names a = place same_derived names.heads a

abbrev pub state_number : NameTable → List ℕ → ℕ
state_number names t = place bytes_eq names.states t

abbrev pub move_number : NameTable → List ℕ → ℕ
move_number names m = place bytes_eq names.moves m

abbrev pub role_number : NameTable → List ℕ → ℕ
role_number names r = place bytes_eq names.roles r

-- the literal with numbers for its names
abbrev mutual
  pub resolved : NameTable → TextLiteral → Literal ℕ ℕ
  resolved names (Holds a) = Holds (atom_number names a)
  resolved names (InState t) = InState (state_number names t)
  resolved names (Does r m) = Does (role_number names r) (move_number names m)
  resolved names (Distinct t u) = known (not (bytes_eq t u))
  resolved names (Not l) = Not (resolved names l)
  resolved names (Or ls) = Or (all_resolved names ls)

  pub all_resolved : NameTable → TextLiterals → Literals ℕ ℕ
  all_resolved names End = End
  all_resolved names (More l ls) = More (resolved names l) (all_resolved names ls)

abbrev pub resolved_rule : NameTable → TextRule → Rule ℕ ℕ
resolved_rule names r = record { head = atom_number names r.head; body = all_resolved names r.body }

abbrev pub resolved_rules : NameTable → Description → List (Rule ℕ ℕ)
resolved_rules names d = map (resolved_rule names) d

-- the terms of this kind in a head
abbrev pub terms_in : TermKind → Derived → List (List ℕ)
terms_in State (Init t) = t ∷ []
terms_in State (Next t) = t ∷ []
terms_in Move (Legal r m) = m ∷ []
terms_in kind a = []

abbrev pub head_terms : TermKind → Description → List (List ℕ)
head_terms kind [] = []
head_terms kind (r ∷ rs) = terms_in kind r.head ++ head_terms kind rs

-- adds a mention of the term in the head with number n, if the head has a term
abbrev pub with_mention : List (List ℕ) → ℕ → Option (List ℕ) → List Mention → List Mention
with_mention terms n (Some t) ms = record { term = place bytes_eq terms t; atom = n } ∷ ms
with_mention terms n None ms = ms

-- the mentions in the heads; the heads are numbered from n, and pick returns the term of a head
abbrev pub mentions_by : (Derived → Option (List ℕ)) → List (List ℕ) → ℕ → List Derived → List Mention
mentions_by pick terms n [] = []
mentions_by pick terms n (a ∷ as') = with_mention terms n (pick a) (mentions_by pick terms (n + 1) as')

-- the term of a head of this kind
abbrev pub state_term : StateHead → Derived → Option (List ℕ)
state_term InitHead (Init t) = Some t
state_term NextHead (Next t) = Some t
state_term kind a = None

abbrev pub state_mentions : StateHead → List (List ℕ) → ℕ → List Derived → List Mention
state_mentions kind terms n hs = mentions_by (state_term kind) terms n hs

-- the `legal` heads of a role, as mentions; all heads are numbered from n
abbrev pub legal_mentions : List (List ℕ) → List ℕ → ℕ → List Derived → List Mention
legal_mentions terms role n [] = []
legal_mentions terms role n (Legal r m ∷ as') = if bytes_eq r role then record { term = place bytes_eq terms m; atom = n } ∷ legal_mentions terms role (n + 1) as' else legal_mentions terms role (n + 1) as'
legal_mentions terms role n (a ∷ as') = legal_mentions terms role (n + 1) as'

abbrev pub goal_heads : List ℕ → ℕ → List Derived → List GoalHead
goal_heads role n [] = []
goal_heads role n (Goal r v ∷ as') = if bytes_eq r role then record { value = v; atom = n } ∷ goal_heads role (n + 1) as' else goal_heads role (n + 1) as'
goal_heads role n (a ∷ as') = goal_heads role (n + 1) as'

abbrev pub role_table : NameTable → List ℕ → RoleTable
role_table names role = record { name = role; legal = legal_mentions names.moves role 0 names.heads; goals = goal_heads role 0 names.heads }
