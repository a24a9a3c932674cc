-- The expressions that a text spells: the prefix syntax of KIF and GDL.
use Rattle.std.specs.Prelude.{◌≡◌, ◌≢◌, ℕ, ◌≤◌, List, [], ◌∷◌, ◌++◌, length, true, false}
use Rattle.game_core.specs.Bytes.{is_white, is_atom_byte, line_feed, semicolon, left_parenthesis, right_parenthesis}
use Rattle.game_core.specs.Expression.{Expression, atom, list, Expressions, none, more, IsAtom, depth, depth_all, max_depth}

-- the text is empty or begins with a byte that is not an atom byte
abbrev pub EndsAtom : List ℕ → Type 0
EndsAtom [] = Unit {0}
EndsAtom (b ∷ bs) = is_atom_byte b ≡ false

abbrev pub HasNoLineFeed : List ℕ → Type 0
HasNoLineFeed [] = Unit {0}
HasNoLineFeed (b ∷ bs) = (b ≢ line_feed) × HasNoLineFeed bs

-- The text spells these expressions. White space, and comments with their line feed, spell nothing. A maximal run of atom bytes spells an
-- atom. The text between parentheses spells the members of a list.
pub data Spells : List ℕ → Expressions → Type 0 where
  spells_none : Spells [] none
  spells_white : (b : ℕ) (rest : List ℕ) (xs : Expressions) → is_white b ≡ true → Spells rest xs → Spells (b ∷ rest) xs
  spells_comment : (comment rest : List ℕ) (xs : Expressions) → HasNoLineFeed comment → Spells rest xs → Spells (semicolon ∷ (comment ++ line_feed ∷ rest)) xs
  spells_atom : (word rest : List ℕ) (xs : Expressions) → IsAtom word → EndsAtom rest → Spells rest xs → Spells (word ++ rest) (more (atom word) xs)
  spells_list : (inner rest : List ℕ) (ys xs : Expressions) → Spells inner ys → Spells rest xs → Spells (left_parenthesis ∷ (inner ++ right_parenthesis ∷ rest)) (more (list ys) xs)

-- an empty text, or a comment without its line feed
abbrev pub IsLastComment : List ℕ → Type 0
IsLastComment [] = Unit {0}
IsLastComment (b ∷ bs) = (b ≡ semicolon) × HasNoLineFeed bs

-- A comment without a line feed may end a whole text, but not the text inside a list.
abbrev pub SpellsText : List ℕ → Expressions → Type 0
SpellsText text xs = (body end : List ℕ) × (text ≡ body ++ end) × Spells body xs × IsLastComment end

-- the largest number of bytes of a text
abbrev pub max_length : ℕ
max_length = 1048576

-- the text has at most `limit` bytes and spells these expressions, within the limit of depth
pub record SpellsUpTo (limit : ℕ) (text : List ℕ) (xs : Expressions) : Type 0 where
  pub short : length text ≤ limit
  pub spelled : SpellsText text xs
  pub shallow : depth_all xs ≤ max_depth

-- the text spells these expressions, within the limits of length and depth
abbrev pub SpellsAll : List ℕ → Expressions → Type 0
SpellsAll text xs = SpellsUpTo max_length text xs

-- the text spells this one expression, within the limits of length and depth
pub record SpellsOne (text : List ℕ) (x : Expression) : Type 0 where
  pub short : length text ≤ max_length
  pub spelled : SpellsText text (more x none)
  pub shallow : depth x ≤ max_depth
