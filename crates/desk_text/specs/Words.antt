-- The words of a line.
use Rattle.std.specs.Prelude.{ℕ, ◌==◌, List, [], ◌∷◌, ◌++◌, Option, Some, None}
use Rattle.std.specs.List.{slice_split}
use Rattle.game_core.specs.Bytes.{space}

-- The parts of a text between its separators. There is one more part than there are separators.
abbrev pub pieces : ℕ → List ℕ → List (List ℕ)
pieces separator text = slice_split (λ b. b == separator) text

-- the parts after a separator, or none if there is no separator
abbrev pub pieces_behind : ℕ → Option (List ℕ) → List (List ℕ)
pieces_behind separator None = []
pieces_behind separator (Some rest) = pieces separator rest

abbrev pub words : List ℕ → List (List ℕ)
words text = pieces space text

abbrev pub words_behind : Option (List ℕ) → List (List ℕ)
words_behind rest = pieces_behind space rest

-- these words, each after a space
abbrev pub behind_spaces : List (List ℕ) → List ℕ
behind_spaces [] = []
behind_spaces (word ∷ more) = space ∷ (word ++ behind_spaces more)

-- these words, separated by one space
abbrev pub spaced : List (List ℕ) → List ℕ
spaced [] = []
spaced (word ∷ more) = word ++ behind_spaces more

abbrev pub max_number : ℕ
max_number = 1000000000

abbrev pub max_in_32_bits : ℕ
max_in_32_bits = 4294967295

abbrev pub max_in_64_bits : ℕ
max_in_64_bits = 18446744073709551615
