-- The rules of Countdown as text, for players.
use Rattle.std.specs.Prelude.{ℕ, zero, suc, ◌+◌, nat_lt, List, [], ◌∷◌, ◌++◌, codes, flat_map, if◌then◌else◌}
use Rattle.std.specs.Fmt.{decimal}
use Rattle.game_core.specs.Bytes.{line_feed}

-- the rules that are the same for every heap: the order of the turns, the legal moves, the end of the game, and the goals
abbrev pub turn_rules : List (List ℕ)
turn_rules =
    codes "(role red) (role blue) (init (turn red))"
    ∷ codes "(<= busy (not (true (heap 0))))"
    ∷ codes "(<= (legal red (take 1)) (true (turn red)) busy)"
    ∷ codes "(<= (legal red (take 2)) (true (turn red)) busy (not (true (heap 1))))"
    ∷ codes "(<= (legal red noop) (true (turn blue)) busy)"
    ∷ codes "(<= (legal blue (take 1)) (true (turn blue)) busy)"
    ∷ codes "(<= (legal blue (take 2)) (true (turn blue)) busy (not (true (heap 1))))"
    ∷ codes "(<= (legal blue noop) (true (turn red)) busy)"
    ∷ codes "(<= one (or (does red (take 1)) (does blue (take 1))))"
    ∷ codes "(<= two (or (does red (take 2)) (does blue (take 2))))"
    ∷ codes "(<= (next (turn blue)) (true (turn red)))"
    ∷ codes "(<= (next (turn red)) (true (turn blue)))"
    ∷ codes "(<= terminal (true (heap 0)))"
    ∷ codes "(<= (goal red 100) (true (heap 0)) (true (turn blue)))"
    ∷ codes "(<= (goal red 0) (true (heap 0)) (true (turn red)))"
    ∷ codes "(<= (goal blue 100) (true (heap 0)) (true (turn red)))"
    ∷ codes "(<= (goal blue 0) (true (heap 0)) (true (turn blue)))"
    ∷ []

-- the rule that a heap of `before` becomes a heap of `left` if this atom is true
abbrev pub step_rule : ℕ → ℕ → List ℕ → List ℕ
step_rule left before word = codes "(<= (next (heap " ++ (decimal left ++ (codes ")) (true (heap " ++ (decimal before ++ (codes ")) " ++ (word ++ (codes ")" ++ line_feed ∷ []))))))

-- the rules that turn a heap of at most `size` into a heap of `left`: a move takes one or two
abbrev pub steps_to : ℕ → ℕ → List ℕ
steps_to size left = step_rule left (left + 1) (codes "one") ++ (if nat_lt (left + 1) size then step_rule left (left + 2) (codes "two") else [])

-- the rules for each heap below this number, the smallest first
abbrev pub steps_below : ℕ → ℕ → List ℕ
steps_below size zero = []
steps_below size (suc left) = steps_below size left ++ steps_to size left

-- the rules of Countdown with a heap of this size
abbrev pub countdown_text : ℕ → List ℕ
countdown_text size = flat_map (λ rule. rule ++ line_feed ∷ []) turn_rules ++ (codes "(init (heap " ++ (decimal size ++ (codes "))" ++ line_feed ∷ steps_below size size)))
