-- The heads that are barred, according to the rows of dependence.
use Rattle.std.specs.Prelude.{ℕ, ◌+◌, Bool, false, ◌||◌, List, [], ◌∷◌}
use Rattle.rule_sentences.specs.declared.sentence.Derived.{Derived}
use Rattle.rule_sentences.specs.declared.sentence.Derived.TheVariants.{Role, Init, Next, Legal, Goal, Terminal, Other}
use Rattle.numbered_rules.specs.Numbered.{bit}

-- whether the head is barred; on_moves says whether it depends on a `does` sentence, and on_given whether it depends on any given sentence
abbrev pub barred_by : Derived → Bool → Bool → Bool
barred_by (Role r) on_moves on_given = false
barred_by (Init t) on_moves on_given = on_given
barred_by (Next t) on_moves on_given = false
barred_by (Legal r m) on_moves on_given = on_moves
barred_by (Goal r n) on_moves on_given = on_moves
barred_by Terminal on_moves on_given = on_moves
barred_by (Other t) on_moves on_given = false

-- whether one of the heads, numbered from n, is barred
abbrev pub has_barred : List Bool → List Bool → ℕ → List Derived → Bool
has_barred on_moves on_given n [] = false
has_barred on_moves on_given n (a ∷ as') = barred_by a (bit on_moves n) (bit on_given n) || has_barred on_moves on_given (n + 1) as'
