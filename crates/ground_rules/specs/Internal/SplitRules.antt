-- Numbered rules in two parts: those with heads that do not depend on moves, and the others.
use Rattle.std.specs.Prelude.{ℕ, ◌≡◌, ◌≢◌, false, List, [], ◌∷◌, ◌++◌, length}
use Rattle.std.specs.List.Sorted.{IsPermutation}
use Rattle.rule_sentences.specs.declared.sentence.Derived.{Derived}
use Rattle.rule_sentences.specs.declared.sentence.Derived.TheVariants.{Role, Init, Next, Legal, Goal, Terminal, Other}
use Rattle.numbered_rules.specs.Literals.{Rule}
use Rattle.ground_rules.specs.Dependence.{any_speaks_of_given}
use Rattle.rule_sentences.specs.Descriptions.{Description}
use Rattle.ground_rules.specs.Internal.Ranked.{AreRankedFrom}
use Rattle.ground_rules.specs.Internal.Resolved.{NameTable, atom_number, resolved_rules}

-- the rules contain no `does` sentence
abbrev pub SpeakOfNoMoves : List (Rule ℕ ℕ) → Type 0
SpeakOfNoMoves [] = Unit {0}
SpeakOfNoMoves (r ∷ rs) = (any_speaks_of_given false r.body ≡ false) × SpeakOfNoMoves rs

abbrev pub IsNoHead : ℕ → List (Rule ℕ ℕ) → Type 0
IsNoHead n [] = Unit {0}
IsNoHead n (r ∷ rs) = (n ≢ r.head) × IsNoHead n rs

-- a derived atom that may not depend on moves
abbrev pub IsAnswer : Derived → Type 0
IsAnswer (Legal r m) = Unit {0}
IsAnswer (Goal r n) = Unit {0}
IsAnswer Terminal = Unit {0}
IsAnswer (Role r) = ⊥
IsAnswer (Init t) = ⊥
IsAnswer (Next t) = ⊥
IsAnswer (Other t) = ⊥

-- the two parts are the description's rules with numbers for names, each in the order of a ranking; the first part contains no `does`
-- sentence, and no answer is a head of the second part
pub record AreSplitOf (d : Description) (t : NameTable) (rest turn : List (Rule ℕ ℕ)) : Type 0 where
  pub moved : IsPermutation (resolved_rules t d) (rest ++ turn)
  pub rank : ℕ → ℕ
  pub ranked : AreRankedFrom rank 0 (length t.heads) (rest ++ turn)
  pub no_moves : SpeakOfNoMoves rest
  pub answers : (a : Derived) → IsAnswer a → IsNoHead (atom_number t a) turn
