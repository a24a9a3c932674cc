-- The allowed positions of atomic sentences in GDL.
use Rattle.std.specs.Prelude.{Bool, true, false, ◌&&◌, Option, Some, None, if◌then◌else◌}
use Rattle.rule_sentences.specs.declared.sentence.Derived.{Derived}
use Rattle.rule_sentences.specs.declared.sentence.Derived.TheVariants.{Role, Init, Next, Legal, Goal, Terminal, Other}
use Rattle.rule_sentences.specs.declared.sentence.Atomic.{Atomic}
use Rattle.rule_sentences.specs.declared.sentence.Atomic.TheVariants.{Derived as IsDerived, InState as IsInState, Does as IsDoes}
use Rattle.numbered_rules.specs.Literals.{Holds, InState, Does, Distinct, Not, Or, End, More}
use Rattle.rule_sentences.specs.Sentences.{TextLiteral, TextLiterals, Sentence, TextRule}

-- `init` and `next` sentences may only be heads
abbrev pub stands_in_bodies : Derived → Bool
stands_in_bodies (Role r) = true
stands_in_bodies (Init t) = false
stands_in_bodies (Next t) = false
stands_in_bodies (Legal r m) = true
stands_in_bodies (Goal r n) = true
stands_in_bodies Terminal = true
stands_in_bodies (Other t) = true

abbrev mutual
  pub is_placed : TextLiteral → Bool
  is_placed (Holds a) = stands_in_bodies a
  is_placed (InState t) = true
  is_placed (Does r m) = true
  is_placed (Distinct t u) = true
  is_placed (Not l) = is_placed l
  is_placed (Or ls) = are_placed ls

  pub are_placed : TextLiterals → Bool
  are_placed End = true
  are_placed (More l ls) = is_placed l && are_placed ls

-- a `role` sentence may be a head only in a fact
abbrev pub is_head_of : Derived → TextLiterals → Bool
is_head_of (Role r) End = true
is_head_of (Role r) (More l ls) = false
is_head_of (Init t) body = true
is_head_of (Next t) body = true
is_head_of (Legal r m) body = true
is_head_of (Goal r n) body = true
is_head_of Terminal body = true
is_head_of (Other t) body = true

-- `true` and `does` sentences may only be in bodies
abbrev pub place_head : Atomic → TextLiterals → Option TextRule
place_head (IsDerived a) body = if is_head_of a body && are_placed body then Some (record { head = a; body = body }) else None
place_head (IsInState t) body = None
place_head (IsDoes r m) body = None

-- the rule for a sentence, or None if an atomic sentence is in a position that GDL does not allow
abbrev pub place : Sentence → Option TextRule
place s = place_head s.head s.body
