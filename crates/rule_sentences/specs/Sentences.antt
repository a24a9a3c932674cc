-- Literals, sentences and rules over texts.
use Rattle.std.specs.Prelude.{ℕ, List}
use Rattle.numbered_rules.specs.Literals.{Literal, Literals, Holds, InState, Does, Rule}
use Rattle.rule_sentences.specs.declared.sentence.Derived.{Derived}
use Rattle.rule_sentences.specs.declared.sentence.Atomic.{Atomic}
use Rattle.rule_sentences.specs.declared.sentence.Atomic.TheVariants.{Derived as IsDerived, InState as IsInState, Does as IsDoes}

abbrev pub TextLiteral : Type 0
TextLiteral = Literal Derived (List ℕ)

abbrev pub TextLiterals : Type 0
TextLiterals = Literals Derived (List ℕ)

abbrev pub TextRule : Type 0
TextRule = Rule Derived (List ℕ)

abbrev pub literal_of : Atomic → TextLiteral
literal_of (IsDerived a) = Holds a
literal_of (IsInState t) = InState t
literal_of (IsDoes r m) = Does r m

pub record Sentence : Type 0 where
  pub head : Atomic
  pub body : TextLiterals
