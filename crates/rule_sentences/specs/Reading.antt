-- Reads an expression as a sentence. The result is None if the expression does not have the form of a sentence.
use Rattle.std.specs.Prelude.{ℕ, nat_le, List, Option, Some, None, option_map, if◌then◌else◌}
use Rattle.game_core.specs.Expression.{Expression, atom, list, Expressions, none, more, depth, max_depth}
use Rattle.game_core.specs.Numerals.{plain_number}
use Rattle.game_core.specs.Play.{max_goal}
use Rattle.rule_sentences.specs.declared.sentence.Derived.TheVariants.{Role, Init, Next, Legal, Goal, Terminal, Other}
use Rattle.rule_sentences.specs.declared.sentence.Atomic.{Atomic}
use Rattle.rule_sentences.specs.declared.sentence.Atomic.TheVariants.{Derived as IsDerived, InState as IsInState, Does as IsDoes}
use Rattle.rule_sentences.specs.declared.words.Word.{Word}
use Rattle.rule_sentences.specs.declared.words.Word.TheVariants.{Role as RoleWord, Init as InitWord, True as TrueWord, Next as NextWord, Does as DoesWord, Legal as LegalWord, Goal as GoalWord, Terminal as TerminalWord, If as IfWord, Not as NotWord, Or as OrWord, Distinct as DistinctWord, And as AndWord, Plain as PlainWord}
use Rattle.numbered_rules.specs.Literals.{Distinct, Not, Or, End, More}
use Rattle.rule_sentences.specs.Sentences.{TextLiteral, TextLiterals, literal_of, Sentence}
use Rattle.rule_sentences.specs.Terms.{term_text}
use Rattle.rule_sentences.specs.Words.{word_of}

abbrev pub both : {A B C : Type 0} → (A → B → C) → Option A → Option B → Option C
both f (Some x) (Some y) = Some (f x y)
both f (Some x) None = None
both f None o = None

-- the goal value: a number from 0 to 100 without leading zeros
unfoldable pub goal_value : Expression → Option ℕ
goal_value (atom w) = plain_number w max_goal
goal_value (list xs) = None

-- the kind of the first member's word, if this member is an atom
abbrev pub head_word : Expressions → Option Word
head_word none = None
head_word (more (atom w) xs) = Some (word_of w)
head_word (more (list ys) xs) = None

-- the second member, if the list has two members and the second one is a term
abbrev pub one_argument : Expressions → Option (List ℕ)
one_argument none = None
one_argument (more f none) = None
one_argument (more f (more x none)) = term_text x
one_argument (more f (more x (more y xs))) = None

-- the second and third members, if the list has three members, the second one is a term, and the function can read the third one
abbrev pub two_arguments : {A : Type 0} → (Expression → Option A) → Expressions → Option (List ℕ × A)
two_arguments read none = None
two_arguments read (more f none) = None
two_arguments read (more f (more x none)) = None
two_arguments read (more f (more x (more y none))) = both (λ t u. (t, u)) (term_text x) (read y)
two_arguments read (more f (more x (more y (more z xs)))) = None

-- reads a list with this word at its head as an atomic sentence
abbrev pub read_relation : Option Word → Expressions → Option Atomic
read_relation (Some RoleWord) xs = option_map (λ t. IsDerived (Role t)) (one_argument xs)
read_relation (Some InitWord) xs = option_map (λ t. IsDerived (Init t)) (one_argument xs)
read_relation (Some TrueWord) xs = option_map IsInState (one_argument xs)
read_relation (Some NextWord) xs = option_map (λ t. IsDerived (Next t)) (one_argument xs)
read_relation (Some DoesWord) xs = option_map (λ p. IsDoes p.0 p.1) (two_arguments term_text xs)
read_relation (Some LegalWord) xs = option_map (λ p. IsDerived (Legal p.0 p.1)) (two_arguments term_text xs)
read_relation (Some GoalWord) xs = option_map (λ p. IsDerived (Goal p.0 p.1)) (two_arguments goal_value xs)
read_relation (Some PlainWord) xs = option_map (λ t. IsDerived (Other t)) (term_text (list xs))
read_relation (Some TerminalWord) xs = None
read_relation (Some IfWord) xs = None
read_relation (Some NotWord) xs = None
read_relation (Some OrWord) xs = None
read_relation (Some DistinctWord) xs = None
read_relation (Some AndWord) xs = None
read_relation None xs = None

abbrev pub read_alone : Word → List ℕ → Option Atomic
read_alone TerminalWord w = Some (IsDerived Terminal)
read_alone PlainWord w = option_map (λ t. IsDerived (Other t)) (term_text (atom w))
read_alone _ w = None

abbrev pub read_atomic : Expression → Option Atomic
read_atomic (atom w) = read_alone (word_of w) w
read_atomic (list xs) = read_relation (head_word xs) xs

abbrev pub negation : Option TextLiterals → Option TextLiteral
negation (Some (More l End)) = Some (Not l)
negation (Some (More l (More m ls))) = None
negation (Some End) = None
negation None = None

abbrev pub disjunction : Option TextLiterals → Option TextLiteral
disjunction (Some (More l ls)) = Some (Or (More l ls))
disjunction (Some End) = None
disjunction None = None

-- reads a list as a literal, according to the word at its head; the other members have already been read as literals
abbrev pub read_compound : Option Word → Expressions → Option TextLiterals → Option TextLiteral
read_compound (Some NotWord) xs read = negation read
read_compound (Some OrWord) xs read = disjunction read
read_compound (Some DistinctWord) xs read = option_map (λ p. Distinct p.0 p.1) (two_arguments term_text xs)
read_compound word xs read = option_map literal_of (read_relation word xs)

abbrev mutual
  pub read_literal : Expression → Option TextLiteral
  read_literal (atom w) = option_map literal_of (read_alone (word_of w) w)
  read_literal (list none) = None
  read_literal (list (more x xs)) = read_compound (head_word (more x xs)) (more x xs) (read_literals xs)

  pub read_literals : Expressions → Option TextLiterals
  read_literals none = Some End
  read_literals (more x xs) = both More (read_literal x) (read_literals xs)

abbrev pub sentence : Atomic → TextLiterals → Sentence
sentence head body = record { head = head; body = body }

abbrev pub fact : Atomic → Sentence
fact head = sentence head End

-- (<= head literal ..)
abbrev pub read_rule : Expressions → Option Sentence
read_rule none = None
read_rule (more f none) = None
read_rule (more f (more head body)) = both sentence (read_atomic head) (read_literals body)

abbrev pub read_list : Option Word → Expressions → Option Sentence
read_list (Some IfWord) xs = read_rule xs
read_list word xs = option_map fact (read_relation word xs)

-- reads a sentence of any depth
abbrev pub read_form : Expression → Option Sentence
read_form (atom w) = option_map fact (read_alone (word_of w) w)
read_form (list xs) = read_list (head_word xs) xs

-- reads a sentence with lists nested at most max_depth deep
abbrev pub read_sentence : Expression → Option Sentence
read_sentence x = if nat_le (depth x) max_depth then read_form x else None
