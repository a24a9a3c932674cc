-- Laws about the expressions that a text spells, canonical texts, errors, and lower case.
use Rattle.std.specs.Prelude.{◌≡◌, ◌≢◌, ◌↔◌, ℕ, ◌<◌, ◌≤◌, ◌*◌, Bool, List, length, map, slice_index, ◌⊎◌, Some}
use Rattle.game_core.specs.Bytes.{lower, line_feed, semicolon, space}
use Rattle.game_core.specs.Expression.{Expression, Expressions, none, more, folded, AllHaveAtoms, IsProper}
use Rattle.game_core.specs.Canonical.{canonical, IsFoldedText}
use Rattle.kif_text.specs.Spelling.{SpellsText, SpellsUpTo, SpellsOne, max_length}
use Rattle.kif_text.specs.Faults.{bare, IsFaultUpTo, one_expression, any_number}
use Rattle.kif_text.specs.Reading.{reading}
use Rattle.kif_text.specs.declared.fault.KifFault.{KifFault}
use Rattle.kif_text.specs.declared.fault.KifFault.TheVariants.{Memory}

abbrev pub SpellsAtMostOne : Type 0
SpellsAtMostOne = (text : List ℕ) (xs ys : Expressions) → SpellsText text xs → SpellsText text ys → xs ≡ ys

abbrev pub SpelledHasAtoms : Type 0
SpelledHasAtoms = (text : List ℕ) (xs : Expressions) → SpellsText text xs → AllHaveAtoms xs

-- the text spells this expression and no other
pub record SpellsAlone (text : List ℕ) (x : Expression) : Type 0 where
  pub spelled : SpellsText text (more x none)
  pub alone : (xs : Expressions) → SpellsText text xs → xs ≡ more x none

abbrev pub CanonicalSpellsAlone : Type 0
CanonicalSpellsAlone = (x : Expression) → IsProper x → SpellsAlone (canonical x) x

abbrev pub CanonicalUnderDouble : Type 0
CanonicalUnderDouble = (text : List ℕ) (x : Expression) → SpellsText text (more x none) → length (canonical x) < 2 * length text

-- for this limit of bytes, the text has an error other than out of memory
abbrev pub HasFault : ℕ → Bool → List ℕ → Type 0
HasFault limit one text = (e : KifFault) × (e ≢ Memory) × IsFaultUpTo limit one text e

abbrev pub OneFaultAtMost : Type 0
OneFaultAtMost = (limit : ℕ) (one : Bool) (text : List ℕ) (d e : KifFault) → d ≢ Memory → e ≢ Memory → IsFaultUpTo limit one text d → IsFaultUpTo limit one text e → d ≡ e

-- either P or Q, but not both
pub record EitherOnly (P Q : Type 0) : Type 0 where
  pub either : P ⊎ Q
  pub not_both : P → Q → ⊥

abbrev pub SpelledOrFaulty : Type 0
SpelledOrFaulty = (limit : ℕ) (text : List ℕ) → EitherOnly ((xs : Expressions) × SpellsUpTo limit text xs) (HasFault limit any_number text)

abbrev pub OneSpelledOrFaulty : Type 0
OneSpelledOrFaulty = (text : List ℕ) → EitherOnly ((x : Expression) × SpellsOne text x) (HasFault max_length one_expression text)

-- offset i is in a comment: a semicolon is at or before it, and no line feed is between the two or at i
abbrev pub InComment : List ℕ → ℕ → Type 0
InComment text i = (k : ℕ) × (k ≤ i) × (slice_index text k ≡ semicolon) × ((j : ℕ) → k ≤ j → j ≤ i → slice_index text j ≢ line_feed)

-- the bare text has a space for each byte of a comment, and all other bytes are those of the text
abbrev pub BareHidesComments : Type 0
BareHidesComments = (text : List ℕ) (i : ℕ) → i < length text → (InComment text i → slice_index (bare text) i ≡ space) × (¬ (InComment text i) → slice_index (bare text) i ≡ slice_index text i)

abbrev pub FoldingCommutesWithPrinting : Type 0
FoldingCommutesWithPrinting = (x : Expression) → canonical (folded x) ≡ map lower (canonical x)

abbrev pub FoldingKeepsProper : Type 0
FoldingKeepsProper = (x : Expression) → IsProper x → IsProper (folded x)

abbrev pub FoldingTwiceIsOnce : Type 0
FoldingTwiceIsOnce = (x : Expression) → folded (folded x) ≡ folded x

abbrev pub ReadingIsSpelling : Type 0
ReadingIsSpelling = (text : List ℕ) (x : Expression) → (reading text ≡ Some x) ↔ SpellsOne text x

abbrev pub ReadingIsProper : Type 0
ReadingIsProper = (text : List ℕ) (x : Expression) → reading text ≡ Some x → IsProper x × IsFoldedText (canonical (folded x))

abbrev pub ReadingUnderDouble : Type 0
ReadingUnderDouble = (text : List ℕ) (x : Expression) → reading text ≡ Some x → (length (canonical x) < 2 * length text) × (length (canonical (folded x)) < 2 * length text)

abbrev pub CanonicalReadsBack : Type 0
CanonicalReadsBack = (x : Expression) → IsProper x → length (canonical x) ≤ max_length → reading (canonical x) ≡ Some x

abbrev pub FoldedTextReadsBack : Type 0
FoldedTextReadsBack = (text : List ℕ) → IsFoldedText text → length text ≤ max_length → (x : Expression) × (reading text ≡ Some x) × IsProper x × (folded x ≡ x) × (text ≡ canonical x)
