-- The atoms of the expressions that a text spells, and the length of their canonical text.
use Rattle.std.proofs.Common.{ℕ, ◌*◌, ◌≤◌, List, [], ◌∷◌, ◌++◌, length, ap, arith}
use Rattle.std.proofs.lemmas.List.{length-append}
use Rattle.game_core.specs.Bytes.{line_feed, right_parenthesis}
use Rattle.game_core.specs.Expression.{Expressions, none, more, AllHaveAtoms}
use Rattle.game_core.specs.Canonical.{canonical, members, later}
use Rattle.kif_text.specs.Spelling.{Spells, spells_none, spells_white, spells_comment, spells_atom, spells_list}
use Rattle.kif_text.specs.Laws.{SpelledHasAtoms, CanonicalUnderDouble}

atoms_of : (text : List ℕ) (xs : Expressions) → Spells text xs → AllHaveAtoms xs
atoms_of text xs spells_none = tt
atoms_of text xs (spells_white b rest ys w h) = atoms_of rest ys h
atoms_of text xs (spells_comment c rest ys n h) = atoms_of rest ys h
atoms_of text xs (spells_atom w rest ys a e h) = (a, atoms_of rest ys h)
atoms_of text xs (spells_list inner rest ys zs h k) = (atoms_of inner ys h, atoms_of rest zs k)

pub spelled_has_atoms : SpelledHasAtoms
spelled_has_atoms text xs h = atoms_of h.0 xs h.3

members_le : (xs : Expressions) → length (members xs) ≤ length (later xs)
members_le none = omega arith
members_le (more x xs) = omega arith

-- printing takes at most two bytes for each byte of the text, including the space before each expression
doubles : (text : List ℕ) (xs : Expressions) → Spells text xs → length (later xs) ≤ 2 * length text
doubles text xs spells_none = omega arith
doubles text xs (spells_white b rest ys w h) = omega (arith, doubles rest ys h)
doubles text xs (spells_comment c rest ys n h) = omega (arith, doubles rest ys h, length-append c (line_feed ∷ rest))
doubles text xs (spells_atom w rest ys a e h) = omega (arith, doubles rest ys h, length-append w rest, length-append w (later ys), a.0)
doubles text xs (spells_list inner rest ys zs h k) =
    omega (arith, doubles inner ys h, doubles rest zs k, members_le ys, length-append inner (right_parenthesis ∷ rest), length-append (members ys ++ right_parenthesis ∷ []) (later zs), length-append (members ys) (right_parenthesis ∷ []))

pub canonical_under_double : CanonicalUnderDouble
canonical_under_double text x h =
    omega (arith, doubles h.0 (more x none) h.3, ap length h.2, length-append h.0 h.1, length-append (canonical x) [])
