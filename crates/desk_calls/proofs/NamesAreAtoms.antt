-- A lawful id is an atom.
use Rattle.std.proofs.Common.{◌≡◌, ℕ, true, List, [], ◌∷◌, arith}
use Rattle.std.specs.List.{list_all}
use Rattle.std.proofs.lemmas.Bool.{and_parts}
use Rattle.std.proofs.lemmas.Bool.Decides.{nat_tests}
use Rattle.game_core.specs.Bytes.{is_atom_byte}
use Rattle.game_core.specs.Expression.{AreAtomBytes}
use Rattle.desk_calls.specs.Laws.{NamesAreAtoms}
use Rattle.desk_calls.specs.Names.{is_name_byte}

name_byte_is_atom_byte : (b : ℕ) → is_name_byte b ≡ true → is_atom_byte b ≡ true
name_byte_is_atom_byte b is = grind (arith, nat_tests)

name_bytes : (w : List ℕ) → list_all is_name_byte w ≡ true → AreAtomBytes w
name_bytes [] is = tt
name_bytes (b ∷ bs) is = let p = and_parts (is_name_byte b) (list_all is_name_byte bs) is in (name_byte_is_atom_byte b p.0, name_bytes bs p.1)

pub names_are_atoms : NamesAreAtoms
names_are_atoms w is =
    let p = and_parts _ (list_all is_name_byte w) is in
    (grind (arith, nat_tests, p.0), name_bytes w p.1)
