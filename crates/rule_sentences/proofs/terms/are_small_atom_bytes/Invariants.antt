use Rattle.std.proofs.Common.{◌≡◌, drop}
use Rattle.rule_sentences.specs.Terms.{are_small_atom_bytes}
use Rattle.rule_sentences.proofs.terms.are_small_atom_bytes.Given as goal

abbrev pub invariant-loop-byte : goal.invariant-loop-byte
invariant-loop-byte l = are_small_atom_bytes (drop l.byte-index l.bytes) ≡ are_small_atom_bytes l.bytes
