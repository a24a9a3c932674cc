-- The parts of a vocabulary.
use Rattle.std.specs.Prelude.{◌≡◌, List, length}
use Rattle.kif_text.specs.declared.expr.Expr.{Expr}
use Rattle.ground_rules.specs.declared.vocabulary.Vocabulary.{Vocabulary}
use Rattle.rule_sentences.specs.declared.sentence.Derived.TheVariants.{Terminal}
use Rattle.ground_rules.specs.declared.tables.StateHead.TheVariants.{Init as InitHead, Next as NextHead}
use Rattle.ground_rules.specs.Roles.{RoleTable}
use Rattle.ground_rules.specs.Internal.Resolved.{NameTable, atom_number, state_mentions}

pub record IsVocabularyOf (description : List Expr) (roles : List RoleTable) (t : NameTable) (v : Vocabulary) : Type 0 where
  pub description' : v.description.items ≡ description
  pub roles' : v.roles.items ≡ roles
  pub states : v.states.items ≡ t.states
  pub moves : v.moves.items ≡ t.moves
  pub atoms : v.atoms ≡ length t.heads
  pub init : v.init.items ≡ state_mentions InitHead t.states 0 t.heads
  pub next : v.next.items ≡ state_mentions NextHead t.states 0 t.heads
  pub terminal : v.terminal ≡ atom_number t Terminal
