-- The game made from the parts of a description is the description's game.
use Rattle.std.proofs.Common.{◌≡◌, ◌≢◌, ℕ, ◌≤◌, true, List, [], ◌∷◌, length, map, refl, sym, ap, ◌∙◌, arith, subst}
use Rattle.std.proofs.lemmas.List.{length-map}
use Rattle.game_core.specs.Expression.{Expression}
use Rattle.game_core.specs.Play.{max_roles, IsLawful}
use Rattle.kif_text.specs.View.{expressions}
use Rattle.rule_sentences.specs.declared.sentence.Derived.{Derived}
use Rattle.rule_sentences.specs.declared.sentence.Derived.TheVariants.{Legal, Terminal}
use Rattle.ground_rules.specs.declared.names.TermKind.TheVariants.{State, Move}
use Rattle.ground_rules.specs.declared.tables.StateHead.TheVariants.{Init as InitHead, Next as NextHead}
use Rattle.ground_rules.specs.Lawfulness.TermTexts.{are_terms_in_any}
use Rattle.rule_sentences.specs.Descriptions.{Description, is_among, role_names, are_different}
use Rattle.ground_rules.specs.Described.{IsGameOf}
use Rattle.ground_rules.specs.Roles.{RoleTable}
use Rattle.ground_rules.specs.Lawfulness.TableTests.{are_roles, names}
use Rattle.ground_rules.specs.Internal.Resolved.{NameTable, atom_number, role_table, state_mentions, head_terms}
use Rattle.ground_rules.specs.LoadedGame.{GameTables, loaded_game}
use Rattle.rule_sentences.specs.SentenceFaults.{description_of}
use Rattle.ground_rules.specs.Internal.GameParts.{AreGameParts, AreNamesOf, IsTableOf}
use Rattle.ground_rules.proofs.GameOf.{EachIs, each-new, heads-stand, one-about, picked-in, table-names, game-of}
use Rattle.ground_rules.proofs.Mentions.{AreIn, texts_by, legal_pick, legal-picks}
use Rattle.ground_rules.proofs.LawfulTables.{HeadFrom, role-tables, head-terms, terms-spelled, names-spelled}
use Rattle.ground_rules.proofs.HeadsRead.{heads-read}

some-length : {A : Type 0} (xs : List A) → xs ≢ [] → 1 ≤ length xs
some-length [] ne = absurd (ne refl)
some-length (x ∷ xs) ne = omega arith

pub some-role : (d : Description) (t : NameTable) (roles : List RoleTable) → AreNamesOf d t roles → 1 ≤ length roles
some-role d t roles p =
    let some = some-length (role_names d) p.roles'.some' in
    omega (arith, some, ap length p.table.roles, ap length p.tables, length-map t.roles (role_table t))

pub few-roles : (d : Description) (t : NameTable) (roles : List RoleTable) → AreNamesOf d t roles → length roles ≤ max_roles
few-roles d t roles p =
    omega (arith, p.few_roles, ap length p.table.roles, ap length p.tables, length-map t.roles (role_table t))

pub names-are : (d : Description) (t : NameTable) (roles : List RoleTable) → AreNamesOf d t roles → names roles ≡ role_names d
names-are d t roles p = ap names p.tables ∙ table-names t t.roles ∙ p.table.roles

heads-from : (xs : List Expression) (t : NameTable) → IsTableOf (description_of xs) t → EachIs (HeadFrom (expressions xs)) t.heads
heads-from xs t table = subst (λ (hs : List Derived). EachIs (HeadFrom (expressions xs)) hs) (sym table.heads') (each-new (HeadFrom (expressions xs)) [] (map (λ r. r.head) (description_of xs)) tt (heads-read xs))

has-states : (d : Description) (t : NameTable) → IsTableOf d t → (u : List ℕ) → is_among (head_terms State d) u ≡ true → is_among t.states u ≡ true
has-states d t table u h = table.states u ∙ h

has-moves : (d : Description) (t : NameTable) → IsTableOf d t → (u : List ℕ) → is_among (head_terms Move d) u ≡ true → is_among t.moves u ≡ true
has-moves d t table u h = table.moves u ∙ h

pub tables-pass : (xs : List Expression) (t : NameTable) (roles : List RoleTable) (terms : List (List ℕ)) → AreNamesOf (description_of xs) t roles → terms ≡ t.moves → are_roles (length terms) roles ≡ true
tables-pass xs t roles terms p e =
    let d = description_of xs in
    let inside : (role : List ℕ) → AreIn t.moves (texts_by (legal_pick role) t.heads) = λ role.
    subst (λ (hs : List Derived). AreIn t.moves (texts_by (legal_pick role) hs)) (sym p.table.heads') (picked-in Move d t.moves (legal_pick role) (Legal role) (legal-picks role) one-about (has-moves d t p.table)) in
    ap (λ ts. are_roles (length ts) roles) e ∙ ap (are_roles (length t.moves)) p.tables ∙ role-tables (expressions xs) t t.roles (heads-from xs t p.table) (heads-stand t d p.table.heads') inside

pub names-pass : (d : Description) (t : NameTable) (roles : List RoleTable) → AreNamesOf d t roles → are_different (names roles) ≡ true
names-pass d t roles p = ap are_different (names-are d t roles p) ∙ p.roles'.differ

pub names-read : (xs : List Expression) (t : NameTable) (roles : List RoleTable) → AreNamesOf (description_of xs) t roles → are_terms_in_any (expressions xs) (names roles) ≡ true
names-read xs t roles p = ap (are_terms_in_any (expressions xs)) (names-are (description_of xs) t roles p) ∙ names-spelled (expressions xs) (description_of xs) (heads-read xs)

pub states-read : (xs : List Expression) (t : NameTable) (roles : List RoleTable) (terms : List (List ℕ)) → AreNamesOf (description_of xs) t roles → terms ≡ t.states → are_terms_in_any (expressions xs) terms ≡ true
states-read xs t roles terms p e =
    ap (are_terms_in_any (expressions xs)) e
    ∙ terms-spelled (expressions xs) t.states (λ u h. head-terms (expressions xs) State (description_of xs) u (heads-read xs) (sym (p.table.states u) ∙ h))

pub moves-read : (xs : List Expression) (t : NameTable) (roles : List RoleTable) (terms : List (List ℕ)) → AreNamesOf (description_of xs) t roles → terms ≡ t.moves → are_terms_in_any (expressions xs) terms ≡ true
moves-read xs t roles terms p e =
    ap (are_terms_in_any (expressions xs)) e
    ∙ terms-spelled (expressions xs) t.moves (λ u h. head-terms (expressions xs) Move (description_of xs) u (heads-read xs) (sym (p.table.moves u) ∙ h))

pub game-of-tables : (xs : List Expression) (t : NameTable) (g : GameTables) → IsLawful (loaded_game g) → AreGameParts (description_of xs) t g.roles g.rest g.turn
    → g.states ≡ t.states → g.moves ≡ t.moves → g.init ≡ state_mentions InitHead t.states 0 t.heads → g.next ≡ state_mentions NextHead t.states 0 t.heads → g.terminal ≡ atom_number t Terminal → g.atoms ≡ length t.heads → IsGameOf (description_of xs) (loaded_game g)
game-of-tables xs t g lawful p states moves init next terminal atoms =
    let d = description_of xs in
    game-of d t p.split.rank g record {
      heads' = p.names.table.heads';
      roles = p.names.table.roles;
      states = states;
      moves = moves;
      role_tables = p.names.tables;
      init = init;
      next = next;
      terminal = terminal;
      atoms = atoms;
      moved = p.split.moved;
      ranked = p.split.ranked;
      no_moves = p.split.no_moves;
      answers = p.split.answers;
      differ = ap are_different p.names.table.roles ∙ p.names.roles'.differ;
      states_ordered = p.names.table.states_ordered;
      moves_ordered = p.names.table.moves_ordered;
      has_states = has-states d t p.names.table;
      has_moves = has-moves d t p.names.table;
      acyclic = p.names.acyclic;
    } lawful
