-- The parts of the game of a description.
use Rattle.std.specs.Prelude.{ℕ, ◌≡◌, ◌≤◌, Bool, true, false, ◌&&◌, nat_le, List, map, length}
use Rattle.std.specs.List.{list_all}
use Rattle.std.specs.List.Sorted.{IsPermutation}
use Rattle.game_core.specs.Limits.{max_sentences, max_atomic_sentences}
use Rattle.game_core.specs.declared.limits.Limits.{Limits}
use Rattle.game_core.specs.Play.{max_roles}
use Rattle.ground_rules.specs.declared.names.TermKind.TheVariants.{State, Move}
use Rattle.numbered_rules.specs.Literals.{Rule}
use Rattle.rule_sentences.specs.Descriptions.{Description, is_among, role_names, heads, each_once}
use Rattle.ground_rules.specs.Lawfulness.TableTests.{are_in_order}
use Rattle.rule_sentences.specs.Sizes.{max_moves, same_atomic, atomics}
use Rattle.ground_rules.specs.Roles.{RoleTable}
use Rattle.ground_rules.specs.Internal.Ranked.{AreRankedFrom}
use Rattle.ground_rules.specs.Internal.SplitRules.{AreSplitOf}
use Rattle.ground_rules.specs.Internal.Resolved.{NameTable, head_terms, resolved_rules, role_table}
use Rattle.ground_rules.specs.Acyclic.{IsAcyclic}
use Rattle.ground_rules.specs.Loading.{HasRoles}

pub record IsTableOf (d : Description) (t : NameTable) : Type 0 where
  pub heads' : t.heads ≡ heads d
  pub roles : t.roles ≡ role_names d
  pub states_ordered : are_in_order t.states ≡ true
  pub moves_ordered : are_in_order t.moves ≡ true
  pub states : (u : List ℕ) → is_among t.states u ≡ is_among (head_terms State d) u
  pub moves : (u : List ℕ) → is_among t.moves u ≡ is_among (head_terms Move d) u

-- the description is within all limits except perhaps the limit on moves
abbrev pub is_small_so_far : Limits → ℕ → Description → Bool
is_small_so_far limits n d = nat_le n (max_sentences limits) && nat_le (length (each_once same_atomic (atomics d))) (max_atomic_sentences limits) && nat_le (length (role_names d)) max_roles

abbrev pub have_few_moves_by : List RoleTable → Bool
have_few_moves_by rs = list_all (λ r. nat_le (length r.legal) max_moves) rs

-- the rules are the description's rules with numbers for names, in the order of a ranking
pub record AreRankedOf (d : Description) (t : NameTable) (rules : List (Rule ℕ ℕ)) : Type 0 where
  pub moved : IsPermutation (resolved_rules t d) rules
  pub rank : ℕ → ℕ
  pub ranked : AreRankedFrom rank 0 (length t.heads) rules

-- b is true if and only if P holds
pub record IsTestOf (b : Bool) (P : Type 0) : Type 0 where
  pub yes : b ≡ true → P
  pub no : b ≡ false → ¬ P

pub record AreNamesOf (d : Description) (t : NameTable) (roles : List RoleTable) : Type 0 where
  pub roles' : HasRoles d
  pub few_roles : length (role_names d) ≤ max_roles
  pub acyclic : IsAcyclic d
  pub table : IsTableOf d t
  pub tables : roles ≡ map (role_table t) t.roles

pub record AreGameParts (d : Description) (t : NameTable) (roles : List RoleTable) (rest turn : List (Rule ℕ ℕ)) : Type 0 where
  pub names : AreNamesOf d t roles
  pub split : AreSplitOf d t rest turn
