-- The rules of a description in the order of a ranking.
use Rattle.std.proofs.Common.{◌≡◌, ℕ, ◌<◌, Bool, true, false, List, [], length, slice_index, sym, ap, ◌∙◌, arith, subst}
use Rattle.std.specs.List.Sorted.{IsPermutation, IsNonDecreasingBy}
use Rattle.std.proofs.lemmas.List.{length-replicate}
use Rattle.std.proofs.lemmas.List.Sorted.{All-permutation, IsPermutation-map}
use Rattle.numbered_rules.specs.declared.numbered.Rule.{Rule as CodeRule}
use Rattle.numbered_rules.specs.Literals.{Rule}
use Rattle.ground_rules.specs.Acyclic.{IsAcyclic}
use Rattle.rule_sentences.specs.Descriptions.{Description}
use Rattle.ground_rules.specs.Dependence.{HasBarredHead}
use Rattle.ground_rules.specs.Internal.Barred.{has_barred}
use Rattle.numbered_rules.specs.Exposed.{exposed_rules}
use Rattle.numbered_rules.specs.Numbered.{rule_of, rules_of, bit, numbered, row_after, unset}
use Rattle.numbered_rules.specs.Order.{IsRanking, needs_at}
use Rattle.numbered_rules.specs.Needs.{needs_of}
use Rattle.ground_rules.specs.Internal.Resolved.{NameTable, atom_number, resolved_rules}
use Rattle.ground_rules.specs.Internal.GameParts.{IsTestOf, IsTableOf, AreRankedOf}
use Rattle.ground_rules.proofs.HeadTables.{heads-there}
use Rattle.ground_rules.proofs.Numberings.{AreNeedsOf, IsLower, rules-lower, ranked-from, ranks-number, rank_by}
use Rattle.ground_rules.proofs.GameOf.{heads-stand, row-length}
use Rattle.ground_rules.proofs.Dependences.{IsDependence, dependence-row, barred-found, barred-none}

pub needs-are : (t : NameTable) (d : Description) (needs : List (List ℕ)) (size : ℕ) (rs : List (Rule ℕ ℕ)) → size ≡ length t.heads → rs ≡ resolved_rules t d → length needs ≡ size → ((n : ℕ) → n < size → needs_at needs n ≡ needs_of size n rs) → AreNeedsOf needs (length t.heads) (resolved_rules t d)
needs-are t d needs size rs e f wide each = record {
  wide = wide ∙ e;
  each = λ n lt. each n (omega (arith, e, lt)) ∙ ap (λ k. needs_of k n rs) e ∙ ap (needs_of (length t.heads) n) f;
}

pub acyclic-by : (t : NameTable) (d : Description) (needs : List (List ℕ)) (order places : List ℕ) → IsTableOf d t → AreNeedsOf needs (length t.heads) (resolved_rules t d) → IsRanking needs order places → IsAcyclic d
acyclic-by t d needs order places table are ranking =
    ((λ a. rank_by (length t.heads) places (atom_number t a)), ranks-number t places d (rules-lower t d needs order places (heads-there t d table.heads') are ranking))

pub ranked-by : (t : NameTable) (d : Description) (needs : List (List ℕ)) (order places : List ℕ) (rs ss : List CodeRule) → IsTableOf d t → AreNeedsOf needs (length t.heads) (resolved_rules t d) → IsRanking needs order places
    → rules_of rs ≡ resolved_rules t d → IsPermutation rs ss → IsNonDecreasingBy (λ (r : CodeRule). slice_index places r.head) ss → AreRankedOf d t (rules_of ss)
ranked-by t d needs order places rs ss table are ranking e moved sorted =
    let moved' : IsPermutation (resolved_rules t d) (rules_of ss) = subst (λ (xs : List (Rule ℕ ℕ)). IsPermutation xs (rules_of ss)) e (IsPermutation-map rule_of rs ss moved) in
    let lower = All-permutation (IsLower (length t.heads) places) (resolved_rules t d) (rules_of ss) moved' (rules-lower t d needs order places (heads-there t d table.heads') are ranking) in
    record {
      moved = moved';
      rank = rank_by (length t.heads) places;
      ranked = ranked-from (length t.heads) places ss 0 lower sorted (λ x some. omega arith);
    }

pub dependence-of : (d : Description) (t : NameTable) (of_state : Bool) (rules : List (Rule ℕ ℕ)) (atoms : ℕ) (row : List Bool) → AreRankedOf d t rules → atoms ≡ length t.heads → row ≡ row_after (numbered [] []) (unset atoms) (exposed_rules of_state rules) → IsDependence t d of_state (bit row)
dependence-of d t of_state rules atoms row ranked size is =
    subst (λ (xs : List Bool). IsDependence t d of_state (bit xs)) (sym (is ∙ ap (λ n. row_after (numbered [] []) (unset n) (exposed_rules of_state rules)) size)) (dependence-row t d of_state ranked.rank (length t.heads) rules ranked.moved ranked.ranked)

dependence-length : (t : NameTable) (of_state : Bool) (rules : List (Rule ℕ ℕ)) (atoms : ℕ) (row : List Bool) → atoms ≡ length t.heads → row ≡ row_after (numbered [] []) (unset atoms) (exposed_rules of_state rules) → length row ≡ length t.heads
dependence-length t of_state rules atoms row size is = ap length is ∙ row-length (numbered [] []) (unset atoms) (exposed_rules of_state rules) ∙ length-replicate atoms false ∙ size

pub barred-test : (d : Description) (t : NameTable) (rules : List (Rule ℕ ℕ)) (atoms : ℕ) (on_moves on_given : List Bool) (b : Bool) → IsTableOf d t → IsAcyclic d → AreRankedOf d t rules → atoms ≡ length t.heads
    → on_moves ≡ row_after (numbered [] []) (unset atoms) (exposed_rules false rules) → on_given ≡ row_after (numbered [] []) (unset atoms) (exposed_rules true rules) → b ≡ has_barred on_moves on_given 0 t.heads → IsTestOf b (HasBarredHead d)
barred-test d t rules atoms on_moves on_given b table acyclic ranked size is is' e =
    let have = heads-there t d table.heads' in
    let stand = heads-stand t d table.heads' in
    let m = dependence-of d t false rules atoms on_moves ranked size is in
    let g = dependence-of d t true rules atoms on_given ranked size is' in
    record {
      yes = λ h. barred-found t d on_moves on_given have acyclic m g stand (sym e ∙ h);
      no = λ h. barred-none t d on_moves on_given (dependence-length t false rules atoms on_moves size is) (dependence-length t true rules atoms on_given size is') m g stand (sym e ∙ h);
    }
