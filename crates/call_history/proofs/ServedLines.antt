-- The effect of serving one line on the calls and replies that the desk has served for all lines.
use Rattle.std.proofs.Common.{◌≡◌, ℕ, ◌+◌, ◌<◌, ◌≤◌, ◌⊎◌, ◌≢◌, List, [], ◌∷◌, ◌++◌, length, get_or, set, refl, sym, subst, ◌∙◌, arith, rules, ⊎_elim, inl, inr, true, false, Result, Ok, Err, MatchResult, IfOk}
use Rattle.std.proofs.lemmas.Grind.{common_steps}
use Rattle.std.proofs.lemmas.Bool.Decides.{eqb_tells}
use Rattle.std.proofs.lemmas.List.{get_or-set_other}
use Rattle.std.proofs.Math.Dec.{eqb}
use Rattle.call_history.specs.declared.journal.Entry.{Entry}
use Rattle.call_history.specs.declared.port.Port.{Port}
use Rattle.call_history.specs.Parts.{part}
use Rattle.call_history.specs.RingLines.{SamePort, SamePorts}
use Rattle.std.specs.List.{All}
use Rattle.call_history.specs.Rounds.{Serves, ServesLines, IsIdle, IsPassedBy, Gains, GainsOne, Visits}

pub part_other : {C R : Type 0} (i : ℕ) (h : List (Entry C R)) (e : Entry C R) → e.line ≢ i → part i (h ++ e ∷ []) ≡ part i h
part_other i h e ne = grind (arith, common_steps)

pub serves_same : {C R : Type 0} (h : List (Entry C R)) (ps : List (Port C R)) (i : ℕ) (q : Port C R)
    → ServesLines h ps → Serves (part i h) q → ServesLines h (set ps i q)
serves_same h ps i q a s = record {
  lines = λ k d lt. grind (arith, common_steps, a.lines k d lt);
  parts = λ j p lt. grind (arith, common_steps);
}

pub serves_more : {C R : Type 0} (h : List (Entry C R)) (e : Entry C R) (ps : List (Port C R)) (i : ℕ) (q : Port C R)
    → i < length ps → e.line ≡ i → ServesLines h ps → Serves (part i (h ++ e ∷ [])) q → ServesLines (h ++ e ∷ []) (set ps i q)
serves_more h e ps i q lt at a s = record {
  lines = λ k d below. grind (arith, common_steps, a.lines);
  parts = λ j p below. grind (arith, common_steps, part_other, a.parts);
}

pub same_port_trans : {C R : Type 0} (a b c : Port C R) → SamePort a b → SamePort b c → SamePort a c
same_port_trans a b c s t = record { calls = search rules; replies = search rules }

pub same_ports_set : {C R : Type 0} (ps qs : List (Port C R)) (i : ℕ) (q : Port C R)
    → SamePorts ps qs → i < length qs → SamePort (get_or qs i q) q → SamePorts ps (set qs i q)
same_ports_set {C} {R} ps qs i q s lt one = record {
  count = grind (arith, common_steps, s.count);
  each = λ j p below.
      ⊎_elim
      (λ (e : (eqb j i ≡ true) × (j ≡ i)).
      let at : get_or (set qs i q) j p ≡ q = grind (arith, common_steps, e.1) in
      let same : get_or qs i q ≡ get_or qs j p = grind (arith, common_steps, e.1) in
      let P : Port C R → Type 0 = λ x. SamePort (get_or ps j p) x in
      subst P (sym at) (same_port_trans _ _ _ (s.each j p below) (let Q : Port C R → Type 0 = λ x. SamePort x q in subst Q same one)))
      (λ (n : (eqb j i ≡ false) × (j ≢ i)).
      let at : get_or (set qs i q) j p ≡ get_or qs j p = get_or-set_other qs i j q p n.1 in
      let P : Port C R → Type 0 = λ x. SamePort (get_or ps j p) x in
      subst P (sym at) (s.each j p below))
      (eqb_tells j i);
}

pub gains_skip : {C R : Type 0} (h h' : List (Entry C R)) (i n : ℕ) → Gains h h' i n → Gains h h' (i + 1) n
gains_skip h h' i n g = record { gained = g.gained; behind = g.behind; count_is = g.count_is; below = λ k d lt. omega (arith, g.below k d lt); rising = g.rising }

pub gains_one : {C R : Type 0} (h h' h'' : List (Entry C R)) (i n : ℕ) → Gains h h' i n → GainsOne i h' h'' → Gains h h'' (i + 1) (n + 1)
gains_one h h' h'' i n g a = record {
  gained = g.gained ++ a.entry ∷ [];
  behind = grind (arith, common_steps, a.behind, g.behind);
  count_is = grind (arith, common_steps, g.count_is);
  below = λ k d lt. grind (arith, common_steps, g.below, g.count_is, a.line_is);
  rising = λ p q d b lt. grind (arith, common_steps, g.rising, g.below, a.line_is);
}

pub serves_by : {C R : Type 0} (h h' : List (Entry C R)) (ps : List (Port C R)) (i : ℕ) (q : Port C R)
    → i < length ps → GainsOne i h h' → ServesLines h ps → Serves (part i h') q → ServesLines h' (set ps i q)
serves_by {C} {R} h h' ps i q lt a before s =
    let P : List (Entry C R) → Type 0 = λ x. ServesLines x (set ps i q) in
    let s' : Serves (part i (h ++ a.entry ∷ [])) q = (let Q : List (Entry C R) → Type 0 = λ x. Serves (part i x) q in subst Q a.behind s) in
    subst P (sym a.behind) (serves_more h a.entry ps i q lt a.line_is before s')

pub serves_with : {C R : Type 0} (h h' : List (Entry C R)) (ps : List (Port C R)) (i : ℕ) (q : Port C R)
    → h' ≡ h → ServesLines h ps → Serves (part i h') q → ServesLines h' (set ps i q)
serves_with {C} {R} h h' ps i q e before s =
    let P : List (Entry C R) → Type 0 = λ x. ServesLines x (set ps i q) in
    let s' : Serves (part i h) q = (let Q : List (Entry C R) → Type 0 = λ x. Serves (part i x) q in subst Q e s) in
    subst P (sym e) (serves_same h ps i q before s')

pub gains_with : {C R : Type 0} (h h' h'' : List (Entry C R)) (i n : ℕ) → Gains h h' i n → h'' ≡ h' → Gains h h'' (i + 1) n
gains_with {C} {R} h h' h'' i n g e = let P : List (Entry C R) → Type 0 = λ x. Gains h x (i + 1) n in subst P (sym e) (gains_skip h h' i n g)

pub get_set : {X : Type 0} (P : X → Type 0) (xs : List X) (i j : ℕ) (y d : X) → i < length xs → (j ≡ i → P y) → (j ≢ i → P (get_or xs j d)) → P (get_or (set xs i y) j d)
get_set {X} P xs i j y d lt at other =
    ⊎_elim
    (λ (e : (eqb j i ≡ true) × (j ≡ i)).
    let here : get_or (set xs i y) j d ≡ y = grind (arith, common_steps, e.1) in subst P (sym here) (at e.1))
    (λ (n : (eqb j i ≡ false) × (j ≢ i)). subst P (sym (get_or-set_other xs i j y d n.1)) (other n.1))
    (eqb_tells j i)

-- a line's part of the history never becomes shorter
pub part_grows : {C R : Type 0} (i : ℕ) (h more : List (Entry C R)) → length (part i h) ≤ length (part i (h ++ more))
part_grows i h more = grind (arith, common_steps)

pub part_gains : {C R : Type 0} (i : ℕ) (h : List (Entry C R)) (e : Entry C R) → e.line ≡ i → length (part i (h ++ e ∷ [])) ≡ length (part i h) + 1
part_gains i h e is = grind (arith, common_steps, is)

-- the line at i is as it was when the round began
pub passed_by : {C R : Type 0} (ps0 ps : List (Port C R)) (i : ℕ) (old q : Port C R) → ((p : Port C R) → old ≡ get_or ps i p)
    → ((j : ℕ) (p : Port C R) → i ≤ j → get_or ps j p ≡ get_or ps0 j p) → IsPassedBy old q → (p : Port C R) → IsPassedBy (get_or ps0 i p) q
passed_by {C} {R} ps0 ps i old q is rest passed p = subst (λ (x : Port C R). IsPassedBy x q) (is p ∙ rest i p (omega arith)) passed

-- the lines after i are as they were when the round began
pub rest_after : {C R : Type 0} (ps0 ps : List (Port C R)) (i : ℕ) (q : Port C R) → ((j : ℕ) (p : Port C R) → i ≤ j → get_or ps j p ≡ get_or ps0 j p)
    → (j : ℕ) (p : Port C R) → i + 1 ≤ j → get_or (set ps i q) j p ≡ get_or ps0 j p
rest_after ps0 ps i q rest j p above = get_or-set_other ps i j q p (λ same. omega (arith, same, above)) ∙ rest j p (omega (arith, above))

pub visits_one : {C R : Type 0} (h h' h'' : List (Entry C R)) (ps0 ps : List (Port C R)) (i n : ℕ) (q : Port C R)
    → i < length ps → Gains h h' i n → GainsOne i h' h'' → Visits h h' ps0 ps i → Visits h h'' ps0 (set ps i q) (i + 1)
visits_one {C} {R} h h' h'' ps0 ps i n q lt gains one visited = λ j p below.
    let H : List (Entry C R) → Type 0 = λ x. length (part j h) ≤ length (part j x) in
    let grown : length (part j h) ≤ length (part j h') = subst H (sym gains.behind) (part_grows j h gains.gained) in
    let G : List (Entry C R) → Type 0 = λ x. length (part j h') ≤ length (part j x) in
    let kept : length (part j h') ≤ length (part j h'') = subst G (sym one.behind) (part_grows j h' (one.entry ∷ [])) in
    get_set (λ x. IsPassedBy (get_or ps0 j p) x ⊎ (length (part j h) < length (part j h''))) ps i j q p lt
    (λ at.
    let line : one.entry.line ≡ j = grind (arith, one.line_is, at) in
    let E : List (Entry C R) → Type 0 = λ x. length (part j x) ≡ length (part j h') + 1 in
    let more : length (part j h'') ≡ length (part j h') + 1 = subst E (sym one.behind) (part_gains j h' one.entry line) in
    inr (omega (arith, grown, more)))
    (λ apart. ⊎_elim (λ passed. inl passed) (λ less. inr (omega (arith, less, kept))) (visited j p (omega (arith, below, apart))))

pub visits_idle : {C R : Type 0} (h h' h'' : List (Entry C R)) (ps0 ps : List (Port C R)) (i : ℕ) (q : Port C R)
    → i < length ps → h'' ≡ h' → ((p : Port C R) → IsPassedBy (get_or ps0 i p) q) → Visits h h' ps0 ps i → Visits h h'' ps0 (set ps i q) (i + 1)
visits_idle {C} {R} h h' h'' ps0 ps i q lt same passed visited =
    let V : List (Entry C R) → Type 0 = λ x. Visits h x ps0 (set ps i q) (i + 1) in
    subst V (sym same) (λ j p below.
    get_set (λ x. IsPassedBy (get_or ps0 j p) x ⊎ (length (part j h) < length (part j h'))) ps i j q p lt
    (λ at. inl (subst (λ (n : ℕ). IsPassedBy (get_or ps0 n p) q) (sym at) (passed p)))
    (λ apart. visited j p (omega (arith, below, apart))))

-- after a round that serves nothing, each line is idle
pub idle_after : {C R F : Type 0} (served : Result ℕ F) (h h' : List (Entry C R)) (ps0 ps : List (Port C R)) (bound : ℕ) (P Q : F → Type 0) → length ps ≡ bound
    → MatchResult served (λ n. Gains h h' bound n) P → MatchResult served (λ _. Visits h h' ps0 ps bound) Q → IfOk served (λ n. n ≡ 0 → All IsIdle ps)
idle_after (Ok n) h h' ps0 ps bound P Q count gains visited = λ none i p below.
    let same : length (part i h') ≡ length (part i h) = grind (arith, common_steps, gains.behind, gains.count_is, none) in
    ⊎_elim (λ passed. passed.idle) (λ less. absurd (omega (arith, less, same))) (visited i p (omega (arith, below, count)))
idle_after (Err fault) h h' ps0 ps bound P Q count gains visited = tt
