-- Each step of the search keeps its invariants true.
use Rattle.std.proofs.Common.{ℕ, zero, suc, ◌<◌, ◌≤◌, ◌≡◌, ◌≢◌, ◌+◌, ◌-◌, List, [], ◌∷◌, ◌++◌, refl, ap, sym, ◌∙◌, arith, length, set, get_or, length-set, get_or-set_other, get_or-set_same, length-append, replicate}
use Rattle.std.proofs.Common.{◌⊎◌, inl, inr, slice_index}
use Rattle.std.proofs.lemmas.Bool.{cases_order, cases_eq, cases_lt}
use Rattle.std.proofs.lemmas.List.{get_or_append_left, get_or_push, get_or_default, get_or_past}
use Rattle.std.proofs.lemmas.List.Sums.{sum_by-set}
use Rattle.numbered_rules.specs.declared.rank.Mark.{Mark}
use Rattle.numbered_rules.specs.declared.rank.Mark.TheVariants.{New, Open, Done}
use Rattle.numbered_rules.specs.Order.{IsDown, IsGraphAcyclic, IsRanking, needs_at}
use Rattle.numbered_rules.specs.Internal.Search.{IsSearching, IsPlaced, IsBefore, IsNeed, IsLinked, mark, work, weight}

mark-old : (marks : List Mark) (d n : ℕ) (x y : Mark) → d < length marks → mark (set marks d x) n ≡ y → x ≢ y → (n ≢ d) × (mark marks n ≡ y)
mark-old marks d n x y lt is ne =
    let other : n ≢ d = λ e. ne (sym (get_or-set_same marks d x New lt) ∙ (ap (λ k. mark (set marks d x) k) (sym e) ∙ is)) in
    (other, sym (get_or-set_other marks d n x New other) ∙ is)

-- writing one mark keeps the others
mark-kept : (marks : List Mark) (d n : ℕ) (x y : Mark) → mark marks n ≡ y → mark marks d ≢ y → mark (set marks d x) n ≡ y
mark-kept marks d n x y is ne =
    let other : n ≢ d = λ e. ne (ap (λ k. mark marks k) (sym e) ∙ is) in
    get_or-set_other marks d n x New other ∙ is

new_not_done : (m : Mark) (r : ℕ) → m ≡ New → m ≢ Done r
new_not_done m r e f = cc

open_not_done : (m : Mark) (k r : ℕ) → m ≡ Open k → m ≢ Done r
open_not_done m k r e f = cc

placed-kept : (marks : List Mark) (d n : ℕ) (x : Mark) → ((r : ℕ) → mark marks d ≢ Done r) → IsPlaced marks n → IsPlaced (set marks d x) n
placed-kept marks d n x ne is = (is.0, mark-kept marks d n x (Done is.0) is.1 (ne is.0))

before-kept : (marks : List Mark) (d n r : ℕ) (x : Mark) → ((q : ℕ) → mark marks d ≢ Done q) → IsBefore marks r n → IsBefore (set marks d x) r n
before-kept marks d n r x ne is = (is.0, mark-kept marks d n x (Done is.0) is.1 (ne is.0), is.2)

push-left : (xs : List ℕ) (y k : ℕ) → k < length xs → get_or (xs ++ y ∷ []) k 0 ≡ get_or xs k 0
push-left xs y k lt = get_or_append_left xs (y ∷ []) 0 k lt

push-right : (xs : List ℕ) (y k : ℕ) → length xs ≡ k → get_or (xs ++ y ∷ []) k 0 ≡ y
push-right xs y k e = get_or_push xs y 0 k e

length-push : (xs : List ℕ) (y : ℕ) → length (xs ++ y ∷ []) ≡ length xs + 1
length-push xs y = length-append xs (y ∷ [])

pub last_or : (k n : ℕ) → k < n + 1 → (k < n) ⊎ (k ≡ n)
last_or k n lt = elim (cases_order k n) [ inl e ↦ inr e | inr f ↦ elim f [ inl g ↦ inl g | inr g ↦ absurd (omega arith) ] ]

need-at : (needs : List (List ℕ)) (n d n' d' : ℕ) → n' ≡ n → d' ≡ d → IsNeed needs n d → IsNeed needs n' d'
need-at needs n d n' d' e f h = rw (e, f) h

open_is : (j k : ℕ) → ◌≡◌ {A = Mark} (Open j) (Open k) → j ≡ k
open_is j k e = cc

done_is : (j k : ℕ) → ◌≡◌ {A = Mark} (Done j) (Done k) → j ≡ k
done_is j k e = cc

opened-open : (marks : List Mark) (path : List ℕ) (d n k : ℕ) → ((n k : ℕ) → mark marks n ≡ Open k → (k < length path) × (slice_index path k ≡ n)) → d < length marks → mark (set marks d (Open (length path))) n ≡ Open k → (k < length (path ++ d ∷ [])) × (slice_index (path ++ d ∷ []) k ≡ n)
opened-open marks path d n k opens within is =
    let size = length-push path d in
    elim (cases_eq n d) [
      | inl e ↦ let f : length path ≡ k = open_is (length path) k (sym (get_or-set_same marks d (Open (length path)) New within) ∙ (ap (λ m. mark (set marks d (Open (length path))) m) (sym e) ∙ is)) in
          (omega (arith, size, f), push-right path d k f ∙ sym e)
      | inr ne ↦ let old = opens n k (sym (get_or-set_other marks d n (Open (length path)) New ne) ∙ is) in
          (omega (arith, size, old.0), push-left path d k old.0 ∙ old.1)
    ]

opened-on_path : (marks : List Mark) (path : List ℕ) (d k : ℕ) → ((k : ℕ) → k < length path → mark marks (slice_index path k) ≡ Open k) → d < length marks → mark marks d ≡ New → k < length (path ++ d ∷ []) → mark (set marks d (Open (length path))) (slice_index (path ++ d ∷ []) k) ≡ Open k
opened-on_path marks path d k on within fresh lt =
    let size = length-push path d in
    elim (last_or k (length path) (omega (arith, size, lt))) [
      | inl h ↦ ap (λ m. mark (set marks d (Open (length path))) m) (push-left path d k h) ∙ mark-kept marks d (slice_index path k) (Open (length path)) (Open k) (on k h) (λ e. let f : ◌≡◌ {A = Mark} New (Open k) = sym fresh ∙ e in cc)
      | inr e ↦ ap (λ m. mark (set marks d (Open (length path))) m) (push-right path d k (sym e)) ∙ (get_or-set_same marks d (Open (length path)) New within ∙ ap Open (sym e))
    ]

opened-within : (size : ℕ) (path : List ℕ) (d k : ℕ) → ((k : ℕ) → k < length path → slice_index path k < size) → d < size → k < length (path ++ d ∷ []) → slice_index (path ++ d ∷ []) k < size
opened-within size path d k within here lt =
    let more = length-push path d in
    elim (last_or k (length path) (omega (arith, more, lt))) [
      | inl h ↦ let e = push-left path d k h in let f = within k h in omega (arith, e, f)
      | inr e ↦ let f = push-right path d k (sym e) in omega (arith, f, here)
    ]

opened-chain : (needs : List (List ℕ)) (path : List ℕ) (d k : ℕ) → ((k : ℕ) → k + 1 < length path → IsNeed needs (slice_index path k) (slice_index path (k + 1))) → IsLinked needs path d → k + 1 < length (path ++ d ∷ []) → IsNeed needs (slice_index (path ++ d ∷ []) k) (slice_index (path ++ d ∷ []) (k + 1))
opened-chain needs path d k chain linked lt =
    let more = length-push path d in
    elim (last_or (k + 1) (length path) (omega (arith, more, lt))) [
      | inl h ↦ need-at needs _ _ _ _ (push-left path d k (omega (arith, h))) (push-left path d (k + 1) h) (chain k h)
      | inr e ↦ need-at needs _ _ _ _ (push-left path d k (omega (arith, e))) (push-right path d (k + 1) (sym e)) (linked k e)
    ]

pub opened : (needs : List (List ℕ)) (marks : List Mark) (next path order : List ℕ) (d : ℕ) → IsSearching needs marks next path order → d < length needs → mark marks d ≡ New → IsLinked needs path d → IsSearching needs (set marks d (Open (length path))) next (path ++ d ∷ []) order
opened needs marks next path order d s within fresh linked =
    let here : d < length marks = omega (arith, s.marks_wide) in
    let not_done : (r : ℕ) → mark marks d ≢ Done r = λ r. new_not_done (mark marks d) r fresh in
    let size = length-push path d in
    record {
      graph = s.graph;
      marks_wide = length-set marks d (Open (length path)) ∙ s.marks_wide;
      next_wide = s.next_wide;
      next_within = s.next_within;
      passed = λ n i lt. placed-kept marks d _ _ not_done (s.passed n i lt);
      done = λ n i r is lt. before-kept marks d _ r _ not_done (s.done n i r (mark-old marks d n (Open (length path)) (Done r) here is (λ e. cc)).1 lt);
      placed = λ n r is. s.placed n r (mark-old marks d n (Open (length path)) (Done r) here is (λ e. cc)).1;
      ordered = λ r lt. mark-kept marks d _ _ (Done r) (s.ordered r lt) (not_done r);
      open' = λ n k is. opened-open marks path d n k s.open' here is;
      on_path = λ k lt. opened-on_path marks path d k s.on_path here fresh lt;
      within = λ k lt. opened-within (length needs) path d k s.within within lt;
      chain = λ k lt. opened-chain needs path d k s.chain linked lt;
    }

finished-done : (needs : List (List ℕ)) (marks : List Mark) (top size n i r : ℕ) → top < length marks → ((r : ℕ) → mark marks top ≢ Done r)
    → ((i : ℕ) → i < length (needs_at needs top) → IsBefore marks size (slice_index (needs_at needs top) i))
    → ((n i r : ℕ) → mark marks n ≡ Done r → i < length (needs_at needs n) → IsBefore marks r (slice_index (needs_at needs n) i))
    → mark (set marks top (Done size)) n ≡ Done r → i < length (needs_at needs n) → IsBefore (set marks top (Done size)) r (slice_index (needs_at needs n) i)
finished-done needs marks top size n i r within not_done placed done is lt =
    elim (cases_eq n top) [
      | inl e ↦ let f : size ≡ r = done_is size r (sym (get_or-set_same marks top (Done size) New within) ∙ (ap (λ m. mark (set marks top (Done size)) m) (sym e) ∙ is)) in
          rw (e, ← f) (before-kept marks top _ size (Done size) not_done (placed i (rw e at lt)))
      | inr ne ↦ before-kept marks top _ r (Done size) not_done (done n i r (sym (get_or-set_other marks top n (Done size) New ne) ∙ is) lt)
    ]

finished-placed : (marks : List Mark) (order : List ℕ) (top n r : ℕ) → top < length marks → ((n r : ℕ) → mark marks n ≡ Done r → (r < length order) × (slice_index order r ≡ n)) → mark (set marks top (Done (length order))) n ≡ Done r → (r < length (order ++ top ∷ [])) × (slice_index (order ++ top ∷ []) r ≡ n)
finished-placed marks order top n r within placed is =
    let size = length-push order top in
    elim (cases_eq n top) [
      | inl e ↦ let f : length order ≡ r = done_is (length order) r (sym (get_or-set_same marks top (Done (length order)) New within) ∙ (ap (λ m. mark (set marks top (Done (length order))) m) (sym e) ∙ is)) in
          (omega (arith, size, f), push-right order top r f ∙ sym e)
      | inr ne ↦ let old = placed n r (sym (get_or-set_other marks top n (Done (length order)) New ne) ∙ is) in
          (omega (arith, size, old.0), push-left order top r old.0 ∙ old.1)
    ]

finished-ordered : (marks : List Mark) (order : List ℕ) (top r : ℕ) → top < length marks → ((r : ℕ) → mark marks top ≢ Done r) → ((r : ℕ) → r < length order → mark marks (slice_index order r) ≡ Done r) → r < length (order ++ top ∷ []) → mark (set marks top (Done (length order))) (slice_index (order ++ top ∷ []) r) ≡ Done r
finished-ordered marks order top r within not_done ordered lt =
    let size = length-push order top in
    elim (last_or r (length order) (omega (arith, size, lt))) [
      | inl h ↦ ap (λ m. mark (set marks top (Done (length order))) m) (push-left order top r h) ∙ mark-kept marks top _ (Done (length order)) (Done r) (ordered r h) (not_done r)
      | inr e ↦ ap (λ m. mark (set marks top (Done (length order))) m) (push-right order top r (sym e)) ∙ (get_or-set_same marks top (Done (length order)) New within ∙ ap Done (sym e))
    ]

finished-open : (marks : List Mark) (rest : List ℕ) (top size n k : ℕ) → top < length marks → ((n k : ℕ) → mark marks n ≡ Open k → (k < length (rest ++ top ∷ [])) × (slice_index (rest ++ top ∷ []) k ≡ n)) → mark (set marks top (Done size)) n ≡ Open k → (k < length rest) × (slice_index rest k ≡ n)
finished-open marks rest top size n k within opens is =
    let more = length-push rest top in
    let old = mark-old marks top n (Done size) (Open k) within is (λ e. cc) in
    let was = opens n k old.1 in
    elim (last_or k (length rest) (omega (arith, more, was.0))) [
      | inl h ↦ (h, sym (push-left rest top k h) ∙ was.1)
      | inr e ↦ absurd (old.0 (sym was.1 ∙ push-right rest top k (sym e)))
    ]

pub finished : (needs : List (List ℕ)) (marks : List Mark) (next rest order : List ℕ) (top : ℕ) → IsSearching needs marks next (rest ++ top ∷ []) order → ((i : ℕ) → i < length (needs_at needs top) → IsPlaced marks (slice_index (needs_at needs top) i)) → IsSearching needs (set marks top (Done (length order))) next rest (order ++ top ∷ [])
finished needs marks next rest order top s ready =
    let more = length-push rest top in
    let last : length rest < length (rest ++ top ∷ []) = omega (arith, more) in
    let is_top : slice_index (rest ++ top ∷ []) (length rest) ≡ top = push-right rest top (length rest) refl in
    let top_open : mark marks top ≡ Open (length rest) = ap (λ m. mark marks m) (sym is_top) ∙ s.on_path (length rest) last in
    let inside = s.within (length rest) last in
    let here : top < length marks = omega (arith, s.marks_wide, inside, is_top) in
    let not_done : (r : ℕ) → mark marks top ≢ Done r = λ r. open_not_done (mark marks top) (length rest) r top_open in
    record {
      graph = s.graph;
      marks_wide = length-set marks top (Done (length order)) ∙ s.marks_wide;
      next_wide = s.next_wide;
      next_within = s.next_within;
      passed = λ n i lt. placed-kept marks top _ _ not_done (s.passed n i lt);
      done = λ n i r is lt. finished-done needs marks top (length order) n i r here not_done (λ j at. let p = ready j at in (p.0, p.1, (s.placed _ p.0 p.1).0)) s.done is lt;
      placed = λ n r is. finished-placed marks order top n r here s.placed is;
      ordered = λ r lt. finished-ordered marks order top r here not_done s.ordered lt;
      open' = λ n k is. finished-open marks rest top (length order) n k here s.open' is;
      on_path = λ k lt. mark-kept marks top _ (Done (length order)) (Open k) (ap (λ m. mark marks m) (sym (push-left rest top k lt)) ∙ s.on_path k (omega (arith, more, lt)))
          (λ e. let f : length rest ≡ k = open_is (length rest) k (sym top_open ∙ e) in omega (arith, f, lt));
      within = λ k lt. let e = push-left rest top k lt in let f = s.within k (omega (arith, more, lt)) in omega (arith, e, f);
      chain = λ k lt. need-at needs _ _ _ _ (sym (push-left rest top k (omega (arith, lt)))) (sym (push-left rest top (k + 1) lt)) (s.chain k (omega (arith, more, lt)));
    }

chain-down : (needs : List (List ℕ)) (number : ℕ → ℕ) (path : List ℕ) → IsDown number needs → ((k : ℕ) → k < length path → slice_index path k < length needs) → ((k : ℕ) → k + 1 < length path → IsNeed needs (slice_index path k) (slice_index path (k + 1))) → (k m : ℕ) → k + m < length path → number (slice_index path (k + m)) ≤ number (slice_index path k)
chain-down needs number path down within chain k zero lt = let e : k + 0 ≡ k = omega arith in let f = ap (λ j. number (slice_index path j)) e in omega (arith, f)
chain-down needs number path down within chain k (suc m) lt =
    let before = chain-down needs number path down within chain k m (omega (arith, lt)) in
    let link = chain (k + m) (omega (arith, lt)) in
    let here = down (slice_index path (k + m)) link.0 (within (k + m) (omega (arith, lt))) link.1 in
    let f = ap number link.2 in
    let e : k + suc m ≡ k + m + 1 = omega arith in
    let g = ap (λ j. number (slice_index path j)) e in
    omega (arith, before, here, f, g)

pub cycle : (needs : List (List ℕ)) (marks : List Mark) (next path order : List ℕ) (d k : ℕ) → IsSearching needs marks next path order → IsLinked needs path d → mark marks d ≡ Open k → ¬ (IsGraphAcyclic needs)
cycle needs marks next path order d k s linked is acyclic =
    let at = s.open' d k is in
    let number = acyclic.0 in
    let m = length path - 1 - k in
    let e : k + m ≡ length path - 1 = omega (arith, at.0) in
    let low = chain-down needs number path acyclic.1 s.within s.chain k m (omega (arith, at.0)) in
    let link = linked (length path - 1) (omega (arith, at.0)) in
    let here = acyclic.1 (slice_index path (length path - 1)) link.0 (s.within (length path - 1) (omega (arith, at.0))) link.1 in
    let f = ap number link.2 in
    let g = ap (λ j. number (slice_index path j)) e in
    let h = ap number at.1 in
    omega (arith, low, here, f, g, h)

pub work-finished : (marks : List Mark) (rest : List ℕ) (top size k : ℕ) → top < length marks → mark marks top ≡ Open k → work (set marks top (Done size)) rest + 1 ≡ work marks (rest ++ top ∷ [])
work-finished marks rest top size k lt is =
    let e = sum_by-set weight marks top (Done size) New lt in
    let f : weight (mark marks top) ≡ 0 = ap weight is in
    let g = length-push rest top in
    omega (arith, e, f, g)

pub last-open : (needs : List (List ℕ)) (marks : List Mark) (next rest order : List ℕ) (top : ℕ) → IsSearching needs marks next (rest ++ top ∷ []) order → (mark marks top ≡ Open (length rest)) × (top < length marks)
last-open needs marks next rest order top s =
    let more = length-push rest top in
    let last : length rest < length (rest ++ top ∷ []) = omega (arith, more) in
    let is_top : slice_index (rest ++ top ∷ []) (length rest) ≡ top = push-right rest top (length rest) refl in
    let inside = s.within (length rest) last in
    (ap (λ m. mark marks m) (sym is_top) ∙ s.on_path (length rest) last, omega (arith, s.marks_wide, inside, is_top))

advanced-within : (needs : List (List ℕ)) (next : List ℕ) (atom place n : ℕ) → atom < length next → ((n : ℕ) → slice_index next n ≤ length (needs_at needs n)) → place ≤ length (needs_at needs atom) → slice_index (set next atom place) n ≤ length (needs_at needs n)
advanced-within needs next atom place n lt within le =
    elim (cases_eq n atom) [
      | inl e ↦ rw e (rw (get_or-set_same next atom place 0 lt) le)
      | inr ne ↦ rw (get_or-set_other next atom n place 0 ne) (within n)
    ]

advanced-passed : (needs : List (List ℕ)) (marks : List Mark) (next : List ℕ) (atom place n i : ℕ) → atom < length next → ((n i : ℕ) → i < slice_index next n → IsPlaced marks (slice_index (needs_at needs n) i)) → ((i : ℕ) → i < place → IsPlaced marks (slice_index (needs_at needs atom) i)) → i < slice_index (set next atom place) n → IsPlaced marks (slice_index (needs_at needs n) i)
advanced-passed needs marks next atom place n i lt passed more below =
    elim (cases_eq n atom) [
      | inl e ↦ rw e (more i (rw (get_or-set_same next atom place 0 lt) at (rw e at below)))
      | inr ne ↦ passed n i (rw (get_or-set_other next atom n place 0 ne) at below)
    ]

pub advanced : (needs : List (List ℕ)) (marks : List Mark) (next path order : List ℕ) (atom place : ℕ) → IsSearching needs marks next path order → atom < length needs → place ≤ length (needs_at needs atom) → ((i : ℕ) → i < place → IsPlaced marks (slice_index (needs_at needs atom) i)) → IsSearching needs marks (set next atom place) path order
advanced needs marks next path order atom place s within le more =
    let lt : atom < length next = omega (arith, s.next_wide) in
    record {
      graph = s.graph;
      marks_wide = s.marks_wide;
      next_wide = length-set next atom place ∙ s.next_wide;
      next_within = λ n. advanced-within needs next atom place n lt s.next_within le;
      passed = λ n i below. advanced-passed needs marks next atom place n i lt s.passed more below;
      done = s.done;
      placed = s.placed;
      ordered = s.ordered;
      open' = s.open';
      on_path = s.on_path;
      within = s.within;
      chain = s.chain;
    }

pub mark-read : (marks : List Mark) (k : ℕ) (x y : Mark) → k < length marks → x ≡ get_or marks k x → x ≡ y → mark marks k ≡ y
mark-read marks k x y lt is e = get_or_default marks k New x lt ∙ (sym is ∙ e)

pub needs-read : (needs : List (List ℕ)) (n : ℕ) (x y : List ℕ) → n < length needs → x ≡ get_or needs n x → y ≡ x → y ≡ needs_at needs n
needs-read needs n x y lt is e = e ∙ (is ∙ sym (get_or_default needs n [] x lt))

pub passed-more : (marks : List Mark) (wants : List ℕ) (from to : ℕ) → ((i : ℕ) → i < from → IsPlaced marks (slice_index wants i)) → ((i : ℕ) → from ≤ i → i < to → IsPlaced marks (slice_index wants i)) → (i : ℕ) → i < to → IsPlaced marks (slice_index wants i)
passed-more marks wants from to old new i lt = elim (cases_lt i from) [ inl h ↦ old i h | inr h ↦ new i h lt ]

pub number-read : (xs : List ℕ) (k x : ℕ) → k < length xs → x ≡ get_or xs k x → x ≡ slice_index xs k
number-read xs k x lt is = is ∙ get_or_default xs k x 0 lt

pub last-read : (path path' : List ℕ) (n x : ℕ) → 0 < length path → n ≡ length path → path' ≡ path → x ≡ get_or path (n - 1) x → slice_index path' (length path' - 1) ≡ x
last-read path path' n x some size same is =
    let e : n - 1 ≡ length path - 1 = ap (λ k. k - 1) size in
    rw same (get_or_default path (length path - 1) 0 x (omega (arith, some)) ∙ sym (is ∙ ap (λ k. get_or path k x) e))

pub linked-last : (needs : List (List ℕ)) (path : List ℕ) (atom place d : ℕ) → slice_index path (length path - 1) ≡ atom → place < length (needs_at needs atom) → slice_index (needs_at needs atom) place ≡ d → IsLinked needs path d
linked-last needs path atom place d is lt e k last =
    let f : k ≡ length path - 1 = omega (arith, last) in
    rw (f, is) (place, lt, e)

pub not-placed : (m : Mark) → (m ≡ New) ⊎ ((k : ℕ) × (m ≡ Open k)) → (r : ℕ) → m ≡ Done r → ⊥
not-placed m (inl e) r f = absurd cc
not-placed m (inr h) r f = let e = h.1 in absurd cc

pub all-placed : (m : Mark) → m ≢ New → ((k : ℕ) → m ≢ Open k) → (r : ℕ) × (m ≡ Done r)
all-placed New a b = absurd (a refl)
all-placed (Open k) a b = absurd (b k refl)
all-placed (Done r) a b = (r, refl)

pub met-placed : (needs : List (List ℕ)) (marks : List Mark) (next path order : List ℕ) (n : ℕ) → IsSearching needs marks next path order → length path ≡ 0 → mark marks n ≢ New → IsPlaced marks n
met-placed needs marks next path order n s over met = all-placed (mark marks n) met (λ k e. let at = s.open' n k e in omega (arith, over, at.0))

replicated : {X : Type 0} (n i : ℕ) (x : X) → get_or (replicate n x) i x ≡ x
replicated zero i x = refl
replicated (suc n) zero x = refl
replicated (suc n) (suc i) x = replicated n i x

mark-in : (marks : List Mark) (n r : ℕ) → mark marks n ≡ Done r → n < length marks
mark-in marks n r is = elim (cases_lt n (length marks)) [ inl h ↦ h | inr h ↦ let e = get_or_past marks n New h in absurd cc ]

pub ranked : (needs : List (List ℕ)) (marks : List Mark) (next path order places : List ℕ) → IsSearching needs marks next path order → length places ≡ length marks → ((n : ℕ) → n < length marks → mark marks n ≡ Done (slice_index places n)) → IsRanking needs order places
ranked needs marks next path order places s wide each =
    record {
      wide = wide ∙ s.marks_wide;
      down = λ n i lt at.
          let b = s.done n i _ (each n (omega (arith, lt, s.marks_wide))) at in
          let inside = s.graph n i lt at in
          let e = done_is _ _ (sym b.1 ∙ each _ (omega (arith, inside, s.marks_wide))) in
          omega (arith, b.2, e);
      placed = λ n lt. s.placed n _ (each n (omega (arith, lt, s.marks_wide)));
      ordered = λ r lt.
          let is = s.ordered r lt in
          let inside = mark-in marks (slice_index order r) r is in
          (omega (arith, inside, s.marks_wide), done_is _ _ (sym (each _ inside) ∙ is));
    }
