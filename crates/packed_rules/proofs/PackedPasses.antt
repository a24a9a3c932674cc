-- A pass over packed rules gives the same row as a pass over the rules.
use Rattle.std.proofs.Common.{ℕ, zero, suc, ◌+◌, ◌-◌, ◌<◌, ◌≤◌, ◌≡◌, Bool, true, false, ◌&&◌, if◌then◌else◌, List, [], ◌∷◌, ◌++◌, length, take, drop, set, get_or, map, refl, sym, ap, ◌∙◌, arith, subst, length-drop, length-append}
use Rattle.std.proofs.lemmas.List.{length-take, get_or_past, take_all, drop_all, take-set-le, drop-set-add, drop_more, take_more, take-replicate, drop-replicate, take-append-le, drop-append-le, nil_from_length, map_push}
use mathlib.Core.Bool.{and-true, and_assoc}
use Rattle.numbered_rules.specs.declared.numbered.Literal.{Literal as CodeLiteral}
use Rattle.numbered_rules.specs.declared.numbered.Rule.{Rule as CodeRule}
use Rattle.ground_rules.specs.Literals.{Literal, literals, Rule}
use Rattle.ground_rules.specs.Fit.{Situation, truth, all_true}
use Rattle.ground_rules.specs.Numbered.{bit, numbered, row_after, unset, view, rule_of, rules_of}
use Rattle.packed_rules.specs.declared.rules.Test.{Test}
use Rattle.packed_rules.specs.declared.rules.MoveTest.{MoveTest}
use Rattle.packed_rules.specs.declared.rules.RuleSize.{RuleSize}
use Rattle.packed_rules.specs.Internal.PlacedRules.{PlacedRule, placed, placed_rules, AreCut, AreTestsCut}
use Rattle.packed_rules.specs.declared.rules.PackedRule.{PackedRule}
use Rattle.packed_rules.specs.Internal.PackedPass.{passes, all_pass, agrees, all_agree, fires, packed_after, tests_after, IsPacked, ArePacked}

pub take-past : (n : ℕ) (xs : List Bool) (i : ℕ) → n ≤ i → bit (take n xs) i ≡ false
take-past n xs i le = get_or_past (take n xs) i false (omega (arith, length-take n xs, le))

-- the row after one rule
abbrev pub stepped : ℕ → List ℕ → List Bool → PlacedRule → List Bool
stepped n joint bits p = if fires n joint bits p then set bits (n + p.head) true else bits

step-terms : (n : ℕ) (bits : List Bool) (h : ℕ) (test : Bool) → take n (if test then set bits (n + h) true else bits) ≡ take n bits
step-terms n bits h true = take-set-le n bits (n + h) true (omega arith)
step-terms n bits h false = refl

step-atoms : (n : ℕ) (bits : List Bool) (h : ℕ) (test : Bool) → drop n (if test then set bits (n + h) true else bits) ≡ (if test then set (drop n bits) h true else drop n bits)
step-atoms n bits h true = drop-set-add n bits h true
step-atoms n bits h false = refl

-- the pass keeps the terms, and sets the derived atoms that the pass over the rules sets
pub record IsPass (n : ℕ) (joint : List ℕ) (bits after : List Bool) (rs : List (Rule ℕ ℕ)) : Type 0 where
  pub terms : take n after ≡ take n bits
  pub atoms : drop n after ≡ row_after (numbered (take n bits) joint) (drop n bits) rs

pub packed-pass : (n : ℕ) (joint : List ℕ) (bits : List Bool) (ps : List PlacedRule) (rs : List (Rule ℕ ℕ)) → ArePacked n ps rs → IsPass n joint bits (packed_after n joint bits ps) rs
packed-pass n joint bits [] [] are = record { terms = refl; atoms = refl }
packed-pass n joint bits [] (r ∷ rs) are = absurd are
packed-pass n joint bits (p ∷ ps) [] are = absurd are
packed-pass n joint bits (p ∷ ps) (r ∷ rs) are =
    let next = stepped n joint bits p in
    let w = numbered (take n bits) joint in
    let terms : take n next ≡ take n bits = step-terms n bits p.head (fires n joint bits p) in
    let atoms : drop n next ≡ (if all_true w (bit (drop n bits)) r.body then set (drop n bits) r.head true else drop n bits) =
    step-atoms n bits p.head (fires n joint bits p)
    ∙ ap (λ (t : Bool). if t then set (drop n bits) p.head true else drop n bits) (are.0.body bits joint)
    ∙ ap (λ (h : ℕ). if all_true w (bit (drop n bits)) r.body then set (drop n bits) h true else drop n bits) are.0.head in
    let rest = packed-pass n joint next ps rs are.1 in
    record {
      terms = rest.terms ∙ terms;
      atoms = rest.atoms ∙ ap (λ (xs : List Bool). row_after (numbered xs joint) (drop n next) rs) terms ∙ ap (λ (xs : List Bool). row_after w xs rs) atoms;
    }

pub packed-push : (n : ℕ) (ps : List PlacedRule) (rs : List (Rule ℕ ℕ)) (p : PlacedRule) (r : Rule ℕ ℕ) → ArePacked n ps rs → IsPacked n p r → ArePacked n (ps ++ p ∷ []) (rs ++ r ∷ [])
packed-push n [] [] p r are is = (is, tt)
packed-push n [] (q ∷ rs) p r are is = absurd are
packed-push n (q ∷ ps) [] p r are is = absurd are
packed-push n (q ∷ ps) (s ∷ rs) p r are is = (are.0, packed-push n ps rs p r are.1 is)

all-pass-push : (bits : List Bool) (ts : List Test) (t : Test) → all_pass bits (ts ++ t ∷ []) ≡ (all_pass bits ts && passes bits t)
all-pass-push bits [] t = and-true (passes bits t)
all-pass-push bits (u ∷ ts) t = ap (λ x. passes bits u && x) (all-pass-push bits ts t) ∙ sym (and_assoc (passes bits u) (all_pass bits ts) (passes bits t))

all-agree-push : (joint : List ℕ) (ts : List MoveTest) (t : MoveTest) → all_agree joint (ts ++ t ∷ []) ≡ (all_agree joint ts && agrees joint t)
all-agree-push joint [] t = and-true (agrees joint t)
all-agree-push joint (u ∷ ts) t = ap (λ x. agrees joint u && x) (all-agree-push joint ts t) ∙ sym (and_assoc (agrees joint u) (all_agree joint ts) (agrees joint t))

all-true-push : (w : Situation ℕ ℕ) (v : ℕ → Bool) (ls : List (Literal ℕ ℕ)) (l : Literal ℕ ℕ) → all_true w v (literals (ls ++ l ∷ [])) ≡ (all_true w v (literals ls) && truth w v l)
all-true-push w v [] l = and-true (truth w v l)
all-true-push w v (k ∷ ls) l = ap (λ x. truth w v k && x) (all-true-push w v ls l) ∙ sym (and_assoc (truth w v k) (all_true w v (literals ls)) (truth w v l))

only-tests : (n : ℕ) (joint : List ℕ) (bits : List Bool) (ss : List RuleSize) (ts : List Test) → packed_after n joint bits (placed_rules ss ts [] []) ≡ tests_after n bits ss ts
only-tests n joint bits [] ts = refl
only-tests n joint bits (s ∷ ss) ts =
    let next : List Bool = if all_pass bits (take s.tests ts) then set bits (n + s.head) true else bits in
    rw (take_all {A = MoveTest} s.moves [] (omega arith), take_all {A = CodeLiteral} s.others [] (omega arith), drop_all {X = MoveTest} s.moves [] (omega arith), drop_all {X = CodeLiteral} s.others [] (omega arith), and-true (all_pass bits (take s.tests ts))) (only-tests n joint next ss (drop s.tests ts))

pub only-tests-in : (n : ℕ) (joint : List ℕ) (bits : List Bool) (ss : List RuleSize) (ts : List Test) (ms : List MoveTest) (os : List CodeLiteral) → length ms ≡ 0 → length os ≡ 0 → tests_after n bits ss ts ≡ packed_after n joint bits (placed_rules ss ts ms os)
only-tests-in n joint bits ss ts ms os e f = rw (nil_from_length ms e, nil_from_length os f) (sym (only-tests n joint bits ss ts))

pub tests-cut : (ss : List RuleSize) (ts : List Test) (ms : List MoveTest) (os : List CodeLiteral) → AreCut ss ts ms os → AreTestsCut ss ts
tests-cut [] ts ms os cut = tt
tests-cut (s ∷ ss) ts ms os cut = (cut.0, tests-cut ss (drop s.tests ts) (drop s.moves ms) (drop s.others os) cut.3)

-- the literals packed so far (as moves, tests and others) and the remaining literals together mean the same as all literals
abbrev pub SaysSoFar : ℕ → List MoveTest → List Test → List (Literal ℕ ℕ) → List (Literal ℕ ℕ) → List (Literal ℕ ℕ) → Type 0
SaysSoFar n moves tests others rest all =
    (bits : List Bool) (joint : List ℕ)
    → ((all_agree joint moves && (all_pass bits tests && all_true (numbered (take n bits) joint) (bit (drop n bits)) (literals others))) && all_true (numbered (take n bits) joint) (bit (drop n bits)) (literals rest))
    ≡ all_true (numbered (take n bits) joint) (bit (drop n bits)) (literals all)

move-back : (m p o x q : Bool) → (((m && x) && (p && o)) && q) ≡ ((m && (p && o)) && (x && q))
move-back false p o x q = refl
move-back true p o true q = refl
move-back true false o false q = refl
move-back true true false false q = refl
move-back true true true false q = refl

test-back : (m p o x q : Bool) → ((m && ((p && x) && o)) && q) ≡ ((m && (p && o)) && (x && q))
test-back false p o x q = refl
test-back true false o x q = refl
test-back true true o true q = refl
test-back true true false false q = refl
test-back true true true false q = refl

other-back : (m p o x q : Bool) → ((m && (p && (o && x))) && q) ≡ ((m && (p && o)) && (x && q))
other-back false p o x q = refl
other-back true false o x q = refl
other-back true true false x q = refl
other-back true true true x q = refl

pub move-more : (n : ℕ) (moves : List MoveTest) (tests : List Test) (others rest all : List (Literal ℕ ℕ)) (l : Literal ℕ ℕ) (t : MoveTest) → SaysSoFar n moves tests others (l ∷ rest) all
    → ((bits : List Bool) (joint : List ℕ) → agrees joint t ≡ truth (numbered (take n bits) joint) (bit (drop n bits)) l) → SaysSoFar n (moves ++ t ∷ []) tests others rest all
move-more n moves tests others rest all l t says is bits joint =
    let w = numbered (take n bits) joint in
    let v : ℕ → Bool = bit (drop n bits) in
    let m = all_agree joint moves in
    let p = all_pass bits tests in
    let o = all_true w v (literals others) in
    let q = all_true w v (literals rest) in
    ap (λ x. (x && (p && o)) && q) (all-agree-push joint moves t ∙ ap (λ x. m && x) (is bits joint)) ∙ move-back m p o (truth w v l) q ∙ says bits joint

pub test-more : (n : ℕ) (moves : List MoveTest) (tests : List Test) (others rest all : List (Literal ℕ ℕ)) (l : Literal ℕ ℕ) (t : Test) → SaysSoFar n moves tests others (l ∷ rest) all
    → ((bits : List Bool) (joint : List ℕ) → passes bits t ≡ truth (numbered (take n bits) joint) (bit (drop n bits)) l) → SaysSoFar n moves (tests ++ t ∷ []) others rest all
test-more n moves tests others rest all l t says is bits joint =
    let w = numbered (take n bits) joint in
    let v : ℕ → Bool = bit (drop n bits) in
    let m = all_agree joint moves in
    let p = all_pass bits tests in
    let o = all_true w v (literals others) in
    let q = all_true w v (literals rest) in
    ap (λ x. (m && (x && o)) && q) (all-pass-push bits tests t ∙ ap (λ x. p && x) (is bits joint)) ∙ test-back m p o (truth w v l) q ∙ says bits joint

pub other-more : (n : ℕ) (moves : List MoveTest) (tests : List Test) (others rest all : List (Literal ℕ ℕ)) (l : Literal ℕ ℕ) → SaysSoFar n moves tests others (l ∷ rest) all → SaysSoFar n moves tests (others ++ l ∷ []) rest all
other-more n moves tests others rest all l says bits joint =
    let w = numbered (take n bits) joint in
    let v : ℕ → Bool = bit (drop n bits) in
    let m = all_agree joint moves in
    let p = all_pass bits tests in
    let o = all_true w v (literals others) in
    let q = all_true w v (literals rest) in
    ap (λ x. (m && (p && x)) && q) (all-true-push w v others l) ∙ other-back m p o (truth w v l) q ∙ says bits joint

-- if no value of a row is set, no value of either part is set
pub none-terms : (n m : ℕ) → take n (unset (n + m)) ≡ unset n
none-terms n m = take-replicate n (n + m) false (omega arith)

pub none-atoms : (n m : ℕ) → drop n (unset (n + m)) ≡ unset m
none-atoms n m = let e : n + m - n ≡ m = omega arith in drop-replicate n (n + m) false ∙ ap unset e

-- cutting the row at n or at m gives the same terms and the same atoms
pub record AreSameCut (m n : ℕ) (bits : List Bool) : Type 0 where
  pub terms : take n bits ≡ take m bits
  pub atoms : drop n bits ≡ drop m bits

pub same-cut : (m n : ℕ) (bits : List Bool) → length (take m bits) ≡ n → AreSameCut m n bits
same-cut zero n bits e = rw (sym e) (record { terms = refl; atoms = refl })
same-cut (suc m) n [] e = rw (sym e) (record { terms = refl; atoms = refl })
same-cut (suc m) n (b ∷ bits) e =
    let rest = same-cut m (length (take m bits)) bits refl in
    rw (sym e) (record { terms = ap (λ xs. b ∷ xs) rest.terms; atoms = rest.atoms })

pub says-next : (n : ℕ) (moves : List MoveTest) (tests : List Test) (others : List (Literal ℕ ℕ)) (items : List CodeLiteral) (i : ℕ) (item : CodeLiteral) (all : List (Literal ℕ ℕ)) → i < length items → item ≡ get_or items i item
    → SaysSoFar n moves tests others (map view (drop i items)) all → SaysSoFar n moves tests others (view item ∷ map view (drop (i + 1) items)) all
says-next n moves tests others items i item all lt is says =
    subst (λ (x : CodeLiteral). SaysSoFar n moves tests others (view x ∷ map view (drop (i + 1) items)) all) (sym is)
    (subst (λ (xs : List CodeLiteral). SaysSoFar n moves tests others (map view xs) all) (drop_more items i item lt) says)

pub other-next : (n : ℕ) (moves : List MoveTest) (tests : List Test) (others : List CodeLiteral) (rest all : List (Literal ℕ ℕ)) (l copied : CodeLiteral) → view copied ≡ view l
    → SaysSoFar n moves tests (map view others) (view l ∷ rest) all → SaysSoFar n moves tests (map view (others ++ copied ∷ [])) rest all
other-next n moves tests others rest all l copied same says =
    subst (λ (ls : List (Literal ℕ ℕ)). SaysSoFar n moves tests ls rest all) (sym (map_push view others copied ∙ ap (λ x. map view others ++ x ∷ []) same)) (other-more n moves tests (map view others) rest all (view l) says)

pub placed-push : (ss : List RuleSize) (s : RuleSize) (ts us : List Test) (ms ns : List MoveTest) (os ps : List CodeLiteral) → AreCut ss ts ms os → s.tests ≡ length us → s.moves ≡ length ns → s.others ≡ length ps
    → placed_rules (ss ++ s ∷ []) (ts ++ us) (ms ++ ns) (os ++ ps) ≡ placed_rules ss ts ms os ++ record { head = s.head; tests = us; moves = ns; others = ps } ∷ []
placed-push [] s [] us [] ns [] ps cut e f g = rw (take_all s.tests us (omega (arith, e)), take_all s.moves ns (omega (arith, f)), take_all s.others ps (omega (arith, g))) refl
placed-push [] s (t ∷ ts) us ms ns os ps cut e f g = absurd (omega (arith, cut.0))
placed-push [] s [] us (m ∷ ms) ns os ps cut e f g = absurd (omega (arith, cut.1))
placed-push [] s [] us [] ns (o ∷ os) ps cut e f g = absurd (omega (arith, cut.2))
placed-push (q ∷ ss) s ts us ms ns os ps cut e f g =
    rw (take-append-le q.tests ts us cut.0, take-append-le q.moves ms ns cut.1, take-append-le q.others os ps cut.2, drop-append-le q.tests ts us cut.0, drop-append-le q.moves ms ns cut.1, drop-append-le q.others os ps cut.2)
    (ap (λ (rs : List PlacedRule). record { head = q.head; tests = take q.tests ts; moves = take q.moves ms; others = take q.others os } ∷ rs) (placed-push ss s (drop q.tests ts) us (drop q.moves ms) ns (drop q.others os) ps cut.3 e f g))

pub cut-push : (ss : List RuleSize) (s : RuleSize) (ts us : List Test) (ms ns : List MoveTest) (os ps : List CodeLiteral) → AreCut ss ts ms os → s.tests ≡ length us → s.moves ≡ length ns → s.others ≡ length ps → AreCut (ss ++ s ∷ []) (ts ++ us) (ms ++ ns) (os ++ ps)
cut-push [] s [] us [] ns [] ps cut e f g =
    (omega (arith, e), omega (arith, f), omega (arith, g), (omega (arith, e, length-drop s.tests us), omega (arith, f, length-drop s.moves ns), omega (arith, g, length-drop s.others ps)))
cut-push [] s (t ∷ ts) us ms ns os ps cut e f g = absurd (omega (arith, cut.0))
cut-push [] s [] us (m ∷ ms) ns os ps cut e f g = absurd (omega (arith, cut.1))
cut-push [] s [] us [] ns (o ∷ os) ps cut e f g = absurd (omega (arith, cut.2))
cut-push (q ∷ ss) s ts us ms ns os ps cut e f g = (
  omega (arith, cut.0, length-append ts us),
  omega (arith, cut.1, length-append ms ns),
  omega (arith, cut.2, length-append os ps),
  rw (drop-append-le q.tests ts us cut.0, drop-append-le q.moves ms ns cut.1, drop-append-le q.others os ps cut.2) (cut-push ss s (drop q.tests ts) us (drop q.moves ms) ns (drop q.others os) ps cut.3 e f g),
)

pub packed-next : (n : ℕ) (ps : List PlacedRule) (rules : List CodeRule) (i : ℕ) (rule : CodeRule) (p : PlacedRule) → i < length rules → rule ≡ get_or rules i rule → IsPacked n p (rule_of rule)
    → ArePacked n ps (rules_of (take i rules)) → ArePacked n (ps ++ p ∷ []) (rules_of (take (i + 1) rules))
packed-next n ps rules i rule p lt is packed are =
    subst (λ (rs : List (Rule ℕ ℕ)). ArePacked n (ps ++ p ∷ []) rs) (sym (ap rules_of (take_more rules i rule lt) ∙ map_push rule_of (take i rules) (get_or rules i rule)))
    (packed-push n ps (rules_of (take i rules)) p (rule_of (get_or rules i rule)) are (subst (λ (r : CodeRule). IsPacked n p (rule_of r)) is packed))

pub table-next : (n : ℕ) (rules : List CodeRule) (i : ℕ) (rule : CodeRule) (p : PackedRule) (t m o : ℕ) (ss ss' : List RuleSize) (ts ts' : List Test) (ms ms' : List MoveTest) (os os' : List CodeLiteral) → i < length rules → rule ≡ get_or rules i rule → IsPacked n (placed p) (rule_of rule)
    → t ≡ length p.tests.items → m ≡ length p.moves.items → o ≡ length p.others.items → ss' ≡ ss ++ record { head = p.head; tests = t; moves = m; others = o } ∷ [] → ts' ≡ ts ++ p.tests.items → ms' ≡ ms ++ p.moves.items → os' ≡ os ++ p.others.items
    → AreCut ss ts ms os → ArePacked n (placed_rules ss ts ms os) (rules_of (take i rules)) → ArePacked n (placed_rules ss' ts' ms' os') (rules_of (take (i + 1) rules))
table-next n rules i rule p t m o ss ss' ts ts' ms ms' os os' lt is packed e f g a b c d cut are =
    let size : RuleSize = record { head = p.head; tests = t; moves = m; others = o } in
    rw (a, b, c, d, placed-push ss size ts p.tests.items ms p.moves.items os p.others.items cut e f g) (packed-next n (placed_rules ss ts ms os) rules i rule (placed p) lt is packed are)

pub table-cut : (p : PackedRule) (t m o : ℕ) (ss ss' : List RuleSize) (ts ts' : List Test) (ms ms' : List MoveTest) (os os' : List CodeLiteral) → t ≡ length p.tests.items → m ≡ length p.moves.items → o ≡ length p.others.items
    → ss' ≡ ss ++ record { head = p.head; tests = t; moves = m; others = o } ∷ [] → ts' ≡ ts ++ p.tests.items → ms' ≡ ms ++ p.moves.items → os' ≡ os ++ p.others.items → AreCut ss ts ms os → AreCut ss' ts' ms' os'
table-cut p t m o ss ss' ts ts' ms ms' os os' e f g a b c d cut =
    let size : RuleSize = record { head = p.head; tests = t; moves = m; others = o } in
    rw (a, b, c, d) (cut-push ss size ts p.tests.items ms p.moves.items os p.others.items cut e f g)

begun-at : (n atoms : ℕ) (none first second : List Bool) (rest turn : List (Rule ℕ ℕ)) → none ≡ unset (n + atoms) → take n first ≡ take n none → drop n first ≡ row_after (numbered (take n none) []) (drop n none) rest
    → drop n second ≡ row_after (numbered (take n first) []) (drop n first) turn → drop n second ≡ row_after (numbered (unset n) []) (row_after (numbered (unset n) []) (unset atoms) rest) turn
begun-at n atoms none first second rest turn empty terms kept after =
    let no_terms : take n none ≡ unset n = ap (take n) empty ∙ none-terms n atoms in
    let no_atoms : drop n none ≡ unset atoms = ap (drop n) empty ∙ none-atoms n atoms in
    let is_kept : drop n first ≡ row_after (numbered (unset n) []) (unset atoms) rest =
    kept ∙ ap (λ (xs : List Bool). row_after (numbered xs []) (drop n none) rest) no_terms ∙ ap (λ (xs : List Bool). row_after (numbered (unset n) []) xs rest) no_atoms in
    after ∙ ap (λ (xs : List Bool). row_after (numbered xs []) (drop n first) turn) (terms ∙ no_terms) ∙ ap (λ (xs : List Bool). row_after (numbered (unset n) []) xs turn) is_kept

-- both passes from a row with nothing set
pub begun : (n m atoms : ℕ) (none first second : List Bool) (rest turn : List (Rule ℕ ℕ)) → m ≡ n → none ≡ unset (n + atoms) → take m first ≡ take m none → drop m first ≡ row_after (numbered (take m none) []) (drop m none) rest
    → drop m second ≡ row_after (numbered (take m first) []) (drop m first) turn → drop n second ≡ row_after (numbered (unset n) []) (row_after (numbered (unset n) []) (unset atoms) rest) turn
begun n m atoms none first second rest turn same =
    subst (λ (k : ℕ). none ≡ unset (n + atoms) → take k first ≡ take k none → drop k first ≡ row_after (numbered (take k none) []) (drop k none) rest → drop k second ≡ row_after (numbered (take k first) []) (drop k first) turn
    → drop n second ≡ row_after (numbered (unset n) []) (row_after (numbered (unset n) []) (unset atoms) rest) turn) (sym same) (begun-at n atoms none first second rest turn)
