-- The parts of a player's word, and the words of a match.
use Rattle.std.proofs.Common.{◌≡◌, ◌≢◌, ◌&&◌, ◌+◌, ◌-◌, ◌∙◌, ◌∷◌, ◌++◌, [], ℕ, suc, ◌<◌, ◌≤◌, Bool, true, false, eqb, List, Bor, Option, Some, None, Result, Ok, Err, MatchBool, MatchOption, drop, get_or, if◌then◌else◌, is_none, is_ok, is_some, length, map, not, add-one, drop-cons, option_map, take, take-append-drop, eq-eqb, ne_eqb, refl, sym, ap, subst, inr, arith, length-drop, take_all}
use Rattle.std.specs.List.{AllZip, after_first, before_first, position_or_len}
use Rattle.std.specs.Net.Grammar.{IsIpv6Text, Parses}
use Rattle.std.specs.Str.{IsUtf8, is_utf8}
use Rattle.std.specs.Str.Pattern.{RFindsChar}
use Rattle.std.specs.declared.net.ipv6_addr.Ipv6Addr.{Ipv6Addr}
use Rattle.std.proofs.lemmas.Bool.{and_from, and_left, and_right, cond-false, cond-true, false_from_ne_true}
use Rattle.std.proofs.lemmas.List.{drop_all, map_more, same_from_push}
use Rattle.std.proofs.lemmas.Str.{IsUtf8-from_is_utf8, is_utf8-from_IsUtf8}
use Rattle.std.proofs.lemmas.Str.Pattern.{NoCharPasses-char, drop_at_char}
use Rattle.desk_calls.specs.Names.{is_name}
use Rattle.match_plans.specs.Addresses.{IsAddress, IsHostOf, IsIpv6, addressed_name, addressed_place, bracketed, cut_at_last, cut_here, has_port, is_address, is_player}
use Rattle.match_plans.specs.Numbers.{port_of}
use Rattle.match_plans.specs.Schedules.{IsPlanned, clock_of, player_fault, word_fault}
use Rattle.match_plans.specs.declared.addresses.PlayerAddress.{PlayerAddress}
use Rattle.match_plans.specs.declared.plan.MatchPlan.{MatchPlan}
use Rattle.match_plans.specs.declared.schedule_fault.LineFault.{LineFault}
use Rattle.match_plans.specs.declared.schedule_fault.LineFault.TheVariants.{TooFewWords, NoId, NoClock, NoPlayer}

pub first-none : (text : List ℕ) (r : Option (Bor (List ℕ))) → MatchOption r ((rest : List ℕ) → text ≢ 91 ∷ rest) (λ x. text ≡ 91 ∷ x.now) → r ≡ None → (inner : List ℕ) → text ≢ bracketed inner
first-none text None none is inner e = none (inner ++ 93 ∷ []) e
first-none text (Some x) e is inner same = let bad : ⊥ = cc in absurd bad

pub first-some : (text : List ℕ) (r : Option (Bor (List ℕ))) (rest : Bor (List ℕ)) → MatchOption r ((more : List ℕ) → text ≢ 91 ∷ more) (λ x. text ≡ 91 ∷ x.now) → r ≡ Some rest → text ≡ 91 ∷ rest.now
first-some text None rest none is = let bad : ⊥ = cc in absurd bad
first-some text (Some x) rest e is = let same : x ≡ rest = cc in e ∙ ap (λ (b : Bor (List ℕ)). 91 ∷ b.now) same

-- a text is in brackets if it begins with an opening bracket and the rest of it ends with a closing one
pub unbracketed : (text rest : List ℕ) (r : Option (Bor (List ℕ))) → text ≡ 91 ∷ rest → MatchOption r ((front : List ℕ) → rest ≢ front ++ 93 ∷ []) (λ x. rest ≡ x.now ++ 93 ∷ [])
    → MatchOption r ((inner : List ℕ) → text ≢ bracketed inner) (λ inner. text ≡ bracketed inner.now)
unbracketed text rest None is none = λ inner e. let same : rest ≡ inner ++ 93 ∷ [] = cc in none inner same
unbracketed text rest (Some x) is e = is ∙ ap (λ (l : List ℕ). 91 ∷ l) e

pub address-known : {E : Type 0} (text : List ℕ) (r : Result Ipv6Addr E) (b : Bool) → Parses IsIpv6Text text r → b ≡ is_ok r → MatchBool b (IsIpv6 text) (¬ (IsIpv6 text))
address-known text (Ok a) b reads is = subst (λ (it : Bool). MatchBool it (IsIpv6 text) (¬ (IsIpv6 text))) (sym is) (a, reads)
address-known text (Err e) b reads is = subst (λ (it : Bool). MatchBool it (IsIpv6 text) (¬ (IsIpv6 text))) (sym is) (λ it. reads it.0 it.1)

pub host-in-brackets : (text inner : List ℕ) → text ≡ bracketed inner → ¬ (IsIpv6 inner) → IsHostOf text text
host-in-brackets text inner is non =
    inr (
      refl,
      λ other e it.
          let same : inner ++ 93 ∷ [] ≡ other ++ 93 ∷ [] = cc in
          non (subst IsIpv6 (sym (same_from_push inner other 93 93 same).0) it),
    )

cut-none : (c : ℕ) (text : List ℕ) → ((i : ℕ) → i < length text → get_or text i 0 ≢ c) → cut_at_last c text ≡ None
cut-none c [] lacks = refl
cut-none c (b ∷ more) lacks =
    let rest = cut-none c more (λ i l. lacks (suc i) (omega (arith, l))) in
    ap (cut_here c b more) rest ∙ cond-false (eqb b c) (Some ([], more)) None (ne_eqb b c (lacks 0 (omega arith)))

cut-at : (c : ℕ) (front back : List ℕ) → ((i : ℕ) → i < length back → get_or back i 0 ≢ c) → cut_at_last c (front ++ c ∷ back) ≡ Some (front, back)
cut-at c [] back lacks = ap (cut_here c c back) (cut-none c back lacks) ∙ cond-true (eqb c c) (Some ([], back)) None (eq-eqb c c refl)
cut-at c (b ∷ front) back lacks = ap (cut_here c b (front ++ c ∷ back)) (cut-at c front back lacks)

-- where `rsplit_once` cuts at an ASCII character
pub cut-is-last : (c : ℕ) (text : List ℕ) (r : Option (Bor (List ℕ) × Bor (List ℕ)))
    → MatchOption r (RFindsChar c text None) (λ x. (i : ℕ) × (j : ℕ) × RFindsChar c text (Some (i, j)) × (x.0.now ≡ take i text) × (x.1.now ≡ drop j text) × (i ≤ j) × (length x.0.now ≡ i) × (length x.1.now + j ≡ length text))
    → c < 128 → option_map (λ x. (x.0.now, x.1.now)) r ≡ cut_at_last c text
cut-is-last c text None h low = sym (cut-none c text (λ i l. NoCharPasses-char c text i h low l))
cut-is-last c text (Some x) h low =
    let split : text ≡ take h.0 text ++ c ∷ drop h.1 text = sym (take-append-drop h.0 text) ∙ ap (λ (l : List ℕ). take h.0 text ++ l) (drop_at_char c text h.0 h.1 h.2.1 low) in
    let lacks : (i : ℕ) → i < length (drop h.1 text) → get_or (drop h.1 text) i 0 ≢ c = λ i l. NoCharPasses-char c (drop h.1 text) i h.2.0 low l in
    (λ t. Some (h.3 t, h.4 t)) ∙ sym (ap (cut_at_last c) split ∙ cut-at c (take h.0 text) (drop h.1 text) lacks)

-- without an @ there is no host
pub no-place : (word : List ℕ) → position_or_len (λ b. eqb b 64) word ≡ length word → addressed_place word ≡ None
no-place word none = ap (cut_at_last 58) (drop_all (position_or_len (λ b. eqb b 64) word + 1) word (omega (arith, none)))

pub cut-at-first : (word : List ℕ) (r : Option (Bor (List ℕ) × Bor (List ℕ)))
    → MatchOption r (position_or_len (λ b. eqb b 64) word ≡ length word) (λ x. (position_or_len (λ b. eqb b 64) word < length word) × (x.0.now ≡ before_first (λ b. eqb b 64) word) × (x.1.now ≡ after_first (λ b. eqb b 64) word))
    → MatchOption r (addressed_place word ≡ None) (λ x. (x.0.now ≡ addressed_name word) × (cut_at_last 58 x.1.now ≡ addressed_place word))
cut-at-first word None none = no-place word none
cut-at-first word (Some x) parts = (parts.1, ap (cut_at_last 58) parts.2)

pub without-place : (word : List ℕ) → addressed_place word ≡ None → false ≡ is_address word
without-place word none = sym (and_left (has_port (addressed_place word)) (is_name (addressed_name word)) (ap has_port none))

pub without-port : (word host port : List ℕ) → addressed_place word ≡ Some (host, port) → None ≡ port_of port → false ≡ is_address word
without-port word host port place none = sym (and_left (has_port (addressed_place word)) (is_name (addressed_name word)) (ap has_port place ∙ ap is_some (sym none)))

pub without-name : (word name : List ℕ) → name ≡ addressed_name word → is_name name ≡ false → false ≡ is_address word
without-name word name is non = sym (and_right (has_port (addressed_place word)) (is_name (addressed_name word)) (sym (ap is_name is) ∙ non))

pub with-all : (word name host port : List ℕ) (number : ℕ) → addressed_place word ≡ Some (host, port) → Some number ≡ port_of port → name ≡ addressed_name word → is_name name ≡ true → true ≡ is_address word
with-all word name host port number place some is lawful =
    sym (and_from (has_port (addressed_place word)) (is_name (addressed_name word)) (ap has_port place ∙ ap is_some (sym some)) (sym (ap is_name is) ∙ lawful))

pub no-utf8 : (word : List ℕ) → ¬ (IsUtf8 word) → is_utf8 word ≡ false
no-utf8 word non = false_from_ne_true (is_utf8 word) (λ e. non (IsUtf8-from_is_utf8 word e))

pub no-text : (word : List ℕ) → ¬ (IsUtf8 word) → false ≡ is_player word
no-text word non = sym (and_left (is_utf8 word) (is_address word) (no-utf8 word non))

pub text-player : (word text : List ℕ) (b : Bool) → text ≡ word → IsUtf8 word → b ≡ is_address text → b ≡ is_player word
text-player word text b is utf8 taken = taken ∙ ap is_address is ∙ sym (ap (λ (u : Bool). u && is_address word) (is_utf8-from_IsUtf8 word utf8))

pub zip-push : {A B : Type 0} (R : A → B → Type 0) (xs : List A) (ys : List B) (x : A) (y : B) → AllZip R xs ys → R x y → AllZip R (xs ++ x ∷ []) (ys ++ y ∷ [])
zip-push R [] [] x y before here = (here, tt)
zip-push R [] (b ∷ ys) x y before here = absurd before
zip-push R (a ∷ xs) [] x y before here = absurd before
zip-push R (a ∷ xs) (b ∷ ys) x y before here = (before.0, zip-push R xs ys x y before.1 here)

pub one-player-more : (words : List (Bor (List ℕ))) (i : ℕ) (d : Bor (List ℕ)) (players : List PlayerAddress) (player : PlayerAddress) → i < length words
    → AllZip IsAddress (map (λ w. w.now) (take i words)) players → IsAddress (get_or words i d).now player → AllZip IsAddress (map (λ w. w.now) (take (i + 1) words)) (players ++ player ∷ [])
one-player-more words i d players player within before here =
    let more = map_more (λ (w : Bor (List ℕ)). w.now) words i d within in
    subst (λ ws. AllZip IsAddress ws (players ++ player ∷ [])) (sym more) (zip-push IsAddress (map (λ w. w.now) (take i words)) players _ player before here)

pub next-player : (words : List (Bor (List ℕ))) (i n m : ℕ) (d : Bor (List ℕ)) → i < length words → m ≡ n + 1 → is_player (get_or words i d).now ≡ true
    → player_fault n (map (λ w. w.now) (drop i words)) ≡ player_fault m (map (λ w. w.now) (drop (i + 1) words))
next-player words i n m d within next good =
    ap (λ (ws : List (Bor (List ℕ))). player_fault n (map (λ w. w.now) ws)) (drop-cons words i d within)
    ∙ cond-true (is_player (get_or words i d).now) (player_fault (n + 1) (map (λ w. w.now) (drop (suc i) words))) (Some (NoPlayer n)) good
    ∙ ap (λ (j : ℕ). player_fault (n + 1) (map (λ w. w.now) (drop j words))) (sym (add-one i))
    ∙ ap (λ (k : ℕ). player_fault k (map (λ w. w.now) (drop (i + 1) words))) (sym next)

-- the error of a text line, given what its first three words give and the error of the other words
abbrev pub told : Bool → Option ℕ → Option ℕ → Option LineFault → Option LineFault
told text start play players = if not text then Some NoId else (if is_none start then Some (NoClock 2) else (if is_none play then Some (NoClock 3) else players))

pub too-short : (words : List (Bor (List ℕ))) → length words < 4 → Some TooFewWords ≡ word_fault (map (λ w. w.now) words)
too-short [] short = refl
too-short (a ∷ []) short = refl
too-short (a ∷ b ∷ []) short = refl
too-short (a ∷ b ∷ e ∷ []) short = refl
too-short (a ∷ b ∷ e ∷ f ∷ words) short = absurd (omega (arith, short))

pub long-enough : (words : List (Bor (List ℕ))) (d : Bor (List ℕ)) (text : Bool) (start play : Option ℕ) (players : Option LineFault) → 4 ≤ length words → is_utf8 (get_or words 0 d).now ≡ text
    → start ≡ clock_of (get_or words 1 d).now → play ≡ clock_of (get_or words 2 d).now → players ≡ player_fault 4 (map (λ w. w.now) (drop 3 words))
    → told text start play players ≡ word_fault (map (λ w. w.now) words)
long-enough [] d text start play players long id first second others = absurd (omega (arith, long))
long-enough (a ∷ []) d text start play players long id first second others = absurd (omega (arith, long))
long-enough (a ∷ b ∷ []) d text start play players long id first second others = absurd (omega (arith, long))
long-enough (a ∷ b ∷ e ∷ []) d text start play players long id first second others = absurd (omega (arith, long))
long-enough (a ∷ b ∷ e ∷ f ∷ words) d text start play players long id first second others =
    ap (λ (t : Bool). told t start play players) (sym id)
    ∙ ap (λ (o : Option ℕ). told (is_utf8 a.now) o play players) first
    ∙ ap (λ (o : Option ℕ). told (is_utf8 a.now) (clock_of b.now) o players) second
    ∙ ap (told (is_utf8 a.now) (clock_of b.now) (clock_of e.now)) others

pub planned : (strikes : ℕ) (words : List (Bor (List ℕ))) (plan : MatchPlan) (d : Bor (List ℕ)) → 4 ≤ length words → plan.id.now ≡ (get_or words 0 d).now
    → Some plan.start ≡ clock_of (get_or words 1 d).now → Some plan.play ≡ clock_of (get_or words 2 d).now → plan.strikes ≡ strikes
    → AllZip IsAddress (map (λ w. w.now) (drop 3 words)) plan.players.items → IsPlanned strikes (map (λ w. w.now) words) plan
planned strikes [] plan d long id start play same players = absurd (omega (arith, long))
planned strikes (a ∷ []) plan d long id start play same players = absurd (omega (arith, long))
planned strikes (a ∷ b ∷ []) plan d long id start play same players = absurd (omega (arith, long))
planned strikes (a ∷ b ∷ e ∷ words) plan d long id start play same players = (id, sym start, sym play, same, players)

pub rest-is : (words : List (Bor (List ℕ))) → take (length words - 3) (drop 3 words) ≡ drop 3 words
rest-is words = take_all (length words - 3) (drop 3 words) (omega (arith, length-drop 3 words))
