-- How one byte changes the reader's state, case by case.
use Rattle.std.proofs.Common.{◌≡◌, ℕ, ◌<◌, List, [], ◌∷◌, ◌++◌, length, Bool, true, false, cond, not, ◌==◌, nat_le, Result, Ok, Err, refl, sym, ◌⊎◌, inl, inr, arith}
use Rattle.std.proofs.lemmas.Bool.{eqb-true}
use Rattle.std.proofs.lemmas.Bool.Decides.{nat_tests}
use Rattle.game_core.specs.Bytes.{line_feed, left_parenthesis, right_parenthesis, semicolon, is_white, is_atom_byte}
use Rattle.game_core.specs.Expression.{list, none}
use Rattle.kif_text.specs.Machine.{Open, State, and_last, ◌>>=◌, with_word, flushed, close_on, act, step}
use Rattle.kif_text.specs.declared.fault.KifFault.{KifFault}

-- the branch of an `if` that gives the value
pub chosen : {A : Type 0} (b : Bool) (x y z : A) → cond b x y ≡ z → ((b ≡ true) × (x ≡ z)) ⊎ ((b ≡ false) × (y ≡ z))
chosen true x y z e = inl (refl, e)
chosen false x y z e = inr (refl, e)

-- if a chain succeeds, its first part succeeds
pub bind_ok : {A B : Type 0} (r : Result A KifFault) (f : A → Result B KifFault) (y : B) → (r >>= f) ≡ Ok y → (x : A) × (r ≡ Ok x) × (f x ≡ Ok y)
bind_ok (Ok x) f y e = (x, refl, e)
bind_ok (Err d) f y e = absurd cc

abbrev pub good : {A : Type 0} → A → Result A KifFault
good x = Ok x

abbrev pub bad : {A : Type 0} → KifFault → Result A KifFault
bad d = Err d

pub ok_is : {A : Type 0} (x y : A) → good x ≡ good y → x ≡ y
ok_is x y e = cc

err_is_ok : {A : Type 0} (d : KifFault) (x : A) → bad d ≡ good x → ⊥
err_is_ok d x e = cc

nat_le-false : (m n : ℕ) → nat_le m n ≡ false → n < m
nat_le-false m n e = grind (arith, nat_tests)

-- the ways in which the reader accepts the byte b at offset i
pub data Advance (limit : ℕ) (s t : State) (i b : ℕ) : Type 0 where
  in_comment : s.comment ≡ true → t ≡ record { levels = s.levels; here = s.here; word = s.word; comment = not (b == line_feed) } → Advance limit s t i b
  in_word : s.comment ≡ false → is_atom_byte b ≡ true → t ≡ record { levels = s.levels; here = s.here; word = s.word ++ b ∷ []; comment = s.comment } → Advance limit s t i b
  begins_comment : s.comment ≡ false → is_atom_byte b ≡ false → b ≡ semicolon → t ≡ record { levels = s.levels; here = with_word s.here s.word; word = []; comment = true } → Advance limit s t i b
  opens : s.comment ≡ false → is_atom_byte b ≡ false → b ≡ left_parenthesis → length s.levels < limit → t ≡ record { levels = record { before = with_word s.here s.word; at = i } ∷ s.levels; here = none; word = []; comment = s.comment } → Advance limit s t i b
  closes : s.comment ≡ false → is_atom_byte b ≡ false → b ≡ right_parenthesis → (l : Open) (ls : List Open) → s.levels ≡ l ∷ ls → t ≡ record { levels = ls; here = and_last l.before (list (with_word s.here s.word)); word = []; comment = s.comment } → Advance limit s t i b
  is_space : s.comment ≡ false → is_atom_byte b ≡ false → is_white b ≡ true → t ≡ record { levels = s.levels; here = with_word s.here s.word; word = []; comment = s.comment } → Advance limit s t i b

closes_advance : (limit : ℕ) (s : State) (i b : ℕ) (t : State) (levels : List Open) → s.levels ≡ levels → s.comment ≡ false → is_atom_byte b ≡ false → b ≡ right_parenthesis → close_on levels (flushed s) i ≡ Ok t → Advance limit s t i b
closes_advance limit s i b t [] is c w e h = absurd cc
closes_advance limit s i b t (l ∷ ls) is c w e h = closes c w e l ls is (sym (ok_is _ _ h))

act_advance : (limit : ℕ) (s : State) (i b : ℕ) (t : State) → s.comment ≡ false → is_atom_byte b ≡ false → act limit (flushed s) i b ≡ Ok t → Advance limit s t i b
act_advance limit s i b t c w h =
    elim (chosen (b == semicolon) _ _ _ h) [
      | inl p ↦ begins_comment c w (eqb-true b semicolon p.0) (sym (ok_is _ _ p.1))
      | inr p ↦ elim (chosen (b == left_parenthesis) _ _ _ p.1) [
        | inl q ↦ elim (chosen (nat_le limit (length s.levels)) _ _ _ q.1) [
          | inl r ↦ absurd (err_is_ok _ _ r.1)
          | inr r ↦ opens c w (eqb-true b left_parenthesis q.0) (nat_le-false limit (length s.levels) r.0) (sym (ok_is _ _ r.1))
        ]
        | inr q ↦ elim (chosen (b == right_parenthesis) _ _ _ q.1) [
          | inl r ↦ closes_advance limit s i b t s.levels refl c w (eqb-true b right_parenthesis r.0) r.1
          | inr r ↦ elim (chosen (is_white b) _ _ _ r.1) [
            | inl v ↦ is_space c w v.0 (sym (ok_is _ _ v.1))
            | inr v ↦ absurd (err_is_ok _ _ v.1)
          ]
        ]
      ]
    ]

-- a step that succeeds accepts its byte in one of these ways
pub advance : (limit : ℕ) (s : State) (i b : ℕ) (t : State) → step limit s i b ≡ Ok t → Advance limit s t i b
advance limit s i b t h =
    elim (chosen s.comment _ _ _ h) [
      | inl p ↦ in_comment p.0 (sym (ok_is _ _ p.1))
      | inr p ↦ elim (chosen (is_atom_byte b) _ _ _ p.1) [
        | inl q ↦ in_word p.0 q.0 (sym (ok_is _ _ q.1))
        | inr q ↦ act_advance limit s i b t p.0 q.0 q.1
      ]
    ]
