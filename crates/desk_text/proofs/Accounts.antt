-- Replaying a call log line by line.
use Rattle.std.proofs.Common.{◌≡◌, ℕ, ◌+◌, Bool, true, false, not, List, [], ◌∷◌, ◌++◌, length, map, refl, ap, ◌∙◌, subst, append-nil, arith}
use Rattle.std.specs.List.{AllByRecursion}
use Rattle.std.specs.Str.{bytes_eq}
use Rattle.std.specs.Str.Lines.{lines}
use Rattle.std.proofs.lemmas.Slice.Eq.{bytes_eq-Decides}
use Rattle.call_history.specs.History.{IsLegalHistory, run}
use Rattle.call_history.specs.declared.journal.Entry.{Entry}
use Rattle.desk_calls.specs.declared.call.Call.{Call}
use Rattle.desk_calls.specs.declared.call.Reply.{Reply}
use Rattle.desk_text.specs.Account.{IsAccount, IsRead, entry_text}
use Rattle.desk_text.specs.Replaying.{IsFirstFault, RefusesLine}
use Rattle.desk_text.specs.declared.replaying.ReplayFault.{ReplayFault}

pub apart_when_not : (xs ys : List ℕ) → not (bytes_eq xs ys) ≡ true → xs ≡ ys → ⊥
apart_when_not xs ys is same = go (bytes_eq xs ys) is ((bytes_eq-Decides xs ys).1 same)
  where
    go : (b : Bool) → not b ≡ true → b ≡ true → ⊥
    go true h equal = cc
    go false h equal = cc

pub no_lines : (text : List ℕ) → length text ≡ 0 → lines text ≡ []
no_lines [] empty = refl
no_lines (byte ∷ text) empty = absurd (omega arith)

module _ {S : Type 0} (reply : S → Call → Reply) (after : S → Call → S) where
  -- All lines are the lines of a history that is legal from the start, followed by the last lines. The history has the calls made so far
  -- and as many more as `more`, and leads to the same object.
  pub record Tells (start : S) (all last : List (List ℕ)) (object : S) (calls : ℕ) (more : List (Entry Call Reply)) : Type 0 where
    pub history : List (Entry Call Reply)
    pub cut : all ≡ map entry_text history ++ last
    pub are_read : AllByRecursion IsRead history
    pub legal : IsLegalHistory reply after start history
    pub leaves : run after object more ≡ run after start history
    pub counted : calls + length more ≡ length history

  -- if the rest of the lines begins with a history that is legal from the object, all lines begin with one that is legal from the start
  abbrev pub IsAccountSoFar : S → List (List ℕ) → List (List ℕ) → S → ℕ → Type 0
  IsAccountSoFar start all rest object calls = (more : List (Entry Call Reply)) (last : List (List ℕ))
      → rest ≡ map entry_text more ++ last → AllByRecursion IsRead more → IsLegalHistory reply after object more → Tells start all last object calls more

  pub account_begins : (start : S) (all : List (List ℕ)) → IsAccountSoFar start all all start 0
  account_begins start all more last cut read legal = record { history = more; cut = cut; are_read = read; legal = legal; leaves = refl; counted = omega arith }

  pub account_goes_on : (start : S) (all rest : List (List ℕ)) (line : List ℕ) (old new : S) (calls : ℕ) (e : Entry Call Reply)
      → IsAccountSoFar start all (line ∷ rest) old calls
      → line ≡ entry_text e → IsRead e → e.reply ≡ reply old e.call → new ≡ after old e.call
      → IsAccountSoFar start all rest new (calls + 1)
  account_goes_on start all rest line old new calls e so_far is_line is_read is_reply is_new more last cut read legal =
      let whole = so_far (e ∷ more) last (ap (λ x. x ∷ rest) is_line ∙ ap (λ xs. entry_text e ∷ xs) cut) (is_read, read) (is_reply, subst (λ s. IsLegalHistory reply after s more) is_new legal) in
      record {
        history = whole.history;
        cut = whole.cut;
        are_read = whole.are_read;
        legal = whole.legal;
        leaves = ap (λ s. run after s more) is_new ∙ whole.leaves;
        counted = omega (arith, whole.counted);
      }

  pub account_ends : (start : S) (all : List (List ℕ)) (object : S) (calls : ℕ) → IsAccountSoFar start all [] object calls → IsAccount reply after start all object calls
  account_ends start all object calls so_far =
      let whole = so_far [] [] refl tt tt in
      record {
        history = whole.history;
        tell = record { texts = whole.cut ∙ append-nil (map entry_text whole.history); are_read = whole.are_read };
        legal = whole.legal;
        leaves = whole.leaves;
        counted = omega (arith, whole.counted);
      }

  pub fault_comes : (start : S) (all rest : List (List ℕ)) (line : List ℕ) (old : S) (calls : ℕ) (fault : ReplayFault)
      → IsAccountSoFar start all (line ∷ rest) old calls → RefusesLine reply old (calls + 1) line fault → IsFirstFault reply after start all fault
  fault_comes start all rest line old calls fault so_far refused =
      let whole = so_far [] (line ∷ rest) refl tt tt in
      let count : calls ≡ length whole.history = omega (arith, whole.counted) in
      record {
        history = whole.history;
        line = line;
        rest = rest;
        cut = whole.cut;
        are_read = whole.are_read;
        legal = whole.legal;
        refused = subst (λ s. RefusesLine reply s (length whole.history + 1) line fault) whole.leaves (subst (λ n. RefusesLine reply old (n + 1) line fault) count refused);
      }
