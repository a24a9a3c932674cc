-- The kept part of a tree has the same values as the tree at all keys of a record.
use Rattle.std.proofs.Common.{◌≡◌, ℕ, Bool, true, false, Option, Some, None, List, [], ◌∷◌, map, refl, sym, ap, ◌∙◌, true≢false, inl, inr}
use Rattle.std.specs.Prelude.{option_map, if◌then◌else◌, ◌&&◌}
use Rattle.serde_json.specs.Data.{Data, null, boolean, number, string, array, object}
use Rattle.serde_json.specs.Find.{get}
use Rattle.serde_json.specs.View.{items_of}
use Rattle.game_core.specs.Play.{Rules}
use Rattle.match_book.specs.declared.answer.Mark.{Mark}
use Rattle.match_book.specs.declared.phase.Cause.{Cause}
use Rattle.record_reading.specs.Internal.KeptTree.{are_kept, is_kept, kept_at, IsKeptTree}
use Rattle.record_reading.specs.LawfulRecord.{IsShaped, IsFirstWithout}
use Rattle.record_reading.specs.RecordTree.{row_of, keys, key_text, version_said, version_of, version_tree, whole_tree, found_at, Holds, mark_tree, cause_tree, texts_tree, in_each_version, since_second, unless_there}
use Rattle.record_reading.specs.declared.record_parts.Key.{Key}
use Rattle.record_reading.specs.declared.record_parts.Key.TheVariants.{Cause as AtCause, EndMarks, Errors, GoalValues, MatchId, Moves, Phase as AtPhase, PlayClock, Players, Roles, StartClock, StartMarks, States, Strikes, Version as AtVersion}
use Rattle.record_reading.specs.declared.record_parts.RecordParts.{RecordParts}
use Rattle.record_reading.specs.declared.record_parts.Version.{Version}
use Rattle.record_reading.specs.declared.record_parts.Version.TheVariants.{First, Second}
use Rattle.record_reading.specs.declared.verify_fault.VerifyFault.{VerifyFault}
use Rattle.record_reading.proofs.KeyTable.{EndsAt}

each_kept : {A : Type 0} (written : A → Data) (is : Data → Bool) → ((x : A) → is (written x) ≡ true) → (xs : List A) → are_kept is (items_of (map written xs)) ≡ true
each_kept written is kept [] = refl
each_kept written is kept (x ∷ xs) = ap (λ b. b && are_kept is (items_of (map written xs))) (kept x) ∙ each_kept written is kept xs

mark_kept : (mark : Option Mark) → is_kept 1 (mark_tree mark) ≡ true
mark_kept None = refl
mark_kept (Some m) = refl

cause_kept : (why : Option Cause) → is_kept 2 (cause_tree why) ≡ true
cause_kept None = refl
cause_kept (Some cause) = refl

texts_kept : (texts : List (List ℕ)) → is_kept 1 (texts_tree texts) ≡ true
texts_kept texts = each_kept string (is_kept 0) (λ s. refl) texts

written_kept : (key : Key) (x : (row_of key).Value) → is_kept 2 ((row_of key).written x) ≡ true
written_kept AtCause x = cause_kept x
written_kept EndMarks x = each_kept mark_tree (is_kept 1) mark_kept x
written_kept Errors x = each_kept texts_tree (is_kept 1) texts_kept x
written_kept GoalValues x = each_kept whole_tree (is_kept 1) (λ n. refl) x
written_kept MatchId x = refl
written_kept Moves x = each_kept texts_tree (is_kept 1) texts_kept x
written_kept AtPhase x = refl
written_kept PlayClock x = refl
written_kept Players x = each_kept string (is_kept 1) (λ s. refl) x
written_kept Roles x = each_kept string (is_kept 1) (λ s. refl) x
written_kept StartClock x = refl
written_kept StartMarks x = each_kept mark_tree (is_kept 1) mark_kept x
written_kept States x = each_kept texts_tree (is_kept 1) texts_kept x
written_kept Strikes x = refl
written_kept AtVersion x = refl

kept_is : (d e : Data) → is_kept 2 e ≡ true → d ≡ e → kept_at d ≡ e
kept_is d e fits is = ap kept_at is ∙ ap (λ b. if b then e else boolean false) fits

chosen : (d e : Data) (b : Bool) → is_kept 2 e ≡ true → (if b then d else boolean false) ≡ e → d ≡ e
chosen d e true fits is = is
chosen d e false fits is = absurd (true≢false (sym fits ∙ sym (ap (is_kept 2) is)))

is_where_kept : (d e : Data) → is_kept 2 e ≡ true → kept_at d ≡ e → d ≡ e
is_where_kept d e fits is = chosen d e (is_kept 2 d) fits is

there : (o : Option Data) (e : Data) → is_kept 2 e ≡ true → option_map kept_at o ≡ Some e → o ≡ Some e
there None e fits is = absurd cc
there (Some d) e fits is = let same : kept_at d ≡ e = cc in ap Some (is_where_kept d e fits same)

kept_there : (o : Option Data) (e : Data) → is_kept 2 e ≡ true → o ≡ Some e → option_map kept_at o ≡ Some e
kept_there None e fits is = absurd cc
kept_there (Some d) e fits is = let same : d ≡ e = cc in ap Some (kept_is d e fits same)

said_of : (d : Data) → version_said (Some (kept_at d)) ≡ version_said (Some d)
said_of null = refl
said_of (boolean b) = refl
said_of (number n) = refl
said_of (string s) = refl
said_of (array ds) = of_list (is_kept 2 (array ds))
  where
    of_list : (b : Bool) → version_said (Some (if b then array ds else boolean false)) ≡ version_said (Some (array ds))
    of_list true = refl
    of_list false = refl
said_of (object ms) = refl

said_kept : (o : Option Data) → version_said (option_map kept_at o) ≡ version_said o
said_kept None = refl
said_kept (Some d) = said_of d

-- the value that counts is the same in the kept members as in all members
abbrev CountsAlike : (Option Version → Option Data → Option Data) → Type 0
CountsAlike counts = (version : Option Version) (o : Option Data) (e : Data) → is_kept 2 e ≡ true → (counts version (option_map kept_at o) ≡ Some e → counts version o ≡ Some e) × (counts version o ≡ Some e → counts version (option_map kept_at o) ≡ Some e)

each_version_alike : CountsAlike in_each_version
each_version_alike version o e fits = (there o e fits, kept_there o e fits)

second_alike : CountsAlike (since_second (whole_tree 0))
second_alike None o e fits = (λ is. is, λ is. is)
second_alike (Some First) o e fits = (λ is. is, λ is. is)
second_alike (Some Second) o e fits = (there o e fits, kept_there o e fits)

unless_alike : CountsAlike (unless_there (version_tree First))
unless_alike version None e fits = (λ is. is, λ is. is)
unless_alike version (Some d) e fits = (there (Some d) e fits, kept_there (Some d) e fits)

counts_alike : (key : Key) → CountsAlike (row_of key).counts
counts_alike AtCause = each_version_alike
counts_alike EndMarks = each_version_alike
counts_alike Errors = each_version_alike
counts_alike GoalValues = each_version_alike
counts_alike MatchId = each_version_alike
counts_alike Moves = each_version_alike
counts_alike AtPhase = each_version_alike
counts_alike PlayClock = each_version_alike
counts_alike Players = each_version_alike
counts_alike Roles = each_version_alike
counts_alike StartClock = each_version_alike
counts_alike StartMarks = each_version_alike
counts_alike States = each_version_alike
counts_alike Strikes = second_alike
counts_alike AtVersion = unless_alike

module _ (tree kept : Data) (same : IsKeptTree tree kept) where
  version_alike : version_of kept ≡ version_of tree
  version_alike = ap version_said (same AtVersion) ∙ said_kept (get (key_text AtVersion) tree)

  found_alike : (key : Key) → found_at kept key ≡ (row_of key).counts (version_of tree) (option_map kept_at (get (key_text key) tree))
  found_alike key = ap (λ v. (row_of key).counts v (get (key_text key) kept)) version_alike ∙ ap ((row_of key).counts (version_of tree)) (same key)

  found_there : (key : Key) (x : (row_of key).Value) → found_at kept key ≡ Some ((row_of key).written x) → found_at tree key ≡ Some ((row_of key).written x)
  found_there key x is = (counts_alike key (version_of tree) (get (key_text key) tree) ((row_of key).written x) (written_kept key x)).0 (sym (found_alike key) ∙ is)

  found_kept : (key : Key) (x : (row_of key).Value) → found_at tree key ≡ Some ((row_of key).written x) → found_at kept key ≡ Some ((row_of key).written x)
  found_kept key x is = found_alike key ∙ (counts_alike key (version_of tree) (get (key_text key) tree) ((row_of key).written x) (written_kept key x)).1 is

  pub holds_there : (p : RecordParts) → Holds kept p → Holds tree p
  holds_there p held key = found_there key ((row_of key).said p) (held key)

  first_there : {S M : Type 0} (g : Rules S M) (key : Key) → IsFirstWithout (IsShaped g kept) keys key → IsFirstWithout (IsShaped g tree) keys key
  first_there g key (before, after, split, shaped, unshaped) = (
    before,
    after,
    split,
    λ k d below. let at = shaped k d below in (at.0, found_there _ at.0 at.1, at.2),
    λ (x, found, fits). unshaped (x, found_kept key x found, fits),
  )

  pub ends_there : {S M : Type 0} (g : Rules S M) (fault : VerifyFault) → EndsAt g kept fault → EndsAt g tree fault
  ends_there g fault (inl memory) = inl memory
  ends_there g fault (inr (key, bad, first)) = inr (key, bad, first_there g key first)
