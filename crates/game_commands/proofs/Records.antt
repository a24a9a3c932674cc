-- The records of a desk's matches, one after another.
use Rattle.std.proofs.Common.{◌≡◌, ℕ, ◌+◌, List, [], ◌∷◌, ◌++◌, take, Option, Some, None, refl, sym, ap, subst, ◌∙◌, append_assoc, append-nil}
use Rattle.std.specs.Prelude.{slice_get, option_map, option_and_then, unwrap_or}
use Rattle.std.proofs.lemmas.List.{take_more}
use Rattle.std.proofs.lemmas.Option.{get_or_from_slice_get, slice_get_within}
use Rattle.game_core.specs.Bytes.{line_feed}
use Rattle.game_core.specs.Play.{Rules}
use Rattle.match_book.specs.MatchValue.{GameMatch}
use Rattle.match_desk.specs.ManagerValue.{ManagerValue, DeskMatch, game_of, game_match}
use Rattle.match_record.specs.RecordTree.{record_text}
use Rattle.game_commands.specs.Script.{record_line, records}

-- the record of a match with its game, as a line; empty if there is no such match
abbrev pub line_of : {G S M : Type 0} → (G → Rules S M) → Option (GameMatch G M) → List ℕ
line_of rules held = unwrap_or (option_map (λ x. record_text (rules x.game) x.value ++ line_feed ∷ []) held) []

records-append : {G S M : Type 0} (rules : G → Rules S M) (d : ManagerValue G M) (ms ns : List (DeskMatch M)) → records rules d (ms ++ ns) ≡ records rules d ms ++ records rules d ns
records-append rules d [] ns = refl
records-append rules d (m ∷ ms) ns = ap (λ x. record_line rules d m ++ x) (records-append rules d ms ns) ∙ sym (append_assoc (record_line rules d m) (records rules d ms) (records rules d ns))

pub records-next : {G S M : Type 0} (rules : G → Rules S M) (d : ManagerValue G M) (k : ℕ) (m : DeskMatch M) → slice_get d.matches k ≡ Some m
    → records rules d (take (k + 1) d.matches) ≡ records rules d (take k d.matches) ++ record_line rules d m
records-next rules d k m at =
    ap (records rules d) (take_more d.matches k m (slice_get_within d.matches k m at) ∙ ap (λ x. take k d.matches ++ x ∷ []) (get_or_from_slice_get d.matches k m m at)) ∙ records-append rules d (take k d.matches) (m ∷ [])
    ∙ ap (λ z. records rules d (take k d.matches) ++ z) (append-nil (record_line rules d m))

-- the match at an index, as the desk's functions return it, adds its record to the output
pub one_match : {G S M : Type 0} (rules : G → Rules S M) (d : ManagerValue G M) (k : ℕ) (g : G) (held : GameMatch G M)
    → option_and_then (game_of d) (slice_get d.matches k) ≡ Some g → option_and_then (game_match d) (slice_get d.matches k) ≡ Some held
    → records rules d (take (k + 1) d.matches) ≡ records rules d (take k d.matches) ++ (record_text (rules g) held.value ++ line_feed ∷ [])
one_match {G} {S} {M} rules d k g held is_game is_held = at (slice_get d.matches k) refl is_game is_held
  where
    WithOne : G → GameMatch G M → Type 0
    WithOne g held = records rules d (take (k + 1) d.matches) ≡ records rules d (take k d.matches) ++ (record_text (rules g) held.value ++ line_feed ∷ [])

    with_game : (m : DeskMatch M) (o : Option G) → slice_get d.matches k ≡ Some m → game_of d m ≡ o → o ≡ Some g → option_map (λ x. record { game = x; value = m.value }) o ≡ Some held → WithOne g held
    with_game m None found of is_some is_held = absurd cc
    with_game m (Some x) found of is_some is_held =
        let same : x ≡ g = cc in
        let whole : record { game = x; value = m.value } ≡ held = cc in
        let as_line : Option G → List ℕ = λ y. line_of rules (option_map (λ z. record { game = z; value = m.value }) y) in
        let line : record_line rules d m ≡ record_text (rules g) m.value ++ line_feed ∷ [] =
        ap as_line of ∙ ap (λ z. record_text (rules z) m.value ++ line_feed ∷ []) same in
        subst (λ (h : GameMatch G M). WithOne g h) whole (records-next rules d k m found ∙ ap (λ z. records rules d (take k d.matches) ++ z) line)

    at : (o : Option (DeskMatch M)) → slice_get d.matches k ≡ o → option_and_then (game_of d) o ≡ Some g → option_and_then (game_match d) o ≡ Some held → WithOne g held
    at None found is_game is_held = absurd cc
    at (Some m) found is_game is_held = with_game m (game_of d m) found refl is_game is_held

pub one_line : (written before text after out out' out'' : List ℕ) → out ≡ written ++ before → out' ≡ out ++ text → out'' ≡ out' ++ line_feed ∷ [] → after ≡ before ++ (text ++ line_feed ∷ []) → out'' ≡ written ++ after
one_line written before text after out out' out'' so_far with_text with_feed whole =
    with_feed ∙ ap (λ z. z ++ line_feed ∷ []) (with_text ∙ ap (λ z. z ++ text) so_far)
    ∙ append_assoc (written ++ before) text (line_feed ∷ []) ∙ append_assoc written before (text ++ line_feed ∷ [])
    ∙ ap (λ z. written ++ z) (sym whole)
