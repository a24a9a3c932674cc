-- The matches of a manager, stored under their ids.
use Rattle.std.proofs.Common.{◌≡◌, ◌≢◌, ℕ, zero, suc, ◌<◌, Bool, true, false, Option, Some, None, Result, Ok, Err, List, [], ◌∷◌, length, slice_index_or, refl, arith, ap, sym, ◌∙◌, subst, Vec, cond}
use Rattle.std.proofs.lemmas.Slice.Eq.{bytes_eq-Decides}
use Rattle.std.proofs.lemmas.Map.Entries.{All-lookup}
use Rattle.std.proofs.lemmas.Option.{slice_get_within, get_or_from_slice_get}
use Rattle.std.specs.Prelude.{All, AllPairs, IfSome, OnOk, OnErr, map, find, is_some, slice_get, option_map, option_and_then, unwrap_or, bytes_eq, if◌then◌else◌}
use Rattle.std.specs.Global.{Global}
use Rattle.std.specs.Map.{lookup, set_value}
use Rattle.game_core.specs.Play.{Rules}
use Rattle.match_book.specs.MatchValue.{MatchValue, GameMatch}
use Rattle.match_desk.specs.ManagerValue.{DeskMatch, ManagerValue, has_id, match_of, game_match, match_with_id, IsLawfulManager}
use Rattle.match_desk.specs.Internal.Slots.{AreKept, IsSlotOf, desk_match, desk_matches}
use Rattle.match_desk.specs.Steps.{changed_match, with_change}
use Rattle.match_desk.specs.declared.slot.Slot.{Slot}
use Rattle.match_desk.proofs.Managers.{IsKeptBy, lawful-with_change}

-- a lookup in the index finds the same match as the search in the list
pub lookup-find : {G S M : Type 0} (games : List G) (id : List ℕ) (entries : List (Vec ℕ Global × Slot G S M)) → All (IsSlotOf games) entries
    → option_map desk_match (lookup (λ key. bytes_eq id key.items) entries) ≡ find (has_id id) (desk_matches entries)
lookup-find games id [] slots = refl
lookup-find {G} {S} {M} games id (e ∷ es) slots =
    step (bytes_eq id e.0.items) (bytes_eq id e.1.held.value.setup.id) (ap (bytes_eq id) (slots 0 e (omega arith)).id_is) (lookup (λ key. bytes_eq id key.items) es) (find (has_id id) (desk_matches es))
    (lookup-find games id es (λ k d lt. slots (suc k) d (omega arith)))
  where
    step : (a b : Bool) → a ≡ b → (rest : Option (Slot G S M)) (later : Option (DeskMatch M)) → option_map desk_match rest ≡ later → option_map desk_match (cond a (Some e.1) rest) ≡ (if b then Some (desk_match e.1) else later)
    step true true same rest later so = refl
    step true false same rest later so = absurd cc
    step false true same rest later so = absurd cc
    step false false same rest later so = so

-- the game of a match that the lookup finds
pub lookup-game : {G S M : Type 0} (games : List G) (id : List ℕ) (entries : List (Vec ℕ Global × Slot G S M)) → All (IsSlotOf games) entries → (s : Slot G S M)
    → lookup (λ key. bytes_eq id key.items) entries ≡ Some s → slice_get games s.game ≡ Some s.held.game
lookup-game {G} {S} {M} games id entries slots s found =
    subst (λ (o : Option (Slot G S M)). IfSome o (λ t. slice_get games t.game ≡ Some t.held.game)) found
    (All-lookup (λ t. slice_get games t.game ≡ Some t.held.game) (λ key. bytes_eq id key.items) entries (λ k d lt. (slots k d lt).game_is))

pub lookup-within : {G S M : Type 0} (games : List G) (id : List ℕ) (entries : List (Vec ℕ Global × Slot G S M)) → All (IsSlotOf games) entries → (s : Slot G S M)
    → lookup (λ key. bytes_eq id key.items) entries ≡ Some s → s.game < length games
lookup-within games id entries slots s found = slice_get_within games s.game s.held.game (lookup-game games id entries slots s found)

pub lookup-read : {G S M : Type 0} (games : List G) (id : List ℕ) (entries : List (Vec ℕ Global × Slot G S M)) → All (IsSlotOf games) entries → (s : Slot G S M) (g : G)
    → lookup (λ key. bytes_eq id key.items) entries ≡ Some s → g ≡ slice_index_or games s.game g → s.held.game ≡ g
lookup-read games id entries slots s g found read = sym (read ∙ get_or_from_slice_get games s.game s.held.game g (lookup-game games id entries slots s found))

module _ {G S M : Type 0} (games : List G) (entries : List (Vec ℕ Global × Slot G S M)) (slots : All (IsSlotOf games) entries) (id : List ℕ) (d : ManagerValue G M) (view : ◌≡◌ {A = ManagerValue G M} (record { games = games; matches = desk_matches entries }) d) where
  pub match_with_id-found : (s : Slot G S M) → lookup (λ key. bytes_eq id key.items) entries ≡ Some s → Some s.held ≡ match_with_id d id
  match_with_id-found s found =
      let here : find (has_id id) (desk_matches entries) ≡ Some (desk_match s) = sym (lookup-find games id entries slots) ∙ ap (option_map desk_match) found in
      let of_game : game_match (record { games = games; matches = desk_matches entries }) (desk_match s) ≡ Some s.held =
      ap (option_map (λ g. record { game = g; value = s.held.value })) (lookup-game games id entries slots s found)
      in
      sym (ap (λ (x : ManagerValue G M). match_with_id x id) (sym view) ∙ (ap (option_and_then (game_match (record { games = games; matches = desk_matches entries }))) here ∙ of_game))

  pub match_with_id-none : lookup (λ key. bytes_eq id key.items) entries ≡ None → None ≡ match_with_id d id
  match_with_id-none none =
      let here : find (has_id id) (desk_matches entries) ≡ None = sym (lookup-find games id entries slots) ∙ ap (option_map desk_match) none in
      sym (ap (λ (x : ManagerValue G M). match_with_id x id) (sym view) ∙ ap (option_and_then (game_match (record { games = games; matches = desk_matches entries }))) here)

  pub is_some-match_of : is_some (lookup (λ key. bytes_eq id key.items) entries) ≡ is_some (match_of d id)
  is_some-match_of =
      step (lookup (λ key. bytes_eq id key.items) entries)
      ∙ (ap is_some (lookup-find games id entries slots) ∙ ap (λ (x : ManagerValue G M). is_some (match_of x id)) view)
    where
      step : (o : Option (Slot G S M)) → is_some o ≡ is_some (option_map desk_match o)
      step None = refl
      step (Some s) = refl

-- a match that the lookup finds has this id
pub lookup-id : {G S M : Type 0} (games : List G) (id : List ℕ) (s : Slot G S M) (entries : List (Vec ℕ Global × Slot G S M)) → All (IsSlotOf games) entries
    → lookup (λ key. bytes_eq id key.items) entries ≡ Some s → bytes_eq id s.held.value.setup.id ≡ true
lookup-id games id s [] slots found = absurd cc
lookup-id {G} {S} {M} games id s (e ∷ es) slots found =
    step (bytes_eq id e.0.items) (lookup (λ key. bytes_eq id key.items) es) refl found (lookup-id games id s es (λ k d lt. slots (suc k) d (omega arith)))
  where
    step : (b : Bool) (rest : Option (Slot G S M)) → bytes_eq id e.0.items ≡ b → cond b (Some e.1) rest ≡ Some s → (rest ≡ Some s → bytes_eq id s.held.value.setup.id ≡ true) → bytes_eq id s.held.value.setup.id ≡ true
    step true rest is found later =
        let same : e.1 ≡ s = cc in
        ap (λ (x : Slot G S M). bytes_eq id x.held.value.setup.id) (sym same) ∙ (sym (ap (bytes_eq id) (slots 0 e (omega arith)).id_is) ∙ is)
    step false rest is found later = later found

not_same : (x y : List ℕ) → x ≢ y → bytes_eq x y ≡ false
not_same x y ne = step (bytes_eq x y) refl
  where
    step : (b : Bool) → bytes_eq x y ≡ b → b ≡ false
    step true is = absurd (ne ((bytes_eq-Decides x y).0 is))
    step false is = refl

map-others : {M : Type 0} (id : List ℕ) (h : DeskMatch M → DeskMatch M) → ((m : DeskMatch M) → has_id id m ≡ false → h m ≡ m)
    → (ms : List (DeskMatch M)) → ((k : ℕ) (d : DeskMatch M) → k < length ms → has_id id (slice_index_or ms k d) ≡ false) → map h ms ≡ ms
map-others id h others [] none = refl
map-others id h others (m ∷ ms) none =
    let head : h m ≡ m = others m (none 0 m (omega arith)) in
    let tail : map h ms ≡ ms = map-others id h others ms (λ k d lt. none (suc k) d (omega arith)) in
    cc

-- a change that leaves matches with other ids as they are
module _ {G S M : Type 0} (id : List ℕ) (h : DeskMatch M → DeskMatch M) (others : (m : DeskMatch M) → has_id id m ≡ false → h m ≡ m) where
  pub map-none : (games : List G) (entries : List (Vec ℕ Global × Slot G S M)) → All (IsSlotOf games) entries → lookup (λ key. bytes_eq id key.items) entries ≡ None → map h (desk_matches entries) ≡ desk_matches entries
  map-none games [] slots none = refl
  map-none games (e ∷ es) slots none =
      step (bytes_eq id e.0.items) (lookup (λ key. bytes_eq id key.items) es) refl none (map-none games es (λ k d lt. slots (suc k) d (omega arith)))
    where
      step : (b : Bool) (rest : Option (Slot G S M)) → bytes_eq id e.0.items ≡ b → cond b (Some e.1) rest ≡ None → (rest ≡ None → map h (desk_matches es) ≡ desk_matches es) → h (desk_match e.1) ∷ map h (desk_matches es) ≡ desk_match e.1 ∷ desk_matches es
      step true rest is none later = absurd cc
      step false rest is none later =
          let head : h (desk_match e.1) ≡ desk_match e.1 = others (desk_match e.1) (sym (ap (bytes_eq id) (slots 0 e (omega arith)).id_is) ∙ is) in
          let tail : map h (desk_matches es) ≡ desk_matches es = later none in
          cc

  pub map-set_value : (games : List G) (s w : Slot G S M) → h (desk_match s) ≡ desk_match w → (entries : List (Vec ℕ Global × Slot G S M)) → All (IsSlotOf games) entries
      → AllPairs (λ (m n : DeskMatch M). m.value.setup.id ≢ n.value.setup.id) (desk_matches entries) → lookup (λ key. bytes_eq id key.items) entries ≡ Some s
      → desk_matches (set_value (λ key. bytes_eq id key.items) entries w) ≡ map h (desk_matches entries)
  map-set_value games s w changed [] slots differ found = absurd cc
  map-set_value games s w changed (e ∷ es) slots differ found =
      step (bytes_eq id e.0.items) (lookup (λ key. bytes_eq id key.items) es) refl found
      (map-set_value games s w changed es (λ k d lt. slots (suc k) d (omega arith)) (λ i j d lt below. differ (suc i) (suc j) d (omega arith) (omega arith)))
    where
      key_is : e.0.items ≡ e.1.held.value.setup.id
      key_is = (slots 0 e (omega arith)).id_is

      step : (b : Bool) (rest : Option (Slot G S M)) → bytes_eq id e.0.items ≡ b → cond b (Some e.1) rest ≡ Some s
          → (rest ≡ Some s → desk_matches (set_value (λ key. bytes_eq id key.items) es w) ≡ map h (desk_matches es))
          → desk_matches (cond b ((e.0, w) ∷ es) (e ∷ set_value (λ key. bytes_eq id key.items) es w)) ≡ h (desk_match e.1) ∷ map h (desk_matches es)
      step true rest is found later =
          let same : e.1 ≡ s = cc in
          let mine : id ≡ e.1.held.value.setup.id = (bytes_eq-Decides id e.0.items).0 is ∙ key_is in
          let head : h (desk_match e.1) ≡ desk_match w = ap (λ (x : Slot G S M). h (desk_match x)) same ∙ changed in
          let tail : map h (desk_matches es) ≡ desk_matches es = map-others id h others (desk_matches es) (λ k d lt. not_same id (slice_index_or (desk_matches es) k d).value.setup.id (λ eq. differ 0 (suc k) d (omega arith) (omega arith) (sym mine ∙ eq))) in
          cc
      step false rest is found later =
          let head : h (desk_match e.1) ≡ desk_match e.1 = others (desk_match e.1) (sym (ap (bytes_eq id) key_is) ∙ is) in
          let tail = later found in
          cc

-- a match that replaces another of the same id and game is stored at its index
pub slots-set_value : {G S M : Type 0} (games : List G) (id : List ℕ) (s w : Slot G S M) → w.held.value.setup.id ≡ s.held.value.setup.id → slice_get games w.game ≡ Some w.held.game
    → (entries : List (Vec ℕ Global × Slot G S M)) → All (IsSlotOf games) entries → lookup (λ key. bytes_eq id key.items) entries ≡ Some s → All (IsSlotOf games) (set_value (λ key. bytes_eq id key.items) entries w)
slots-set_value games id s w same of_game [] slots found = slots
slots-set_value {G} {S} {M} games id s w same of_game (e ∷ es) slots found =
    step (bytes_eq id e.0.items) (lookup (λ key. bytes_eq id key.items) es) found (slots-set_value games id s w same of_game es (λ k d lt. slots (suc k) d (omega arith)))
  where
    first : e.1 ≡ s → IsSlotOf games (e.0, w)
    first is = record { id_is = (slots 0 e (omega arith)).id_is ∙ (ap (λ (x : Slot G S M). x.held.value.setup.id) is ∙ sym same); game_is = of_game }

    both : (x : Vec ℕ Global × Slot G S M) (xs : List (Vec ℕ Global × Slot G S M)) → IsSlotOf games x → All (IsSlotOf games) xs → All (IsSlotOf games) (x ∷ xs)
    both x xs here later zero d lt = here
    both x xs here later (suc k) d lt = later k d (omega arith)

    step : (b : Bool) (rest : Option (Slot G S M)) → cond b (Some e.1) rest ≡ Some s → (rest ≡ Some s → All (IsSlotOf games) (set_value (λ key. bytes_eq id key.items) es w))
        → All (IsSlotOf games) (cond b ((e.0, w) ∷ es) (e ∷ set_value (λ key. bytes_eq id key.items) es w))
    step true rest found later = both (e.0, w) es (first cc) (λ k d lt. slots (suc k) d (omega arith))
    step false rest found later = both e (set_value (λ key. bytes_eq id key.items) es w) (slots 0 e (omega arith)) (later found)

-- writing the value that is already there changes nothing
pub set_value-same : {G S M : Type 0} (id : List ℕ) (s : Slot G S M) (entries : List (Vec ℕ Global × Slot G S M)) → lookup (λ key. bytes_eq id key.items) entries ≡ Some s → set_value (λ key. bytes_eq id key.items) entries s ≡ entries
set_value-same id s [] found = absurd cc
set_value-same {G} {S} {M} id s (e ∷ es) found = step (bytes_eq id e.0.items) (lookup (λ key. bytes_eq id key.items) es) found (set_value-same id s es)
  where
    step : (b : Bool) (rest : Option (Slot G S M)) → cond b (Some e.1) rest ≡ Some s → (rest ≡ Some s → set_value (λ key. bytes_eq id key.items) es s ≡ es) → cond b ((e.0, s) ∷ es) (e ∷ set_value (λ key. bytes_eq id key.items) es s) ≡ e ∷ es
    step true rest found later = let same : e.1 ≡ s = cc in ap (λ (x : Slot G S M). (e.0, x) ∷ es) (sym same)
    step false rest found later = ap (λ l. e ∷ l) (later found)

module _ {G S M : Type 0} (rules : G → Rules S M) (games : List G) (entries : List (Vec ℕ Global × Slot G S M)) (kept : AreKept rules games entries)
    (id : List ℕ) (f : Rules S M → MatchValue M → MatchValue M) (keeps : (g : G) → IsKeptBy (rules g) f)
    (d : ManagerValue G M) (view : ◌≡◌ {A = ManagerValue G M} (record { games = games; matches = desk_matches entries }) d) where
  whole : ManagerValue G M
  whole = record { games = games; matches = desk_matches entries }

  change : DeskMatch M → DeskMatch M
  unfolding whole
  change m = if has_id id m then changed_match rules whole f m else m

  others : (m : DeskMatch M) → has_id id m ≡ false → change m ≡ m
  unfolding change
  others m is = rw is refl

  with_games : List (DeskMatch M) → ManagerValue G M
  with_games ms = record { games = games; matches = ms }

  -- no match has this id
  pub value-none : lookup (λ key. bytes_eq id key.items) entries ≡ None → (entries' : List (Vec ℕ Global × Slot G S M)) → entries' ≡ entries
      → ◌≡◌ {A = ManagerValue G M} (record { games = games; matches = desk_matches entries' }) (with_change rules d id f)
  unfolding whole change with_games
  value-none none entries' same =
      ap (λ l. with_games (desk_matches l)) same ∙ (ap with_games (sym (map-none id change others games entries kept.slots none)) ∙ ap (λ (x : ManagerValue G M). with_change rules x id f) view)

  -- replacing the match that was found
  module _ (s : Slot G S M) (found : lookup (λ key. bytes_eq id key.items) entries ≡ Some s) (held : GameMatch G M) (same : held.game ≡ s.held.game)
      (entries' : List (Vec ℕ Global × Slot G S M)) (written : entries' ≡ set_value (λ key. bytes_eq id key.items) entries (record { game = s.game; held = held })) where
    of_game : slice_get games s.game ≡ Some s.held.game
    of_game = lookup-game games id entries kept.slots s found

    module _ (ok : held.value ≡ f (rules s.held.game) s.held.value) where
      changed-here : change (desk_match s) ≡ record { game = s.game; value = held.value }
      unfolding whole change
      changed-here =
          let put : MatchValue M → DeskMatch M = λ v. record { game = s.game; value = v } in
          rw (lookup-id games id s entries kept.slots found)
          (ap (λ (o : Option G). put (unwrap_or (option_map (λ g. f (rules g) s.held.value) o) s.held.value)) of_game ∙ ap put (sym ok))

      matches-ok : desk_matches entries' ≡ map change (desk_matches entries)
      matches-ok = ap desk_matches written ∙ map-set_value id change others games s (record { game = s.game; held = held }) changed-here entries kept.slots kept.lawful.ids_differ found

      pub value-ok : ◌≡◌ {A = ManagerValue G M} (record { games = games; matches = desk_matches entries' }) (with_change rules d id f)
      unfolding whole change with_games
      value-ok = ap with_games matches-ok ∙ ap (λ (x : ManagerValue G M). with_change rules x id f) view

      pub kept-ok : AreKept rules games entries'
      unfolding whole change with_games
      kept-ok = record {
        slots = subst (λ (l : List (Vec ℕ Global × Slot G S M)). All (IsSlotOf games) l) (sym written)
            (slots-set_value games id s (record { game = s.game; held = held }) (ap (λ (m : MatchValue M). m.setup.id) ok ∙ ap (λ x. x.id) ((keeps s.held.game).setup s.held.value)) (of_game ∙ ap Some (sym same)) entries kept.slots found);
        lawful = subst (λ (x : ManagerValue G M). IsLawfulManager rules x) (ap with_games (sym matches-ok)) (lawful-with_change rules whole id f keeps kept.lawful);
      }

    -- nothing was changed
    pub entries-same : held ≡ s.held → entries' ≡ entries
    entries-same is =
        written ∙ (ap (λ (x : GameMatch G M). set_value (λ key. bytes_eq id key.items) entries (record { game = s.game; held = x })) is ∙ set_value-same id s entries found)

    -- the change was made or refused
    pub kept-either : {E : Type 0} (r : Result (Unit {0}) E) → OnOk r (held.value ≡ f (rules s.held.game) s.held.value) → OnErr r (held ≡ s.held) → AreKept rules games entries'
    kept-either (Ok u) ok err = kept-ok (ok)
    kept-either (Err e) ok err = subst (λ (l : List (Vec ℕ Global × Slot G S M)). AreKept rules games l) (sym (entries-same err)) kept

    pub value-either : {E : Type 0} (r : Result (Unit {0}) E) → OnOk r (held.value ≡ f (rules s.held.game) s.held.value) → OnOk r (◌≡◌ {A = ManagerValue G M} (record { games = games; matches = desk_matches entries' }) (with_change rules d id f))
    value-either (Ok u) ok = value-ok ok
    value-either (Err e) ok = tt

    pub value-refused : {E : Type 0} (r : Result (Unit {0}) E) → OnErr r (held ≡ s.held) → OnErr r (◌≡◌ {A = ManagerValue G M} (record { games = games; matches = desk_matches entries' }) d)
    unfolding with_games
    value-refused (Ok u) err = tt
    value-refused (Err e) err = ap (λ l. with_games (desk_matches l)) (entries-same err) ∙ view
