-- A match that is opened is stored at its index.
use Rattle.std.proofs.Common.{◌≡◌, ◌<◌, ◌≤◌, ℕ, true, arith, length, slice_index_or, Option, Some, None, List, [], ◌∷◌, ◌++◌, refl, ap, sym, ◌∙◌, subst, Vec}
use Rattle.std.proofs.lemmas.List.{map-append}
use Rattle.std.proofs.lemmas.List.Elements.{All-push}
use Rattle.std.proofs.lemmas.Option.{slice_get_within, slice_get_read}
use Rattle.std.proofs.lemmas.Bool.Decides.{nat_tests}
use Rattle.std.specs.Prelude.{All, nat_le, is_none, slice_get, option_map, bytes_eq, if◌then◌else◌}
use Rattle.std.specs.Global.{Global}
use Rattle.std.specs.Map.{lookup}
use Rattle.game_core.specs.Play.{Rules}
use Rattle.match_book.specs.MatchValue.{GameMatch}
use Rattle.match_book.specs.Laws.{NewMatchIsLawful}
use Rattle.desk_calls.specs.Names.{max_strikes}
use Rattle.match_book.specs.Steps.{new_match}
use Rattle.desk_calls.specs.declared.setup.Setup.{Setup}
use Rattle.match_desk.specs.ManagerValue.{ManagerValue, DeskMatch, match_of, IsLawfulManager}
use Rattle.match_desk.specs.Open.{open_refusal, with_new_match, after_open}
use Rattle.match_desk.specs.Internal.Slots.{AreKept, IsSlotOf, desk_match, desk_matches}
use Rattle.match_desk.specs.declared.slot.Slot.{Slot}
use Rattle.match_desk.proofs.MatchSlots.{lookup-find}
use Rattle.match_desk.proofs.OpenTests.{IsOpenable, openable}
use Rattle.match_desk.proofs.LawfulSteps.{lawful-after_open}

at_most : (m n : ℕ) → nat_le m n ≡ true → m ≤ n
at_most m n e = grind (arith, nat_tests)

module _ {G S M : Type 0} (rules : G → Rules S M) (games : List G) (entries : List (Vec ℕ Global × Slot G S M)) (kept : AreKept rules games entries)
    (d : ManagerValue G M) (view : ◌≡◌ {A = ManagerValue G M} (record { games = games; matches = desk_matches entries }) d) (game : ℕ) (setup : Setup) (opens : open_refusal rules d game setup ≡ None) where
  pub is_openable : IsOpenable rules d game setup
  is_openable = openable rules d game setup opens

  pub few-strikes : setup.strikes ≤ max_strikes
  few-strikes = at_most setup.strikes max_strikes is_openable.lawful.strikes

  pub index-none : (key : List ℕ) → key ≡ setup.id → lookup (λ k. bytes_eq key k.items) entries ≡ None
  index-none key is = step (lookup (λ k. bytes_eq key k.items) entries) (lookup-find games key entries kept.slots ∙ (ap (λ (x : ManagerValue G M). match_of x key) view ∙ (ap (match_of d) is ∙ is_openable.free)))
    where
      step : (o : Option (Slot G S M)) → option_map desk_match o ≡ None → o ≡ None
      step None e = refl
      step (Some s) e = absurd cc

  pub game-read : (g : G) → g ≡ slice_index_or games game g → Some g ≡ slice_get games game
  game-read g read =
      let same : games ≡ d.games = ap (λ (x : ManagerValue G M). x.games) view in
      let within : game < length games = subst (λ (l : List G). game < length l) (sym same) (slice_get_within d.games game is_openable.of_game is_openable.is_game) in
      sym (slice_get_read games (length games) game g refl within read)

  pub one_each : (g : G) (made : Setup) → g ≡ slice_index_or games game g → made ≡ setup → length made.players ≡ (rules g).roles
  one_each g made read made_is =
      let same : is_openable.of_game ≡ g = let w : Some is_openable.of_game ≡ Some g = sym is_openable.is_game ∙ (ap (λ (x : ManagerValue G M). slice_get x.games game) (sym view) ∙ sym (game-read g read)) in cc in
      ap (λ (x : Setup). length x.players) made_is ∙ (is_openable.one_each ∙ ap (λ x. (rules x).roles) same)

  module _ (g : G) (reads : g ≡ slice_index_or games game g) (key : Vec ℕ Global) (key_is : key.items ≡ setup.id) (made : Setup) (made_is : made ≡ setup) (held : GameMatch G M) (held_made : held ≡ record { game = g; value = new_match (rules g) made })
      (entries' : List (Vec ℕ Global × Slot G S M)) (written : entries' ≡ entries ++ (key, record { game = game; held = held }) ∷ []) where
    read : Some g ≡ slice_get games game
    read = game-read g reads

    held_is : held ≡ record { game = g; value = new_match (rules g) setup }
    held_is = let put : Setup → GameMatch G M = λ x. record { game = g; value = new_match (rules g) x } in held_made ∙ ap put made_is

    with_games : List (DeskMatch M) → ManagerValue G M
    with_games ms = record { games = games; matches = ms }

    new_one : desk_match {G = G} {S = S} (record { game = game; held = held }) ≡ record { game = game; value = new_match (rules g) setup }
    new_one = ap (λ (x : GameMatch G M). desk_match {G = G} {S = S} (record { game = game; held = x })) held_is

    more : desk_matches entries' ≡ desk_matches entries ++ (record { game = game; value = new_match (rules g) setup }) ∷ []
    more = ap desk_matches written ∙ (map-append (λ e. desk_match e.1) entries ((key, record { game = game; held = held }) ∷ []) ∙ ap (λ m. desk_matches entries ++ m ∷ []) new_one)

    pub value-opened : ◌≡◌ {A = ManagerValue G M} (record { games = games; matches = desk_matches entries' }) (after_open rules d game setup)
    unfolding with_games
    value-opened =
        ap with_games more
        ∙ (ap (λ (o : Option G). with_new_match rules (with_games (desk_matches entries)) game setup o) read
        ∙ (ap (λ (x : ManagerValue G M). with_new_match rules x game setup (slice_get x.games game)) view
        ∙ sym (ap (λ o. if is_none o then with_new_match rules d game setup (slice_get d.games game) else d) opens)))

    pub kept-opened : ((x : G) → NewMatchIsLawful (rules x)) → AreKept rules games entries'
    kept-opened new = record {
      slots = subst (λ (l : List (Vec ℕ Global × Slot G S M)). All (IsSlotOf games) l) (sym written)
          (All-push (IsSlotOf games) entries (key, record { game = game; held = held }) kept.slots (record {
            id_is = key_is ∙ ap (λ (x : GameMatch G M). x.value.setup.id) (sym held_is);
            game_is = sym read ∙ ap (λ (x : GameMatch G M). Some x.game) (sym held_is);
          }));
      lawful = subst (λ (x : ManagerValue G M). IsLawfulManager rules x) (sym value-opened)
          (lawful-after_open rules new d (subst (λ (x : ManagerValue G M). IsLawfulManager rules x) view kept.lawful) game setup);
    }
