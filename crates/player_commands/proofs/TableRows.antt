-- The rows of a table, one after another.
use Rattle.std.proofs.Common.{◌≡◌, ◌∙◌, ◌<◌, ◌≤◌, ◌+◌, ◌++◌, [], ◌∷◌, ℕ, List, ap, drop, get_or, length, refl, subst, sym}
use Rattle.std.proofs.lemmas.List.{append-nil, append_assoc, drop_all, drop_more}
use Rattle.player_commands.specs.declared.role_turns.RoleTurn.{RoleTurn}
use Rattle.player_commands.specs.Rows.{later_turns, next_turn}
use Rattle.player_commands.specs.Tables.{AreRows, IsRow}
use Rattle.player_commands.specs.declared.watched.Exchange.{Exchange}

pub next-row : (role : List ℕ) (all : List Exchange) (turns : List RoleTurn) (index : ℕ) (exchange : Exchange) (left later : List RoleTurn) (text row : List ℕ) → index < length all → exchange ≡ get_or all index exchange
    → later ≡ later_turns exchange.is_play left → IsRow role exchange (next_turn exchange.is_play left) row → ((rows : List ℕ) → AreRows role (drop index all) left rows → AreRows role all turns (text ++ rows))
    → (rows : List ℕ) → AreRows role (drop (index + 1) all) later rows → AreRows role all turns ((text ++ row) ++ rows)
next-row role all turns index exchange left later text row within at is is-row before rows next =
    let here : drop index all ≡ exchange ∷ drop (index + 1) all = drop_more all index exchange within ∙ ap (λ (e : Exchange). e ∷ drop (index + 1) all) (sym at) in
    let behind : AreRows role (drop (index + 1) all) (later_turns exchange.is_play left) rows = subst (λ (them : List RoleTurn). AreRows role (drop (index + 1) all) them rows) is next in
    let both : AreRows role (drop index all) left (row ++ rows) = subst (λ (them : List Exchange). AreRows role them left (row ++ rows)) (sym here) (row, rows, is-row, behind, refl) in
    subst (AreRows role all turns) (sym (append_assoc text row rows)) (before (row ++ rows) both)

pub all-rows : (role : List ℕ) (exchanges all : List Exchange) (turns : List RoleTurn) (index : ℕ) (left : List RoleTurn) (text : List ℕ) → all ≡ exchanges → length all ≤ index
    → ((rows : List ℕ) → AreRows role (drop index all) left rows → AreRows role all turns (text ++ rows)) → AreRows role exchanges turns text
all-rows role exchanges all turns index left text same past before =
    let none : AreRows role (drop index all) left [] = subst (λ (them : List Exchange). AreRows role them left []) (sym (drop_all index all past)) refl in
    subst (λ (them : List Exchange). AreRows role them turns text) same (subst (AreRows role all turns) (append-nil text) (before [] none))
