-- The text that was written about the roles so far.
use Rattle.std.proofs.Common.{◌≡◌, ◌≢◌, ◌∙◌, ◌+◌, ◌<◌, ◌≤◌, ◌++◌, [], ◌∷◌, ℕ, List, Option, ap, arith, length, min, refl, subst, sym, take}
use Rattle.std.specs.Prelude.{Result, Ok, Err, IfErr, IsErrAnd}
use Rattle.std.specs.Io.KnownBytes.{Appends}
use Rattle.std.proofs.KnownBytes.{Appends-nil, Appends-trans}
use Rattle.std.proofs.lemmas.List.{append_assoc, append-nil, length-append}
use Rattle.std.proofs.lemmas.List.Sums.{sum_by-append}
use Rattle.std.proofs.Math.Seq.{take-append-add}
use Rattle.game_core.specs.Counting.{last_count}
use Rattle.game_core.specs.Play.{Rules}
use Rattle.match_plans.specs.declared.addresses.PlayerAddress.{PlayerAddress}
use Rattle.match_plans.specs.declared.plan.CheckPlan.{CheckPlan}
use Rattle.match_plans.specs.declared.reach.RolePlace.{RolePlace}
use Rattle.match_messages.specs.Handing.{Handed}
use Rattle.role_workers.specs.Places.{EachAt}
use Rattle.match_play.specs.declared.playable_game.PlayableGame.{PlayableGame}
use Rattle.player_commands.specs.declared.role_turns.RoleTurn.{RoleTurn}
use Rattle.player_commands.proofs.Places.{EachAt-push}
use Rattle.player_commands.specs.Checks.{EndsEarly, IsTable, IsToldOf, Told, WritesEarlier, all_bad, all_rows, table_text}
use Rattle.player_commands.specs.Tables.{header}
use Rattle.player_commands.specs.declared.check.CheckFault.{CheckFault}
use Rattle.player_commands.specs.declared.check.CheckFault.TheVariants as faults

-- the text to write before the rows of the next role: the header before the first role, otherwise nothing
abbrev pub waiting : List Told → List ℕ
waiting [] = header
waiting (role ∷ roles) = []

-- The table of the first roles was written, and this text must be written next.
pub record AreTold {S M : Type 0} (AreTurns : ℕ → List RoleTurn → Type 0) (g : Rules S M) (count bad : ℕ) (old new : Option (List ℕ)) (text : List ℕ) : Type 0 where
  pub written : List ℕ
  pub table : IsTable AreTurns g count bad written
  pub appended : Appends old new written
  pub waits : text ≡ waiting table.roles

rows-next : (roles : List Told) (told : Told) → all_rows (roles ++ told ∷ []) ≡ all_rows roles ++ told.rows
rows-next [] told = append-nil told.rows
rows-next (one ∷ roles) told = ap (λ (rest : List ℕ). one.rows ++ rest) (rows-next roles told) ∙ sym (append_assoc one.rows (all_rows roles) told.rows)

bad-next : (roles : List Told) (told : Told) (before now : ℕ) → before ≡ all_bad roles → now ≡ min (before + told.bad) last_count → now ≡ all_bad (roles ++ told ∷ [])
bad-next roles told before now is added = omega (arith, sum_by-append (λ (it : Told). it.bad) roles (told ∷ []), is, added)

table-next : (roles : List Told) (told : Told) → table_text (roles ++ told ∷ []) ≡ table_text roles ++ (waiting roles ++ told.rows)
table-next [] told = ap (λ (it : List ℕ). header ++ it) (append-nil told.rows)
table-next (one ∷ roles) told = ap (λ (it : List ℕ). header ++ it) (rows-next (one ∷ roles) told) ∙ sym (append_assoc header (all_rows (one ∷ roles)) told.rows)

nothing-waits : (roles : List Told) (told : Told) → waiting (roles ++ told ∷ []) ≡ []
nothing-waits [] told = refl
nothing-waits (one ∷ roles) told = refl

pub none-at : (Q : ℕ → Told → Type 0) → EachAt Q []
none-at Q role told is = absurd cc

abbrev pub no-table : {S M : Type 0} (T : ℕ → List RoleTurn → Type 0) (g : Rules S M) → IsTable T g 0 0 []
no-table T g = record { roles = []; so_many = refl; each = none-at _; is_bad = omega arith; is_text = refl }

pub none-told : {S M : Type 0} (T : ℕ → List RoleTurn → Type 0) (g : Rules S M) (a : Option (List ℕ)) (text : List ℕ) → text ≡ header → AreTold T g 0 0 a a text
none-told T g a text is = record { written = []; table = no-table T g; appended = Appends-nil a; waits = is }

abbrev more-table : {S M : Type 0} (T : ℕ → List RoleTurn → Type 0) (g : Rules S M) (count before now more : ℕ) (written rows out : List ℕ) (table : IsTable T g count before written) → IsToldOf (T count) (g.role_name count) rows more
    → now ≡ min (before + more) last_count → out ≡ waiting table.roles ++ rows → IsTable T g (count + 1) now (written ++ out)
more-table T g count before now more written rows out table told added is =
    let one : Told = record { rows = rows; bad = more } in
    record {
      roles = table.roles ++ one ∷ [];
      so_many = length-append table.roles (one ∷ []) ∙ ap (λ (n : ℕ). n + 1) table.so_many;
      each = EachAt-push (λ role told. IsToldOf (T role) (g.role_name role) told.rows told.bad) table.roles _ one refl table.each
          (subst (λ (role : ℕ). IsToldOf (T role) (g.role_name role) rows more) (sym table.so_many) told);
      is_bad = bad-next table.roles one before now table.is_bad added;
      is_text = ap (λ (it : List ℕ). it ++ out) table.is_text ∙ ap (λ (it : List ℕ). table_text table.roles ++ it) is ∙ sym (table-next table.roles one);
    }

behind : (text waits rows whole out : List ℕ) → text ≡ waits → whole ≡ text ++ rows → out ≡ whole → out ≡ waits ++ rows
behind text waits rows whole out is whole-is lent = lent ∙ whole-is ∙ ap (λ (it : List ℕ). it ++ rows) is

pub told-next : {S M : Type 0} (T : ℕ → List RoleTurn → Type 0) (g : Rules S M) (count before now more : ℕ) (a b c : Option (List ℕ)) (text rows whole out left : List ℕ) → AreTold T g count before a b text
    → IsToldOf (T count) (g.role_name count) rows more → now ≡ min (before + more) last_count → whole ≡ text ++ rows → out ≡ whole → Appends b c out → left ≡ [] → AreTold T g (count + 1) now a c left
told-next T g count before now more a b c text rows whole out left so-far told added whole-is lent written cleared = record {
  written = so-far.written ++ out;
  table = more-table T g count before now more so-far.written rows out so-far.table told added (behind text _ rows whole out so-far.waits whole-is lent);
  appended = Appends-trans a b c so-far.written out so-far.appended written;
  waits = cleared ∙ sym (nothing-waits so-far.table.roles (record { rows = rows; bad = more }));
}

-- If a part of the waiting text and of the rows of one more role was written, the output is a prefix of the table with this role.
pub part-next : {S M : Type 0} (T : ℕ → List RoleTurn → Type 0) (g : Rules S M) (count before more taken : ℕ) (a b c : Option (List ℕ)) (text rows whole out : List ℕ) → count < g.roles → AreTold T g count before a b text
    → IsToldOf (T count) (g.role_name count) rows more → whole ≡ text ++ rows → out ≡ whole → taken ≤ length out → Appends b c (take taken out)
    → (number bad end : ℕ) × (table : List ℕ) × (0 < number) × (number ≤ g.roles) × IsTable T g number bad table × (end ≤ length table) × Appends a c (take end table)
part-next T g count before more taken a b c text rows whole out within so-far told whole-is lent some written =
    let front = so-far.written in (
      count + 1,
      min (before + more) last_count,
      length front + taken,
      front ++ out,
      omega arith,
      omega (arith, within),
      more-table T g count before _ more front rows out so-far.table told refl (behind text _ rows whole out so-far.waits whole-is lent),
      omega (arith, length-append front out, some),
      subst (Appends a c) (sym (take-append-add front out taken)) (Appends-trans a b c front (take taken out) so-far.appended written),
    )

pub all-told : {S M : Type 0} (T : ℕ → List RoleTurn → Type 0) (g : Rules S M) (count bad : ℕ) (a b : Option (List ℕ)) (text : List ℕ) → count ≡ g.roles → AreTold T g count bad a b text
    → (table : List ℕ) × IsTable T g g.roles bad table × Appends a b table
all-told T g count bad a b text all told = (told.written, subst (λ (n : ℕ). IsTable T g n bad told.written) all told.table, told.appended)

pub if-is : (r : Result ℕ CheckFault) (Q : CheckFault → Type 0) (fault : CheckFault) → IsErrAnd r (λ it. it ≡ fault) → Q fault → IfErr r Q
if-is (Ok bad) Q fault is holds = tt
if-is (Err it) Q fault is holds = subst Q (sym is) holds

pub ends-earlier : (H : Type 0) {P : Type 0} (R : RolePlace → PlayerAddress → P → Type 0) (handed : P → Option (List Handed)) (game : PlayableGame) (plan : CheckPlan) (a b : Option (List ℕ)) (fault : CheckFault) → fault ≢ faults.WriteFault
    → WritesEarlier H R handed game plan a b → EndsEarly H R handed game plan fault a b
ends-earlier H R handed game plan a b (faults.Match fault) other earlier = earlier
ends-earlier H R handed game plan a b faults.WriteFault other earlier = absurd (other refl)
ends-earlier H R handed game plan a b faults.Memory other earlier = earlier
