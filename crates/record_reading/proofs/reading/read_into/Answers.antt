use Rattle.std.proofs.Common.{◌≡◌, ℕ, Bool, Option, Some, None, Result, Ok, Err, length, subst, sym, true}
use Rattle.std.specs.Prelude.{IfOk, IfSome, if◌then◌else◌, option_copied}
use Rattle.std.specs.Borrow.{Bor}
use Rattle.record_reading.specs.RecordParts.{NamesRole, each_role, AreErrors, AreGoals, AreMoves, ArePlayers}
use Rattle.record_reading.specs.RecordTree.{cause_tree, marks_tree, text_lists_tree, goal_values_tree, phase_tree, since_second, texts_tree, unless_there, version_tree, whole_tree}
use Rattle.serde_json.specs.Data.{Data, string}
use Rattle.serde_json.specs.declared.value.Value.{Value}
use Rattle.desk_calls.specs.Names.{is_clock, is_name, is_strikes}
use Rattle.record_reading.specs.Internal.JsonValues.{data_in, data_of}
use Rattle.record_reading.specs.Internal.Shown.{AnyShape, Shows}
use Rattle.record_reading.specs.declared.record_parts.Version.{Version}
use Rattle.record_reading.specs.declared.record_parts.Version.TheVariants.{First}
use Rattle.record_reading.proofs.JsonData.{data_lent, shown_lent}
use Rattle.record_reading.proofs.KeyTable.{by_roles}
use Rattle.record_reading.proofs.reading.read_into.Goals as goal

kept_read : {A E : Type 0} (P : Option A → Type 0) (read : Result (Option A) E) (result : Result Bool E) (part : A) → IfOk read P → IfOk result (λ is. read ≡ Ok (if is then Some part else None)) → IfOk result (λ is. P (if is then Some part else None))
kept_read P read (Ok is) part shows same = subst (λ r. IfOk r P) same shows
kept_read P read (Err e) part shows same = same

kept : {A E : Type 0} (written : A → Data) (Fits : ℕ → A → Type 0) (found : Option Data) {n m : ℕ} → n ≡ m → (read : Result (Option A) E) (result : Result Bool E) (part : A) → IfOk read (Shows written (Fits n) found)
    → IfOk result (λ is. read ≡ Ok (if is then Some part else None)) → IfOk result (λ is. Shows written (Fits m) found (if is then Some part else None))
kept written Fits found {n} {m} roles read result part shows same = kept_read (Shows written (Fits m) found) read result part (subst (λ k. IfOk read (Shows written (Fits k) found)) roles shows) same

kept_lent : {A E : Type 0} (written : A → Data) (Fits : ℕ → A → Type 0) (lent : Option (Bor Value)) (found : Option Value) → option_copied lent ≡ found → {n m : ℕ} → n ≡ m → (read : Result (Option A) E) (result : Result Bool E) (part : A)
    → IfOk read (Shows written (Fits n) (data_in lent)) → IfOk result (λ is. read ≡ Ok (if is then Some part else None)) → IfOk result (λ is. Shows written (Fits m) (data_of found) (if is then Some part else None))
kept_lent written Fits lent found is {n} {m} roles read result part shows same =
    kept written Fits (data_of found) roles read result part (subst (λ d. IfOk read (Shows written (Fits n) d)) (data_lent lent found is) shows) same

-- the value at this key is found in the same way in all versions
any_version : (version other : Option Version) (found : Option Data) (read : Option Version) → Shows version_tree AnyShape (unless_there (version_tree First) other found) read → Shows version_tree AnyShape (unless_there (version_tree First) version found) read
any_version version other found read shown = shown

pub returns-in-Cause-clause-read : goal.returns-in-Cause-clause-read
returns-in-Cause-clause-read g c = rw (c.in-Cause.is, sym c.keep.ensures) (shown_lent cause_tree (λ why. IfSome why (NamesRole (g.G.Game.rules c.args.game.now).roles)) c.as_ref.result c.args.found c.cause_in.result c.as_ref.ensures.value (by_roles cause_tree (λ n why. IfSome why (NamesRole n)) _ _ c.roles-roles.ensures c.cause_in.ensures))

pub returns-in-EndMarks-clause-read : goal.returns-in-EndMarks-clause-read
returns-in-EndMarks-clause-read g c = rw c.in-EndMarks.is (kept_lent marks_tree (λ n marks. length marks ≡ n) c.as_ref-in-EndMarks.result c.args.found c.as_ref-in-EndMarks.ensures.value c.roles-roles.ensures c.marks_in.result c.keep_read.result _ c.marks_in.ensures c.keep_read.ensures)

pub returns-in-Errors-clause-read : goal.returns-in-Errors-clause-read
returns-in-Errors-clause-read g c = rw c.in-Errors.is (kept text_lists_tree (λ n errors. AreErrors n errors) (data_of c.args.found) c.roles-roles.ensures c.errors_in.result c.keep_read-in-Errors.result _ c.errors_in.ensures c.keep_read-in-Errors.ensures)

pub returns-in-GoalValues-clause-read : goal.returns-in-GoalValues-clause-read
returns-in-GoalValues-clause-read g c = rw c.in-GoalValues.is (kept_lent goal_values_tree (λ n goals. AreGoals n goals) c.as_ref-in-GoalValues.result c.args.found c.as_ref-in-GoalValues.ensures.value c.roles-roles.ensures c.goals_in.result c.keep_read-in-GoalValues.result _ c.goals_in.ensures c.keep_read-in-GoalValues.ensures)

pub returns-in-MatchId-clause-read : goal.returns-in-MatchId-clause-read
returns-in-MatchId-clause-read g c = rw c.in-MatchId.is (kept_lent string (λ n id. is_name id ≡ true) c.as_ref-in-MatchId.result c.args.found c.as_ref-in-MatchId.ensures.value c.roles-roles.ensures c.id_in.result c.keep_read-in-MatchId.result _ c.id_in.ensures c.keep_read-in-MatchId.ensures)

pub returns-in-Moves-clause-read : goal.returns-in-Moves-clause-read
returns-in-Moves-clause-read g c = rw c.in-Moves.is (kept text_lists_tree (λ n moves. AreMoves n moves) (data_of c.args.found) c.roles-roles.ensures c.moves_in.result c.keep_read-in-Moves.result _ c.moves_in.ensures c.keep_read-in-Moves.ensures)

pub returns-in-Phase-clause-read : goal.returns-in-Phase-clause-read
returns-in-Phase-clause-read g c = rw (c.in-Phase.is, sym c.keep-in-Phase.ensures) (shown_lent phase_tree AnyShape c.as_ref-in-Phase.result c.args.found c.phase_in.result c.as_ref-in-Phase.ensures.value c.phase_in.ensures)

pub returns-in-PlayClock-clause-read : goal.returns-in-PlayClock-clause-read
returns-in-PlayClock-clause-read g c = rw (c.in-PlayClock.is, sym c.keep-in-PlayClock.ensures) (shown_lent whole_tree (λ seconds. is_clock seconds ≡ true) c.as_ref-in-PlayClock.result c.args.found c.clock_in.result c.as_ref-in-PlayClock.ensures.value c.clock_in.ensures)

pub returns-in-Players-clause-read : goal.returns-in-Players-clause-read
returns-in-Players-clause-read g c = rw c.in-Players.is (kept texts_tree (λ n players. ArePlayers n players) (data_of c.args.found) c.roles-roles.ensures c.players_in.result c.keep_read-in-Players.result _ c.players_in.ensures c.keep_read-in-Players.ensures)

pub returns-in-Roles-clause-read : goal.returns-in-Roles-clause-read
returns-in-Roles-clause-read g c = rw c.in-Roles.is (kept texts_tree (λ n names. names ≡ each_role (g.G.Game.rules c.args.game.now).roles (g.G.Game.rules c.args.game.now).role_name) (data_of c.args.found) c.roles-roles.ensures c.roles_in.result c.keep_read-in-Roles.result _ c.roles_in.ensures c.keep_read-in-Roles.ensures)

pub returns-in-StartClock-clause-read : goal.returns-in-StartClock-clause-read
returns-in-StartClock-clause-read g c = rw (c.in-StartClock.is, sym c.keep-in-StartClock.ensures) (shown_lent whole_tree (λ seconds. is_clock seconds ≡ true) c.as_ref-in-StartClock.result c.args.found c.clock_in-in-StartClock.result c.as_ref-in-StartClock.ensures.value c.clock_in-in-StartClock.ensures)

pub returns-in-StartMarks-clause-read : goal.returns-in-StartMarks-clause-read
returns-in-StartMarks-clause-read g c = rw c.in-StartMarks.is (kept_lent marks_tree (λ n marks. length marks ≡ n) c.as_ref-in-StartMarks.result c.args.found c.as_ref-in-StartMarks.ensures.value c.roles-roles.ensures c.marks_in-in-StartMarks.result c.keep_read-in-StartMarks.result _ c.marks_in-in-StartMarks.ensures c.keep_read-in-StartMarks.ensures)

pub returns-in-States-clause-read : goal.returns-in-States-clause-read
returns-in-States-clause-read g c = rw c.in-States.is (kept text_lists_tree (λ n states. AnyShape states) (data_of c.args.found) c.roles-roles.ensures c.value_in.result c.keep_read-in-States.result _ c.value_in.ensures c.keep_read-in-States.ensures)

pub returns-in-Strikes-clause-read : goal.returns-in-Strikes-clause-read
returns-in-Strikes-clause-read g c = rw (c.in-Strikes.is, sym c.keep-in-Strikes.ensures) (subst (λ d. Shows whole_tree (λ strikes. is_strikes strikes ≡ true) (since_second (whole_tree 0) c.args.version d) c.strikes_in.result) (data_lent c.as_ref-in-Strikes.result c.args.found c.as_ref-in-Strikes.ensures.value) c.strikes_in.ensures)

pub returns-in-Version-clause-read : goal.returns-in-Version-clause-read
returns-in-Version-clause-read g c = rw (c.in-Version.is, sym c.keep-in-Version.ensures) (any_version c.args.version c.version_in.result (data_of c.args.found) c.version_in.result (subst (λ d. Shows version_tree AnyShape (unless_there (version_tree First) c.version_in.result d) c.version_in.result) (data_lent c.as_ref-in-Version.result c.args.found c.as_ref-in-Version.ensures.value) c.version_in.ensures.shown))
