-- The history of a match's desk: one call opens the match, and the roles' calls change the match but not its setup.
use Rattle.std.proofs.Common.{◌≡◌, ◌≢◌, ◌==◌, ℕ, ◌+◌, ◌-◌, ◌<◌, Bool, true, false, cond, List, [], ◌∷◌, ◌++◌, All, Option, Some, None, refl, sym, ap, subst, ◌∙◌, arith}
use Rattle.std.specs.Prelude.{if◌then◌else◌, is_none, slice_get, slice_set, length}
use Rattle.std.proofs.lemmas.Bool.Decides.{nat_tests}
use Rattle.std.proofs.lemmas.List.Elements.{All-head, All-tail}
use Rattle.std.proofs.lemmas.Slice.Eq.{bytes_eq-Decides}
use Rattle.game_core.specs.Play.{Rules}
use Rattle.call_history.specs.History.{run, IsLegalHistory, IsReplay}
use Rattle.call_history.specs.Parts.{part, calls_of}
use Rattle.call_history.specs.declared.journal.Entry.{Entry}
use Rattle.desk_calls.specs.declared.answer.Answer.{Answer}
use Rattle.desk_calls.specs.declared.answer.Answer.TheVariants.{Text}
use Rattle.desk_calls.specs.declared.call.Call.{Call}
use Rattle.desk_calls.specs.declared.call.Call.TheVariants.{Open, Next, Submit, Miss, Query, Abort}
use Rattle.desk_calls.specs.declared.call.Refusal.{Refusal}
use Rattle.desk_calls.specs.declared.call.Refusal.TheVariants.{NoMatch}
use Rattle.desk_calls.specs.declared.call.Reply.{Reply}
use Rattle.desk_calls.specs.declared.call.Reply.TheVariants.{Opened, Refused}
use Rattle.desk_calls.specs.declared.setup.Setup.{Setup}
use Rattle.match_book.specs.Judgement.{judgement}
use Rattle.match_book.specs.MatchValue.{MatchValue, state_after}
use Rattle.match_book.specs.Phase.{stage, answered_in}
use Rattle.match_book.specs.Roles.{every_role, blank}
use Rattle.match_book.specs.Steps.{new_match, refusal, recorded, turn_of, parts, with_answer_in, with_answer, after_answer}
use Rattle.match_book.specs.declared.phase.Stage.{Stage}
use Rattle.match_book.specs.declared.phase.Stage.TheVariants.{Starting, Playing, Stopping, Aborting}
use Rattle.match_desk.specs.ManagerValue.{ManagerValue, opening}
use Rattle.match_desk.specs.Open.{open_refusal, with_new_match}
use Rattle.match_desk.specs.Steps.{missed, refused_or, reply, changed_match, with_change, after}
use Rattle.role_workers.specs.RoleCalls.{IsRoleCall}
use Rattle.role_workers.specs.RoleLines.{line_of}
use Rattle.match_workers.specs.LineParts.{open_call, OpensMatch, AreRoleLines}
use Rattle.match_workers.specs.OneMatch.{HasOneMatch}
use Rattle.match_workers.specs.Refusals.{manager_of}

-- recording answers does not change a match's setup
recorded-setup : {S M : Type 0} (g : Rules S M) (m : MatchValue M) → (recorded g m).setup ≡ m.setup
recorded-setup {S} {M} g m = step (every_role g.roles (answered_in Playing m))
  where
    step : (b : Bool) → (if b then record m { turns = m.turns ++ turn_of (parts g m) ∷ []; open_answers = blank g.roles } else m).setup ≡ m.setup
    step true = refl
    step false = refl

answered-setup : {S M : Type 0} (g : Rules S M) (m : MatchValue M) (role : ℕ) (answer : Answer) (at : Stage) → (with_answer_in at g m role answer).setup ≡ m.setup
answered-setup g m role answer Starting = refl
answered-setup g m role answer Playing = recorded-setup g (record m { open_answers = slice_set m.open_answers role (judgement g (state_after g m.turns) role answer) })
answered-setup g m role answer Stopping = refl
answered-setup g m role answer (Aborting cause) = refl

after_answer-setup : {S M : Type 0} (g : Rules S M) (m : MatchValue M) (role round : ℕ) (answer : Answer) → (after_answer g m role round answer).setup ≡ m.setup
after_answer-setup {S} {M} g m role round answer = step (is_none (refusal g m role round))
  where
    step : (b : Bool) → (if b then with_answer g m role answer else m).setup ≡ m.setup
    step true = answered-setup g m role answer (stage g m)
    step false = refl

abbrev pub after_call : {S M : Type 0} → Rules S M → MatchValue M → Call → MatchValue M
after_call g m (Open i n start play strikes players) = m
after_call g m (Next i r) = m
after_call g m (Submit i r n text) = after_answer g m r n (Text text)
after_call g m (Miss i r n broken) = after_answer g m r n (missed broken)
after_call g m (Query i) = m
after_call g m (Abort i) = m

pub after_call-setup : {S M : Type 0} (g : Rules S M) (m : MatchValue M) (call : Call) → (after_call g m call).setup ≡ m.setup
after_call-setup g m (Open i n start play strikes players) = refl
after_call-setup g m (Next i r) = refl
after_call-setup g m (Submit i r n text) = after_answer-setup g m r n (Text text)
after_call-setup g m (Miss i r n broken) = after_answer-setup g m r n (missed broken)
after_call-setup g m (Query i) = refl
after_call-setup g m (Abort i) = refl

pub later-role_lines : (id : List ℕ) (roles : ℕ) (e : Entry Call Reply) (es : List (Entry Call Reply)) → AreRoleLines id roles (e ∷ es) → AreRoleLines id roles es
later-role_lines id roles e es each role below = step (e.line == line_of role) (each role below)
  where
    step : (b : Bool) → All (IsRoleCall id role) (calls_of (cond b (e ∷ part (line_of role) es) (part (line_of role) es))) → All (IsRoleCall id role) (calls_of (part (line_of role) es))
    step true all = All-tail (IsRoleCall id role) e.call (calls_of (part (line_of role) es)) all
    step false all = all

not_first : (line : ℕ) → (line == 0) ≡ false → 0 < line
not_first line other = grind (arith, nat_tests, other)

same_line : (line other : ℕ) → line ≡ other → (line == other) ≡ true
same_line line other same = grind (arith, nat_tests, same)

other_line : (line other : ℕ) → line ≡ 0 → 0 < other → (line == other) ≡ false
other_line line other zeroth some = grind (arith, nat_tests, zeroth, some)

-- the first reply does not say that there is no match
abbrev pub IsAdmitted : List (Entry Call Reply) → Type 0
IsAdmitted [] = Unit {0}
IsAdmitted (e ∷ es) = e.reply ≢ Refused NoMatch

pub role_entry : (id : List ℕ) (roles : ℕ) (e : Entry Call Reply) (es : List (Entry Call Reply)) → e.line < roles + 1 → (e.line == 0) ≡ false → AreRoleLines id roles (e ∷ es)
    → (role : ℕ) × IsRoleCall id role e.call × (e.line ≡ line_of role)
role_entry id roles e es within other each =
    let some : 0 < e.line = not_first e.line other in
    let role : ℕ = e.line - 1 in
    let is_line : e.line ≡ line_of role = omega (arith, some) in
    (role, step role (e.line == line_of role) (same_line e.line (line_of role) is_line) (each role (omega (arith, some, within))), is_line)
  where
    step : (role : ℕ) (b : Bool) → b ≡ true → All (IsRoleCall id role) (calls_of (cond b (e ∷ part (line_of role) es) (part (line_of role) es))) → IsRoleCall id role e.call
    step role true is all = All-head (IsRoleCall id role) e.call (calls_of (part (line_of role) es)) all
    step role false is all = absurd cc

module _ {G S M : Type 0} (rules : G → Rules S M) (game : G) (setup : Setup) where
  -- the manager of the game with only this match
  abbrev pub with_one : MatchValue M → ManagerValue G M
  with_one m = record { games = game ∷ []; matches = record { game = 0; value = m } ∷ [] }

  changed-one : (id : List ℕ) (f : Rules S M → MatchValue M → MatchValue M) (m : MatchValue M) → id ≡ m.setup.id → with_change rules (with_one m) id f ≡ with_one (f (rules game) m)
  changed-one id f m same =
      ap (λ b. record { games = game ∷ []; matches = (if b then changed_match rules (with_one m) f (record { game = 0; value = m }) else record { game = 0; value = m }) ∷ [] })
      ((bytes_eq-Decides id m.setup.id).1 same)

  role_call-none : (id : List ℕ) (role : ℕ) (call : Call) → IsRoleCall id role call → (after rules (manager_of {M = M} game) call ≡ manager_of game) × (reply rules (manager_of {M = M} game) call ≡ Refused NoMatch)
  role_call-none id role (Open i n start play strikes players) is = absurd is
  role_call-none id role (Next i r) is = (refl, refl)
  role_call-none id role (Submit i r n text) is = (refl, refl)
  role_call-none id role (Miss i r n broken) is = (refl, refl)
  role_call-none id role (Query i) is = absurd is
  role_call-none id role (Abort i) is = absurd is

  pub role_call-one : (id : List ℕ) (role : ℕ) (call : Call) (m : MatchValue M) → IsRoleCall id role call → id ≡ m.setup.id → after rules (with_one m) call ≡ with_one (after_call (rules game) m call)
  role_call-one id role (Open i n start play strikes players) m is same = absurd is
  role_call-one id role (Next i r) m is same = refl
  role_call-one id role (Submit i r n text) m is same = changed-one i (λ g x. after_answer g x r n (Text text)) m (is.0 ∙ same)
  role_call-one id role (Miss i r n broken) m is same = changed-one i (λ g x. after_answer g x r n (missed broken)) m (is.0 ∙ same)
  role_call-one id role (Query i) m is same = absurd is
  role_call-one id role (Abort i) m is same = absurd is

  -- the opening adds the match
  opened-one : (refused : Option Refusal) → open_refusal rules (manager_of {M = M} game) 0 setup ≡ refused → Opened ≡ refused_or refused Opened
      → after rules (manager_of {M = M} game) (open_call setup) ≡ with_one (new_match (rules game) setup)
  opened-one None is accepted = ap (λ o. if is_none o then with_new_match rules (manager_of {M = M} game) 0 setup (slice_get (game ∷ []) 0) else manager_of game) is
  opened-one (Some reason) is accepted = absurd cc

  pub record AreAfterOpening (roles : ℕ) (history later : List (Entry Call Reply)) : Type 0 where
    pub leaves : run (after rules) (manager_of {M = M} game) history ≡ run (after rules) (with_one (new_match (rules game) setup)) later
    pub legal : IsLegalHistory (reply rules) (after rules) (with_one (new_match (rules game) setup)) later
    pub within : All (λ e. e.line < roles + 1) later
    pub each : AreRoleLines setup.id roles later
    pub no_first : part 0 later ≡ []
    -- if the first reply on a line does not say that there is no match, the line made all its calls after the opening
    pub same_part : (line : ℕ) → 0 < line → IsAdmitted (part line history) → part line later ≡ part line history

  pub after_opening : (roles : ℕ) (history : List (Entry Call Reply)) → All (λ e. e.line < roles + 1) history → AreRoleLines setup.id roles history → OpensMatch setup history
      → IsLegalHistory (reply rules) (after rules) (manager_of {M = M} game) history → (later : List (Entry Call Reply)) × AreAfterOpening roles history later
  after_opening roles [] within each first legal = absurd cc
  after_opening roles (e ∷ es) within each first legal =
      step (e.line == 0) refl first (after_opening roles es within' (later-role_lines setup.id roles e es each))
    where
      within' : All (λ x. x.line < roles + 1) es
      within' = All-tail (λ (x : Entry Call Reply). x.line < roles + 1) e es within

      admitted : (entries later : List (Entry Call Reply)) (b : Bool) (line : ℕ) → e.reply ≡ Refused NoMatch → (IsAdmitted entries → part line later ≡ entries)
          → IsAdmitted (cond b (e ∷ entries) entries) → part line later ≡ cond b (e ∷ entries) entries
      admitted entries later true line no_match rest said = absurd (said no_match)
      admitted entries later false line no_match rest said = rest said

      opened : e ≡ record { line = 0; call = open_call setup; reply = Opened } → part 0 es ≡ [] → AreAfterOpening roles (e ∷ es) es
      opened is none =
          let is_call : e.call ≡ open_call setup = ap (λ (x : Entry Call Reply). x.call) is in
          let is_reply : e.reply ≡ Opened = ap (λ (x : Entry Call Reply). x.reply) is in
          let accepted : Opened ≡ refused_or (open_refusal rules (manager_of {M = M} game) 0 setup) Opened = sym is_reply ∙ legal.0 ∙ ap (reply rules (manager_of {M = M} game)) is_call in
          let added = ap (after rules (manager_of {M = M} game)) is_call ∙ opened-one (open_refusal rules (manager_of {M = M} game) 0 setup) refl accepted in
          record {
            leaves = ap (λ d. run (after rules) d es) added;
            legal = subst (λ d. IsLegalHistory (reply rules) (after rules) d es) added legal.1;
            within = within';
            each = later-role_lines setup.id roles e es each;
            no_first = none;
            same_part = λ line some admitted. sym (ap (λ b. cond b (e ∷ part line es) (part line es)) (other_line e.line line (ap (λ (x : Entry Call Reply). x.line) is) some));
          }

      step : (b : Bool) → (e.line == 0) ≡ b → cond b (e ∷ part 0 es) (part 0 es) ≡ record { line = 0; call = open_call setup; reply = Opened } ∷ []
          → (OpensMatch setup es → IsLegalHistory (reply rules) (after rules) (manager_of {M = M} game) es → (later : List (Entry Call Reply)) × AreAfterOpening roles es later)
          → (later : List (Entry Call Reply)) × AreAfterOpening roles (e ∷ es) later
      step true is begins rest =
          let same : e ≡ record { line = 0; call = open_call setup; reply = Opened } = cc in
          let none : part 0 es ≡ [] = cc in
          (es, opened same none)
      step false is begins rest =
          let called = role_entry setup.id roles e es (All-head (λ (x : Entry Call Reply). x.line < roles + 1) e es within) is each in
          let none = role_call-none setup.id called.0 e.call called.1 in
          let more = rest begins (subst (λ d. IsLegalHistory (reply rules) (after rules) d es) none.0 legal.1) in (
            more.0,
            record {
              leaves = ap (λ d. run (after rules) d es) none.0 ∙ more.1.leaves;
              legal = more.1.legal;
              within = more.1.within;
              each = more.1.each;
              no_first = more.1.no_first;
              same_part = λ line some. admitted (part line es) more.0 (e.line == line) line (legal.0 ∙ none.1) (more.1.same_part line some);
            },
          )

  run-one : (roles : ℕ) (history : List (Entry Call Reply)) (m : MatchValue M) → m.setup ≡ setup → All (λ e. e.line < roles + 1) history → AreRoleLines setup.id roles history
      → part 0 history ≡ [] → HasOneMatch game setup (run (after rules) (with_one m) history)
  run-one roles [] m same within each none = record { held = m; is_all = refl; setup_is = same }
  run-one roles (e ∷ es) m same within each none =
      step (e.line == 0) refl none
      (λ x is rest. run-one roles es x is (All-tail (λ (x : Entry Call Reply). x.line < roles + 1) e es within) (later-role_lines setup.id roles e es each) rest)
    where
      step : (b : Bool) → (e.line == 0) ≡ b → cond b (e ∷ part 0 es) (part 0 es) ≡ []
          → ((x : MatchValue M) → x.setup ≡ setup → part 0 es ≡ [] → HasOneMatch game setup (run (after rules) (with_one x) es))
          → HasOneMatch game setup (run (after rules) (after rules (with_one m) e.call) es)
      step true is rest later = absurd cc
      step false is rest later =
          let called = role_entry setup.id roles e es (All-head (λ (x : Entry Call Reply). x.line < roles + 1) e es within) is each in
          let now = role_call-one setup.id called.0 e.call m called.1 (sym (ap (λ (x : Setup). x.id) same)) in
          subst (λ d. HasOneMatch game setup (run (after rules) d es)) (sym now) (later (after_call (rules game) m e.call) (after_call-setup (rules game) m e.call ∙ same) rest)

  pub one_match : (roles : ℕ) (d : ManagerValue G M) (history : List (Entry Call Reply)) → IsReplay (reply rules) (after rules) opening d history → opening d ≡ manager_of game
      → All (λ e. e.line < roles + 1) history → OpensMatch setup history → AreRoleLines setup.id roles history → HasOneMatch game setup d
  one_match roles d history replay begins within first each =
      let opened = after_opening roles history within each first (subst (λ x. IsLegalHistory (reply rules) (after rules) x history) begins replay.legal) in
      let later = opened.1 in
      subst (HasOneMatch game setup) (sym (replay.leaves ∙ ap (λ x. run (after rules) x history) begins ∙ later.leaves))
      (run-one roles opened.0 (new_match (rules game) setup) refl later.within later.each later.no_first)

-- a manager with exactly one match has a list of one match
pub length-one : {G M : Type 0} (game : G) (setup : Setup) (d : ManagerValue G M) → HasOneMatch game setup d → length d.matches ≡ 1
length-one {G} {M} game setup d one = ap (λ (x : ManagerValue G M). length x.matches) one.is_all
