-- The parts of a lawful match's record have the shape of a record, and are in its record tree.
use Rattle.std.proofs.Common.{◌≡◌, ℕ, zero, suc, ◌<◌, ◌≤◌, Bool, true, false, Option, Some, None, List, [], ◌∷◌, ◌++◌, length, get_or, map, inl, inr, refl, sym, ap, ◌∙◌, subst, arith, length-append, if◌then◌else◌, nat_le, ◌==◌}
use Rattle.std.proofs.lemmas.List.{length-map}
use Rattle.std.specs.Prelude.{All, IfSome, slice_index_or, is_none, option_to_list}
use Rattle.std.specs.Option.{option_or}
use Rattle.std.proofs.lemmas.List.Elements.{All-from_get_or, All-map, All-append}
use Rattle.serde_json.specs.Data.{Data, object}
use Rattle.game_core.specs.Play.{Rules, IsLawful, max_goal}
use Rattle.match_book.specs.Judgement.{IsJudged, IsPart, MayStand}
use Rattle.match_book.specs.Retirement.{are_all_retired, retired_by}
use Rattle.match_book.specs.Lawful.{IsLawfulTurn, IsLawfulMatch, AreLawful}
use Rattle.match_book.specs.Laws.{TurnsLeadToStates, StoppingMeans}
use Rattle.desk_calls.specs.Names.{IsLawfulSetup}
use Rattle.match_book.specs.MatchValue.{MatchValue, state_after}
use Rattle.match_book.specs.Phase.{stage, settled, after_the_end, before_the_end, has_no_goal, cause_in, cause, goal_in, max_turns}
use Rattle.match_book.specs.Roles.{lowest_role, every_role, is_there}
use Rattle.match_book.specs.declared.judgement.Substitution.{Substitution}
use Rattle.match_book.specs.declared.judgement.Substitution.TheVariants.{TimeOut, ConnectionError, Unreadable, Illegal, Retired}
use Rattle.match_book.specs.declared.phase.Cause.TheVariants.{Asked, TooLong}
use Rattle.match_book.specs.declared.phase.Stage.{Stage}
use Rattle.match_book.specs.declared.phase.Stage.TheVariants.{Starting, Playing, Stopping, Aborting}
use Rattle.match_book.specs.declared.turn.Turn.{Turn}
use Rattle.record_reading.specs.LawfulRecord.{RecordTreeHoldsParts, RecordsAreLawful, LawfulPartsHaveShape}
use Rattle.record_reading.specs.Internal.KeyReading.{HoldsForEach}
use Rattle.record_reading.specs.RecordParts.{parts_of, parts_in, IsErrorText, MayBeGiven, NamesRole, AreErrors, AreGoals, prefixes, goals_from}
use Rattle.record_reading.specs.RecordTree.{key_tree, keys, found_at, members_at, IsShapedAt, record_tree}
use Rattle.record_reading.specs.declared.record_parts.Key.{Key}
use Rattle.record_reading.specs.declared.record_parts.Key.TheVariants.{Cause as AtCause, EndMarks, Errors, GoalValues, MatchId, Moves, Phase as AtPhase, PlayClock, Players, Roles, StartClock, StartMarks, States, Strikes, Version as AtVersion}
use Rattle.record_reading.specs.declared.record_parts.Version.{Version}
use Rattle.record_reading.specs.declared.record_parts.Version.TheVariants.{Second}
use Rattle.record_reading.proofs.KeyTable.{each_key, each_same}
use Rattle.record_reading.proofs.RecordShapes.{length_prefixes}

lowest_below : (n : ℕ) (p : ℕ → Bool) (r : ℕ) → lowest_role n p ≡ Some r → r < n
lowest_below zero p r is = absurd cc
lowest_below (suc n) p r is = go (lowest_role n p) (p n) refl is (lowest_below n p)
  where
    go : (o : Option ℕ) (b : Bool) → lowest_role n p ≡ o → option_or o (if b then Some n else None) ≡ Some r → ((k : ℕ) → lowest_role n p ≡ Some k → k < n) → r < suc n
    go (Some k) b lower found below = let same : k ≡ r = cc in omega (arith, below k lower)
    go None true lower found below = let same : n ≡ r = cc in omega arith
    go None false lower found below = absurd cc

settled_names : {S M : Type 0} (g : Rules S M) (t : ℕ) (out : Bool) (s : S) → IfSome (cause_in (settled g t out s)) (NamesRole g.roles)
unfolding settled
settled_names g t out s = go (g.terminal s) (nat_le max_turns t) out (lowest_role g.roles (has_no_goal g s)) (lowest_role g.roles (λ r. length (g.legal s r) == 0)) (lowest_below g.roles (has_no_goal g s)) (lowest_below g.roles (λ r. length (g.legal s r) == 0))
  where
    go : (ended long out : Bool) (goal move : Option ℕ) → ((r : ℕ) → goal ≡ Some r → r < g.roles) → ((r : ℕ) → move ≡ Some r → r < g.roles)
        → IfSome (cause_in (if ended then after_the_end goal else (if long then Aborting TooLong else before_the_end move out))) (NamesRole g.roles)
    go true long out None move goal_below move_below = tt
    go true long out (Some r) move goal_below move_below = goal_below r refl
    go false true out goal move goal_below move_below = tt
    go false false true goal None goal_below move_below = tt
    go false false false goal None goal_below move_below = tt
    go false false out goal (Some r) goal_below move_below = move_below r refl

cause_names : {S M : Type 0} (g : Rules S M) (m : MatchValue M) → IfSome (cause g m) (NamesRole g.roles)
unfolding stage
cause_names g m = go m.abort_asked (every_role g.roles (is_there m.start_marks)) (settled g (length m.turns) (are_all_retired g.roles m) (state_after g m.turns)) (settled_names g (length m.turns) (are_all_retired g.roles m) (state_after g m.turns))
  where
    go : (asked started : Bool) (at : Stage) → IfSome (cause_in at) (NamesRole g.roles) → IfSome (cause_in (if asked then Aborting Asked else (if started then at else Starting))) (NamesRole g.roles)
    go true started at named = tt
    go false true at named = named
    go false false at named = tt

no_goals : (n : ℕ) (goal : ℕ → Option ℕ) → ((r : ℕ) → goal r ≡ None) → goals_from n goal ≡ []
no_goals zero goal none = refl
no_goals (suc n) goal none = ap (λ gs. gs ++ option_to_list (goal n)) (no_goals n goal none) ∙ ap option_to_list (none n)

-- the role has a goal in the range
abbrev HasGoal : (ℕ → Option ℕ) → ℕ → Type 0
HasGoal goal r = (v : ℕ) × (goal r ≡ Some v) × (v ≤ max_goal)

one_goal : (v : ℕ) → v ≤ max_goal → All (λ goal. goal ≤ max_goal) (v ∷ [])
one_goal v small = All-from_get_or (λ goal. goal ≤ max_goal) (v ∷ []) v (λ i below. only i below)
  where
    only : (i : ℕ) → i < 1 → get_or (v ∷ []) i v ≤ max_goal
    only zero below = small
    only (suc i) below = absurd (omega arith)

all_goals : (n : ℕ) (goal : ℕ → Option ℕ) → ((r : ℕ) → r < n → HasGoal goal r) → (length (goals_from n goal) ≡ n) × All (λ goal. goal ≤ max_goal) (goals_from n goal)
all_goals zero goal has = (refl, λ k d below. absurd (omega arith))
all_goals (suc n) goal has =
    let earlier = all_goals n goal (λ r below. has r (omega arith)) in
    let last = has n (omega arith) in
    let pushed : goals_from (suc n) goal ≡ goals_from n goal ++ last.0 ∷ [] = ap (λ o. goals_from n goal ++ option_to_list o) last.1 in (
      ap length pushed ∙ length-append (goals_from n goal) (last.0 ∷ []) ∙ omega (arith, earlier.0),
      subst (λ (gs : List ℕ). All (λ v. v ≤ max_goal) gs) (sym pushed) (All-append (λ v. v ≤ max_goal) (goals_from n goal) (last.0 ∷ []) earlier.1 (one_goal last.0 last.2)),
    )

given_goal : (o : Option ℕ) → is_none o ≡ false → (v : ℕ) × (o ≡ Some v)
given_goal None is = absurd cc
given_goal (Some v) is = (v, refl)

goals_shape : {S M : Type 0} (g : Rules S M) → IsLawful g → (s : S) → g.IsState s → (at : Stage) → (at ≡ Stopping → (r : ℕ) → r < g.roles → has_no_goal g s r ≡ false) → AreGoals g.roles (goals_from g.roles (goal_in at g s))
goals_shape g laws s is_state Starting stops = inl (no_goals g.roles (goal_in Starting g s) (λ r. refl))
goals_shape g laws s is_state Playing stops = inl (no_goals g.roles (goal_in Playing g s) (λ r. refl))
goals_shape g laws s is_state (Aborting c) stops = inl (no_goals g.roles (goal_in (Aborting c) g s) (λ r. refl))
goals_shape g laws s is_state Stopping stops =
    inr
    (all_goals g.roles (goal_in Stopping g s)
    (λ r below. let found = given_goal (g.goal s r) (stops refl r below) in (found.0, found.1, laws.goal_in_range s r found.0 is_state below found.1)))

some_member : {A : Type 0} (xs : List A) (k : ℕ) → k < length xs → A
some_member [] k below = absurd (omega arith)
some_member (x ∷ xs) k below = x

given : {S M : Type 0} (g : Rules S M) (moves : List M) (why : Substitution) → MayStand g moves why → MayBeGiven why
given g moves TimeOut may = tt
given g moves ConnectionError may = tt
given g moves Unreadable may = tt
given g moves (Illegal x) may = (may.0, may.1)
given g moves Retired may = absurd may

judged_error : {S M : Type 0} (g : Rules S M) (moves : List M) (m : M) (e : List ℕ) → IsJudged g moves m e → IsErrorText e
judged_error g moves m e (there, inl empty) = inl empty
judged_error g moves m e (there, inr (first, (why, same, may))) = inr (why, same, given g moves why may)

part_error : {S M : Type 0} (g : Rules S M) (retired : Bool) (moves : List M) (m : M) (e : List ℕ) → IsPart g retired moves m e → IsErrorText e
part_error g true moves m e (first, says) = inr (Retired, says, tt)
part_error g false moves m e judged = judged_error g moves m e judged

turn_errors : {S M : Type 0} (g : Rules S M) (strikes : ℕ) (before : List (Turn M)) (t : Turn M) → IsLawfulTurn g strikes before t → All IsErrorText t.errors
turn_errors g strikes before t lawful =
    All-from_get_or IsErrorText t.errors []
    (λ r below.
    let within : r < g.roles = omega (arith, lawful.one_error) in
    part_error g (retired_by strikes before r) (g.legal (state_after g before) r) _ (get_or t.errors r []) (lawful.judged r (some_member t.moves r (omega (arith, lawful.joint.width, lawful.one_error))) within))

turns_errors : {S M : Type 0} (g : Rules S M) (strikes : ℕ) (turns : List (Turn M)) → AreLawful g strikes turns → AreErrors g.roles (map (λ t. t.errors) turns)
turns_errors g strikes turns lawful =
    All-map (λ texts. (length texts ≡ g.roles) × All IsErrorText texts) (λ t. t.errors) turns
    (λ k d below. let turn = lawful k d below in (turn.one_error, turn_errors g strikes _ (slice_index_or turns k d) turn))

turns_moves : {S M : Type 0} (g : Rules S M) (strikes : ℕ) (turns : List (Turn M)) → AreLawful g strikes turns → All (λ texts. length texts ≡ g.roles) (map (λ t. map g.move_text t.moves) turns)
turns_moves g strikes turns lawful = All-map (λ texts. length texts ≡ g.roles) (λ t. map g.move_text t.moves) turns (λ k d below. length-map (slice_index_or turns k d).moves g.move_text ∙ (lawful k d below).joint.width)

shaped_at : {S M : Type 0} (g : Rules S M) → IsLawful g → TurnsLeadToStates g → StoppingMeans g → (m : MatchValue M) → IsLawfulMatch g m → IsLawfulSetup m.setup → (version : Version) (key : Key) → IsShapedAt g key (parts_in g version m)
shaped_at g laws states stops m lawful setup version AtCause = cause_names g m
shaped_at g laws states stops m lawful setup version EndMarks = lawful.one_end_mark
shaped_at g laws states stops m lawful setup version Errors = turns_errors g m.setup.strikes m.turns lawful.turns
shaped_at g laws states stops m lawful setup version GoalValues = goals_shape g laws (state_after g m.turns) (states m.setup.strikes m.turns lawful.turns) (stage g m) (λ stopping. ((stops m).0 stopping).goals)
shaped_at g laws states stops m lawful setup version MatchId = setup.id
shaped_at g laws states stops m lawful setup version Moves = (turns_moves g m.setup.strikes m.turns lawful.turns, subst (λ (n : ℕ). n ≤ max_turns) (sym (length-map m.turns (λ t. map g.move_text t.moves))) lawful.few_turns)
shaped_at g laws states stops m lawful setup version AtPhase = tt
shaped_at g laws states stops m lawful setup version PlayClock = setup.play
shaped_at g laws states stops m lawful setup version Players = (lawful.one_player, setup.players)
shaped_at g laws states stops m lawful setup version Roles = refl
shaped_at g laws states stops m lawful setup version StartClock = setup.start
shaped_at g laws states stops m lawful setup version StartMarks = lawful.one_start_mark
shaped_at g laws states stops m lawful setup version States = tt
shaped_at g laws states stops m lawful setup version Strikes = setup.strikes
shaped_at g laws states stops m lawful setup version AtVersion = tt

pub lawful_parts_have_shape : {S M : Type 0} (g : Rules S M) → IsLawful g → TurnsLeadToStates g → StoppingMeans g → LawfulPartsHaveShape g
lawful_parts_have_shape g laws states stops m version lawful setup = record {
  keys = shaped_at g laws states stops m lawful setup version;
  as_many_errors = length-map m.turns (λ t. t.errors) ∙ sym (length-map m.turns (λ t. map g.move_text t.moves));
  one_state_more =
      length-map (prefixes m.turns) (λ front. g.state_text (state_after g front)) ∙ length_prefixes m.turns
      ∙ ap suc (sym (length-map m.turns (λ t. map g.move_text t.moves)));
}

members_hold : {S M : Type 0} (g : Rules S M) (m : MatchValue M) → HoldsForEach (λ key. found_at (object (members_at keys (parts_of g m))) key ≡ Some (key_tree key (parts_of g m))) keys
members_hold g m = each_same (λ _. Option Data) (λ key. Some (key_tree key (parts_of g m))) keys

pub record_tree_holds_parts : {S M : Type 0} (g : Rules S M) → RecordTreeHoldsParts g
unfolding record_tree
record_tree_holds_parts g m = each_key (λ key. found_at (object (members_at keys (parts_of g m))) key ≡ Some (key_tree key (parts_of g m))) (members_hold g m)

pub records_are_lawful : {S M : Type 0} (g : Rules S M) → RecordsAreLawful g
records_are_lawful g text m lawful setup json = (record_tree g m, m, record { json = json; setup = setup; lawful = lawful; version = Second; holds = record_tree_holds_parts g m })
