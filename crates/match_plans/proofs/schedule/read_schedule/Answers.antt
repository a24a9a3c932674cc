use Rattle.std.proofs.Common.{◌≡◌, ◌==◌, ◌∷◌, ◌++◌, ◌∙◌, [], ℕ, ◌+◌, List, Bor, None, Some, false, map, vec_len, ap, refl, sym, subst, inl, inr, rules, arith, length}
use Rattle.std.specs.List.{AllZip, list_any}
use Rattle.std.specs.Str.{bytes_eq}
use Rattle.std.specs.Str.Lines.{strip_carriage_return}
use Rattle.std.proofs.lemmas.Iterator.Consumers.{YieldsList-at, YieldsList-end, YieldsList-so_far, YieldsList-turn}
use Rattle.std.proofs.lemmas.Iterator.Splits.{YieldsList-from_slice_split}
use Rattle.std.proofs.lemmas.List.{length_push, map_push}
use Rattle.std.proofs.lemmas.List.Elements.{All-push}
use Rattle.game_core.specs.Bytes.{line_feed}
use Rattle.match_plans.specs.Schedules.{IsBadLine, IsFaultOf, IsPlanned, cut_lines, line_words, match_words, misplaced, is_blank_or_comment, word_fault}
use Rattle.match_plans.specs.declared.plan.MatchPlan.{MatchPlan}
use Rattle.match_plans.specs.declared.schedule_fault.LineFault.{LineFault}
use Rattle.match_plans.specs.declared.schedule_fault.LineFault.TheVariants.{TooMany}
use Rattle.match_plans.specs.declared.schedule_fault.ScheduleFault.TheVariants.{BadLine}
use Rattle.match_plans.proofs.Placing.{bad-line, next, once-more, placed}
use Rattle.match_plans.proofs.schedule.read_schedule.Goals as goal
use Rattle.match_plans.proofs.schedule.read_schedule.Goals.{In_ok-words}

-- if the current text line has this error after the matches so far, it is the first bad one
first-bad : (c : In_ok-words) (fault : LineFault) → IsFaultOf c.args.roles c.args.strikes c.loop-line.plans.items (map (λ w. w.now) c.in_ok-words.words.items) fault
    → IsBadLine c.args.roles c.args.strikes (cut_lines c.args.input.now) (BadLine (c.loop-line.number + 1) fault)
first-bad c fault bad =
    let was = c.loop-line.invariant in
    let seen = c.loop-line.yielded in
    let lines = cut_lines c.args.input.now in
    let words = map (λ (w : Bor (List ℕ)). w.now) c.in_ok-words.words.items in
    let are : words ≡ line_words (strip_carriage_return c.in-Some.line.now) = search rules in
    let road = YieldsList-at c.into_iter-line-iterator.ensures.into_iter_gives
    (YieldsList-from_slice_split _ (λ b. b == line_feed) c.args.input.now c.split-line-items.ensures.rest c.split-line-items.ensures.done c.split-line-items.ensures.closure (search rules)) in
    let turn = YieldsList-turn road seen _ c.loop-line.yielded_by _ _ c.in-Some.line c.in-Some.is c.next.ensures.steps in
    let planned = subst (λ (ls : List (List ℕ)). AllZip (IsPlanned c.args.strikes) (match_words ls) c.loop-line.plans.items) (YieldsList-so_far road seen _ c.loop-line.yielded_by) was.planned in
    subst (λ (n : ℕ). IsBadLine c.args.roles c.args.strikes lines (BadLine (n + 1) fault)) (sym was.number)
    (bad-line c.args.roles c.args.strikes lines (length seen) c.in-Some.line.now words c.loop-line.plans.items fault turn are
    (record { planned = planned; within = was.within; roles_each = was.roles; once = was.once }) bad)

pub loop-line-preserved : goal.loop-line-preserved
loop-line-preserved c =
    let words = map (λ w. w.now) c.in_ok-words.words.items in
    let plan = c.in-Ok.plan in
    let plans = c.loop-line.plans.items in
    let was = c.loop-line.invariant in
    let pushed = c.in_ok-push.ensures.items in
    let before = map (λ (it : Bor (List ℕ)). it.now) c.loop-line.ids.keys in
    let none : None ≡ misplaced c.args.roles before plan.id.now (vec_len plan.players) = search rules in
    let added : map (λ (it : Bor (List ℕ)). it.now) c.misplaced.new.ids.keys ≡ before ++ plan.id.now ∷ [] = search rules in
    let free = placed c.args.roles before plan.id.now (vec_len plan.players) none in
    record {
      can_next = search rules;
      finite = search rules;
      number = omega (arith, was.number, length_push c.loop-line.yielded c.in-Some.line);
      within = omega (arith, ap length pushed, c.if-len-ge-MAX_SCHEDULED.false);
      planned = rw pushed (next c.args.strikes c.loop-line.yielded c.in-Some.line words plans plan (search rules) (search rules) was.planned (search rules));
      roles = rw pushed (All-push (λ (p : MatchPlan). vec_len p.players ≡ c.args.roles) plans plan was.roles free.0);
      once = rw pushed (once-more plans plan was.once (ap (list_any (bytes_eq plan.id.now)) (sym was.ids) ∙ free.1));
      ids = rw pushed (added ∙ (ap (λ (them : List (List ℕ)). them ++ plan.id.now ∷ []) was.ids ∙ sym (map_push (λ (p : MatchPlan). p.id.now) plans plan)));
    }

pub returns-in-Err-clause-bad : goal.returns-in-Err-clause-bad
returns-in-Err-clause-bad c =
    let words = map (λ (w : Bor (List ℕ)). w.now) c.in_ok-words.words.items in
    let fault : word_fault words ≡ Some c.in-Err.fault = search rules in
    let tells : is_blank_or_comment words ≡ false = search rules in
    inr (first-bad (goal.at.returns-in-Err-clause-bad c).In_ok-words c.in-Err.fault (tells, inl fault))

pub returns-in-Some-2-clause-bad : goal.returns-in-Some-2-clause-bad
returns-in-Some-2-clause-bad c =
    let words = map (λ (w : Bor (List ℕ)). w.now) c.in_ok-words.words.items in
    let plan = c.in-Ok.plan in
    let was = c.loop-line.invariant in
    let before = map (λ (it : Bor (List ℕ)). it.now) c.loop-line.ids.keys in
    let some : Some c.in-Some-2.fault ≡ misplaced c.args.roles before plan.id.now (vec_len plan.players) = search rules in
    let here : IsPlanned c.args.strikes words plan = search rules in
    let good : word_fault words ≡ None = search rules in
    let tells : is_blank_or_comment words ≡ false = search rules in
    inr (first-bad (goal.at.returns-in-Some-2-clause-bad c).In_ok-words c.in-Some-2.fault
    (tells, inr (plan, good, here, inl (ap (λ (them : List (List ℕ)). misplaced c.args.roles them plan.id.now (vec_len plan.players)) (sym was.ids) ∙ sym some))))

pub returns-then-len-ge-MAX_SCHEDULED-clause-bad : goal.returns-then-len-ge-MAX_SCHEDULED-clause-bad
returns-then-len-ge-MAX_SCHEDULED-clause-bad c =
    let words = map (λ (w : Bor (List ℕ)). w.now) c.in_ok-words.words.items in
    let plan = c.in-Ok.plan in
    let was = c.loop-line.invariant in
    let before = map (λ (it : Bor (List ℕ)). it.now) c.loop-line.ids.keys in
    let none : None ≡ misplaced c.args.roles before plan.id.now (vec_len plan.players) = search rules in
    let here : IsPlanned c.args.strikes words plan = search rules in
    let good : word_fault words ≡ None = search rules in
    let tells : is_blank_or_comment words ≡ false = search rules in
    let full : length c.loop-line.plans.items ≡ 65536 = omega (arith, was.within) in
    inr (first-bad (goal.at.returns-then-len-ge-MAX_SCHEDULED-clause-bad c).In_ok-words TooMany
    (tells, inr (plan, good, here, inr (ap (λ (them : List (List ℕ)). misplaced c.args.roles them plan.id.now (vec_len plan.players)) (sym was.ids) ∙ sym none, refl, full))))

pub returns-clause-planned : goal.returns-clause-planned
returns-clause-planned c =
    let road = YieldsList-at c.into_iter-line-iterator.ensures.into_iter_gives
    (YieldsList-from_slice_split _ (λ b. b == line_feed) c.args.input.now c.split-line-items.ensures.rest c.split-line-items.ensures.done c.split-line-items.ensures.closure (search rules)) in
    let all = YieldsList-end road c.loop-line.yielded _ c.loop-line.yielded_by _ _ c.in-None.is c.next.ensures.steps in
    subst (λ (ls : List (List ℕ)). AllZip (IsPlanned c.args.strikes) (match_words ls) c.loop-line.plans.items) all.0 c.loop-line.invariant.planned
