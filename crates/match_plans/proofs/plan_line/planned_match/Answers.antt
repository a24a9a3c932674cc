use Rattle.std.proofs.Common.{◌∙◌, [], ℕ, List, Bor, None, Some, true, false, map, ap, refl, sym}
use Rattle.std.specs.Result.{result_err}
use Rattle.std.proofs.lemmas.Str.{is_utf8-from_IsUtf8}
use Rattle.match_plans.specs.Schedules.{player_fault}
use Rattle.match_plans.proofs.Words.{long-enough, no-utf8, rest-is, too-short}
use Rattle.match_plans.proofs.plan_line.planned_match.Goals as goal

pub returns-in_default-clause-fault : goal.returns-in_default-clause-fault
returns-in_default-clause-fault c = too-short c.args.words.now c.in_default.len_below

pub returns-in_default-from_utf8-clause-fault : goal.returns-in_default-from_utf8-clause-fault
returns-in_default-from_utf8-clause-fault c =
    long-enough c.args.words.now (record { ref_ptr = (0, 0); now = [] }) false _ _ _ c.in-len4-up.len_at_least (no-utf8 _ c.in_default-from_utf8.ensures.cases.0) refl refl refl

pub returns-in_default-clock-clause-fault : goal.returns-in_default-clock-clause-fault
returns-in_default-clock-clause-fault c =
    long-enough c.args.words.now (record { ref_ptr = (0, 0); now = [] }) true None _ _ c.in-len4-up.len_at_least (is_utf8-from_IsUtf8 _ c.in-Ok.ensures.cases.1) c.in_default-clock.ensures refl refl

pub returns-in_default-clock-2-clause-fault : goal.returns-in_default-clock-2-clause-fault
returns-in_default-clock-2-clause-fault c =
    long-enough c.args.words.now (record { ref_ptr = (0, 0); now = [] }) true (Some c.in-Some.start) None _ c.in-len4-up.len_at_least (is_utf8-from_IsUtf8 _ c.in-Ok.ensures.cases.1) c.in-Some.ensures c.in_default-clock-2.ensures refl

pub returns-in-Err-clause-fault : goal.returns-in-Err-clause-fault
returns-in-Err-clause-fault c =
    let words = c.args.words.now in
    let others = sym (ap result_err c.in-Err.is) ∙ c.in_ok-players.ensures.fault ∙ ap (λ (ws : List (Bor (List ℕ))). player_fault 4 (map (λ w. w.now) ws)) (rest-is words) in
    long-enough words (record { ref_ptr = (0, 0); now = [] }) true (Some c.in-Some.start) (Some c.in-Some-clock.play) (Some c.in-Err.fault) c.in-len4-up.len_at_least (is_utf8-from_IsUtf8 _ c.in-Ok.ensures.cases.1) c.in-Some.ensures c.in-Some-clock.ensures others

pub returns-clause-fault : goal.returns-clause-fault
returns-clause-fault c =
    let words = c.args.words.now in
    let others = sym (ap result_err c.in-Ok-2.is) ∙ c.in_ok-players.ensures.fault ∙ ap (λ (ws : List (Bor (List ℕ))). player_fault 4 (map (λ w. w.now) ws)) (rest-is words) in
    long-enough words (record { ref_ptr = (0, 0); now = [] }) true (Some c.in-Some.start) (Some c.in-Some-clock.play) None c.in-len4-up.len_at_least (is_utf8-from_IsUtf8 _ c.in-Ok.ensures.cases.1) c.in-Some.ensures c.in-Some-clock.ensures others
