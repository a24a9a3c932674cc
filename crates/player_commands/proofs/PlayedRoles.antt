-- The rows of the match of one role.
use Rattle.std.proofs.Common.{◌≡◌, ℕ, List, subst}
use Rattle.match_plans.specs.declared.plan.CheckPlan.{CheckPlan}
use Rattle.match_plans.specs.declared.plan.MatchPlan.{MatchPlan}
use Rattle.player_commands.specs.declared.role_turns.RoleTurn.{RoleTurn}
use Rattle.player_commands.specs.Checks.{IsToldOf}
use Rattle.player_commands.specs.Rows.{bad_answers}
use Rattle.player_commands.specs.Seats.{IsPlanFor}
use Rattle.player_commands.specs.Tables.{AreRows}
use Rattle.player_commands.specs.declared.watched.Exchange.{Exchange}

pub planned-for : (plan : CheckPlan) (id it : List ℕ) (role roles number : ℕ) (made : MatchPlan) → id ≡ it → roles ≡ number → IsPlanFor plan id role roles made → IsPlanFor plan it role number made
planned-for plan id it role roles number made same as-many planned = subst (λ (n : ℕ). IsPlanFor plan it role n made) as-many (subst (λ (x : List ℕ). IsPlanFor plan x role roles made) same planned)

pub told-of : (T : List RoleTurn → Type 0) (name role : List ℕ) (exchanges : List Exchange) (lent turns : List RoleTurn) (rows : List ℕ) (bad : ℕ) → name ≡ role → lent ≡ turns → T turns → AreRows name exchanges lent rows
    → bad ≡ bad_answers exchanges lent → IsToldOf T role rows bad
told-of T name role exchanges lent turns rows bad named same are-turns are-rows is-bad = record {
  exchanges = exchanges;
  turns = turns;
  are_turns = are-turns;
  are_rows = subst (λ (them : List RoleTurn). AreRows role exchanges them rows) same (subst (λ (x : List ℕ). AreRows x exchanges lent rows) named are-rows);
  is_bad = subst (λ (them : List RoleTurn). bad ≡ bad_answers exchanges them) same is-bad;
}
