-- The plan of the match that checks the player in a given role.
use Rattle.std.specs.Prelude.{◌≡◌, ◌≢◌, ℕ, ◌<◌, List, length, codes, HoldsAt}
use Rattle.match_plans.specs.declared.addresses.PlayerAddress.{PlayerAddress}
use Rattle.match_plans.specs.declared.plan.CheckPlan.{CheckPlan}
use Rattle.match_plans.specs.declared.plan.MatchPlan.{MatchPlan}

abbrev pub nobody : List ℕ
nobody = codes "nobody"

-- the checked player has this role, and the player of every other role is named `nobody`
pub record AreSeated (player : PlayerAddress) (role roles : ℕ) (players : List PlayerAddress) : Type 0 where
  pub count : length players ≡ roles
  pub seat : role < roles → HoldsAt (λ it. it ≡ player) players role
  pub others : (place : ℕ) → place < roles → place ≢ role → HoldsAt (λ it. it.name.now ≡ nobody) players place

-- the match has this id, and the clocks and strikes of the check
pub record IsPlanFor (plan : CheckPlan) (id : List ℕ) (role roles : ℕ) (made : MatchPlan) : Type 0 where
  pub id_of : made.id.now ≡ id
  pub start : made.start ≡ plan.start
  pub play : made.play ≡ plan.play
  pub strikes : made.strikes ≡ plan.strikes
  pub players : AreSeated plan.player role roles made.players.items
