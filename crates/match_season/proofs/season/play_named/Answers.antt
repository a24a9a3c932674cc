use Rattle.match_season.proofs.season.play_named.Goals as goal

pub invariant_of-season : goal.invariant_of-season
invariant_of-season g c = record { named = λ place text output. ∣ c.requires.named place text output ∣₁ }
