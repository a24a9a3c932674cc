-- The results of loading.
use Rattle.std.specs.Prelude.{ℕ, ◌≡◌, ◌≢◌, true, false, List, [], length}
use Rattle.game_core.specs.Expression.{Expression}
use Rattle.game_core.specs.declared.limits.Limits.{Limits}
use Rattle.rule_sentences.specs.declared.fault.LoadFault.{LoadFault}
use Rattle.rule_sentences.specs.declared.fault.LoadFault.TheVariants.{Variable, BadForm, Misplaced, NoRole, RoleTwice, TooLarge, Cyclic, Depends, Memory}
use Rattle.rule_sentences.specs.Descriptions.{Description, role_names, are_different}
use Rattle.rule_sentences.specs.Sizes.{is_small}
use Rattle.rule_sentences.specs.SentenceFaults.{description_of, AreSentences, IsSentenceFault}
use Rattle.ground_rules.specs.Acyclic.{IsAcyclic}
use Rattle.ground_rules.specs.Dependence.{HasBarredHead}

-- the description has roles, and their names are different
pub record HasRoles (d : Description) : Type 0 where
  pub some' : role_names d ≢ []
  pub differ : are_different (role_names d) ≡ true

-- the first error of a description with this number of sentences within these limits
abbrev pub IsDescriptionFault : Limits → ℕ → Description → LoadFault → Type 0
IsDescriptionFault limits n d NoRole = role_names d ≡ []
IsDescriptionFault limits n d RoleTwice = (role_names d ≢ []) × (are_different (role_names d) ≡ false)
IsDescriptionFault limits n d TooLarge = HasRoles d × (is_small limits n d ≡ false)
IsDescriptionFault limits n d Cyclic = HasRoles d × (is_small limits n d ≡ true) × ¬ (IsAcyclic d)
IsDescriptionFault limits n d Depends = HasRoles d × (is_small limits n d ≡ true) × IsAcyclic d × HasBarredHead d
IsDescriptionFault limits n d Memory = Unit {0}
IsDescriptionFault limits n d (Variable i) = ⊥
IsDescriptionFault limits n d (BadForm i) = ⊥
IsDescriptionFault limits n d (Misplaced i) = ⊥

-- a description with this number of sentences has no error within these limits
pub record IsSound (limits : Limits) (n : ℕ) (d : Description) : Type 0 where
  pub roles : HasRoles d
  pub small : is_small limits n d ≡ true
  pub acyclic : IsAcyclic d
  pub independent : ¬ (HasBarredHead d)

-- the first error of expressions within these limits; the expressions are in lower case
abbrev pub IsLoadFault : Limits → List Expression → LoadFault → Type 0
IsLoadFault limits xs (Variable i) = IsSentenceFault xs (Variable i)
IsLoadFault limits xs (BadForm i) = IsSentenceFault xs (BadForm i)
IsLoadFault limits xs (Misplaced i) = IsSentenceFault xs (Misplaced i)
IsLoadFault limits xs Memory = Unit {0}
IsLoadFault limits xs e = AreSentences xs × IsDescriptionFault limits (length xs) (description_of xs) e
