-- The open answers of a match.
use Rattle.std.specs.Prelude.{ℕ, if◌then◌else◌, List, [], Option, All, IfSome, slice_index_or}
use Rattle.game_core.specs.Play.{Rules}
use Rattle.match_book.specs.Roles.{at_role}
use Rattle.match_book.specs.Judgement.{substitute}
use Rattle.match_book.specs.RoleStrikes.{is_retired_in}
use Rattle.match_book.specs.declared.judgement.Judgement.{Judgement}
use Rattle.match_book.specs.declared.judgement.Substitution.TheVariants.{Retired}
use Rattle.match_book.specs.declared.retirement.RoleStrikes.{RoleStrikes}

abbrev pub AreMoves : {S M : Type 0} → Rules S M → List (Option (Judgement M)) → Type 0
AreMoves g answers = All (λ o. IfSome o (λ j. g.IsMove j.taken)) answers

-- the role's part of the turn, according to its strikes
abbrev pub kept_part : {M : Type 0} → List (Option (Judgement M)) → List RoleStrikes → List (List M) → ℕ → Option (Judgement M)
kept_part answers strikes legal r = if is_retired_in strikes r then substitute (slice_index_or legal r []) Retired else at_role answers r
