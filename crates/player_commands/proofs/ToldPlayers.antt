-- The lines about players that got ABORT one after another.
use Rattle.std.proofs.Common.{◌≡◌, ◌<◌, ◌+◌, ◌∙◌, ◌∷◌, ◌++◌, ◌&&◌, [], ℕ, Bool, true, false, List, Option, append-nil, ap, get_or, length, map, refl, subst, sym, take}
use Rattle.std.proofs.KnownBytes.{Appends-nil, Appends-trans}
use Rattle.std.proofs.lemmas.Bool.{false≢true}
use Rattle.std.proofs.lemmas.Grind.{flat_map-append}
use Rattle.std.proofs.lemmas.List.{map-append, take_more}
use Rattle.std.proofs.lemmas.List.Folds.{list_all-append}
use Rattle.std.specs.Io.KnownBytes.{Appends}
use Rattle.std.specs.List.{flat_map, list_all}
use Rattle.match_plans.specs.declared.addresses.PlayerAddress.{PlayerAddress}
use Rattle.player_commands.specs.Lines.{TellsAnswers, abort_line, aborted_lines}

and_true : (b : Bool) → (b && true) ≡ b
and_true true = refl
and_true false = refl

abbrev line : Bool → PlayerAddress × Bool → List ℕ
line is_json it = abort_line is_json it.0.name.now it.1

pub told_none : (is_json : Bool) (old : Option (List ℕ)) → TellsAnswers is_json [] true old old
told_none is_json old = record { told = []; are_told = refl; answered = refl; written = Appends-nil old }

told_more : (is_json : Bool) (players : List PlayerAddress) (player : PlayerAddress) (before answered : Bool) (a b c : Option (List ℕ))
    → TellsAnswers is_json players before a b → Appends b c (abort_line is_json player.name.now answered) → TellsAnswers is_json (players ++ player ∷ []) (before && answered) a c
told_more is_json players player before answered a b c first more = record {
  told = first.told ++ (player, answered) ∷ [];
  are_told = map-append (λ it. it.0) first.told ((player, answered) ∷ []) ∙ ap (λ l. l ++ player ∷ []) first.are_told;
  answered = list_all-append (λ it. it.1) first.told ((player, answered) ∷ []) ∙ (ap (λ b. b && (answered && true)) first.answered ∙ ap (λ b. before && b) (and_true answered));
  written = subst (Appends a c) (sym (flat_map-append (line is_json) first.told ((player, answered) ∷ []) ∙ ap (λ l. flat_map (line is_json) first.told ++ l) (append-nil (line is_json (player, answered)))))
      (Appends-trans a b c (flat_map (line is_json) first.told) (line is_json (player, answered)) first.written more);
}

pub told_next : (is_json : Bool) (players : List PlayerAddress) (at : ℕ) (d : PlayerAddress) (before answered : Bool) (a b c : Option (List ℕ)) → at < length players
    → TellsAnswers is_json (take at players) before a b → Appends b c (abort_line is_json (get_or players at d).name.now answered) → TellsAnswers is_json (take (at + 1) players) (before && answered) a c
told_next is_json players at d before answered a b c within first more =
    subst (λ them. TellsAnswers is_json them (before && answered) a c) (sym (take_more players at d within)) (told_more is_json (take at players) (get_or players at d) before answered a b c first more)

all_lines : (is_json : Bool) (told : List (PlayerAddress × Bool)) → list_all (λ it. it.1) told ≡ true → flat_map (line is_json) told ≡ aborted_lines is_json (map (λ it. it.0) told)
all_lines is_json [] all = refl
all_lines is_json ((player, true) ∷ told) all = ap (λ l. abort_line is_json player.name.now true ++ l) (all_lines is_json told all)
all_lines is_json ((player, false) ∷ told) all = absurd (false≢true all)

pub told_all : (is_json : Bool) (players : List PlayerAddress) (a b : Option (List ℕ)) → TellsAnswers is_json players true a b → Appends a b (aborted_lines is_json players)
told_all is_json players a b each = subst (Appends a b) (all_lines is_json each.told each.answered ∙ ap (aborted_lines is_json) each.are_told) each.written
