-- The text of a `submit` line is the unchanged rest of the line.
use Rattle.std.proofs.Common.{◌≡◌, ℕ, List, [], Option, Some, None, refl, ap, sym, Bor}
use Rattle.std.specs.Prelude.{option_copied, option_map, unwrap_or}
use Rattle.desk_calls.specs.declared.call.Call.TheVariants.{Submit}
use Rattle.desk_text.specs.declared.script_lines.Grammar.{Grammar}
use Rattle.desk_text.specs.Words.{spaced, words_behind}
use Rattle.desk_text.specs.ScriptLines.{round_words, submit_call}
use Rattle.desk_text.proofs.WordLemmas.{spaced_behind}

pub submitted : (g : Grammar) (id : List ℕ) (role round : ℕ) (behind : Option (List ℕ)) (text : List ℕ) (all : List (List ℕ))
    → Some (id, role, round, words_behind behind) ≡ round_words g all → text ≡ unwrap_or behind [] → Some (Submit id role round text) ≡ submit_call g all
submitted g id role round behind text all are said =
    rw (said, sym (spaced_behind behind)) (ap (option_map (λ w. Submit w.0 w.1 w.2 (spaced w.3))) are)

pub or_text : (text : Option (Bor (List ℕ))) (other : Bor (List ℕ)) → (unwrap_or text other).now ≡ unwrap_or (option_copied text) other.now
or_text None other = refl
or_text (Some found) other = refl
