-- The text of a submission, piece by piece.
use Rattle.std.proofs.Common.{◌≡◌, ℕ, List, ◌∷◌, ◌++◌, codes, ap, sym, ◌∙◌, append_assoc, append-nil}
use Rattle.std.specs.Fmt.{decimal}
use Rattle.game_core.specs.Bytes.{space}
use Rattle.desk_calls.specs.declared.call.Call.TheVariants.{Submit}
use Rattle.desk_text.specs.Account.{call_text}
use Rattle.desk_text.specs.Escapes.{escaped_name, escaped_text}

appended : (out one two three four a b c d e : List ℕ) → one ≡ (out ++ a) ++ b → two ≡ one ++ c → three ≡ two ++ d → four ≡ three ++ e → four ≡ out ++ (a ++ (b ++ (c ++ (d ++ e))))
appended out one two three four a b c d e first second third last =
    rw (last, third, second, first) (append_assoc (((out ++ a) ++ b) ++ c) d e ∙ append_assoc ((out ++ a) ++ b) c (d ++ e) ∙ append_assoc (out ++ a) b (c ++ (d ++ e)) ∙ append_assoc out a (b ++ (c ++ (d ++ e))))

pub submit_text : (out with_id with_role with_round whole id : List ℕ) (role round : ℕ) (text : List ℕ)
    → with_id ≡ (out ++ codes "submit") ++ space ∷ escaped_name id → with_role ≡ with_id ++ space ∷ decimal role → with_round ≡ with_role ++ space ∷ decimal round → whole ≡ with_round ++ space ∷ escaped_text text
    → whole ≡ out ++ call_text (Submit id role round text)
submit_text out with_id with_role with_round whole id role round text first second third last =
    appended out with_id with_role with_round whole (codes "submit") (space ∷ escaped_name id) (space ∷ decimal role) (space ∷ decimal round) (space ∷ escaped_text text) first second third last
    ∙ ap (λ behind. out ++ (codes "submit" ++ (space ∷ (escaped_name id ++ (space ∷ (decimal role ++ (space ∷ (decimal round ++ (space ∷ behind))))))))) (sym (append-nil (escaped_text text)))
