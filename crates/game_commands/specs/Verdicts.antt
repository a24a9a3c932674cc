-- The verdicts on lines of records, and their output.
use Rattle.std.specs.Prelude.{◌≡◌, ◌≢◌, ℕ, Bool, true, false, List, [], ◌∷◌, ◌++◌, codes, count_by, flat_map}
use Rattle.game_core.specs.Bytes.{line_feed}
use Rattle.game_core.specs.Play.{Rules}
use Rattle.match_record.specs.LawfulRecord.{IsLawfulRecord}
use Rattle.record_check.specs.Verified.{FailsFirst}
use Rattle.record_reading.specs.FaultText.{fault_text}
use Rattle.record_reading.specs.declared.verify_fault.VerifyFault.TheVariants.{Memory}
use Rattle.desk_text.specs.AccountLines.{is_account_line}
use Rattle.game_commands.specs.declared.verdicts.Verdict.{Verdict}
use Rattle.game_commands.specs.declared.verdicts.Verdict.TheVariants.{Lawful, Unlawful, Account}

-- The verdict on a line: the line has the form of a line of a call log, is a lawful record, or fails this check first.
abbrev pub IsVerdict : {S M : Type 0} → Rules S M → List ℕ → Verdict → Type 0
IsVerdict g text Account = is_account_line text ≡ true
IsVerdict g text Lawful = (is_account_line text ≡ false) × IsLawfulRecord g text
IsVerdict g text (Unlawful fault) = (is_account_line text ≡ false) × (fault ≢ Memory) × (¬ IsLawfulRecord g text) × FailsFirst g text fault

abbrev pub AreVerdicts : {S M : Type 0} → Rules S M → List (List ℕ) → List Verdict → Type 0
AreVerdicts g [] [] = Unit {0}
AreVerdicts g [] (verdict ∷ verdicts) = ⊥
AreVerdicts g (text ∷ texts) [] = ⊥
AreVerdicts g (text ∷ texts) (verdict ∷ verdicts) = IsVerdict g text verdict × AreVerdicts g texts verdicts

-- The output for a verdict, as JSON or in plain text. In plain text, the output for a line of a call log is empty.
abbrev pub verdict_line : Bool → Verdict → List ℕ
verdict_line false Lawful = codes "lawful" ++ line_feed ∷ []
verdict_line false (Unlawful fault) = codes "not lawful: " ++ fault_text fault ++ line_feed ∷ []
verdict_line false Account = []
verdict_line true Lawful = codes "{\"verdict\":\"lawful\"}\n"
verdict_line true (Unlawful fault) = codes "{\"verdict\":\"not_lawful\",\"fault\":\"" ++ (fault_text fault ++ codes "\"}\n")
verdict_line true Account = codes "{\"verdict\":\"skipped\"}\n"

abbrev pub verdict_lines : Bool → List Verdict → List ℕ
verdict_lines is_json verdicts = flat_map (verdict_line is_json) verdicts

abbrev pub is_unlawful : Verdict → Bool
is_unlawful (Unlawful fault) = true
is_unlawful verdict = false

-- the number of lines that are neither lawful records nor lines of call logs
abbrev pub count_unlawful : List Verdict → ℕ
count_unlawful verdicts = count_by is_unlawful verdicts

abbrev pub is_skipped : Verdict → Bool
is_skipped Account = true
is_skipped verdict = false

abbrev pub count_skipped : List Verdict → ℕ
count_skipped verdicts = count_by is_skipped verdicts
