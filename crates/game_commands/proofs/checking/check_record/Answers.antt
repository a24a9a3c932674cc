use Rattle.std.proofs.Common.{rules, ◌≡◌, ◌≢◌, ◌≤◌, Bool, true, List, ℕ, length, inl, inr}
use Rattle.std.specs.Io.KnownBytes.{Consumes, IsAtEnd}
use Rattle.std.specs.Prelude.{Option}
use Rattle.game_core.specs.Counting.{Counting}
use Rattle.game_core.specs.Play.{Rules}
use Rattle.match_record.specs.LawfulRecord.{IsLawfulRecord}
use Rattle.record_check.specs.Verified.{FailsFirst}
use Rattle.record_reading.specs.declared.verify_fault.VerifyFault.{VerifyFault}
use Rattle.record_reading.specs.declared.verify_fault.VerifyFault.TheVariants.{Memory}
use Rattle.command_faults.specs.declared.fault.Fault.{Fault}
use Rattle.game_commands.specs.declared.verdicts.Verdict.{Verdict}
use Rattle.game_commands.specs.declared.verdicts.Verdict.TheVariants.{Unlawful}
use Rattle.game_commands.specs.Checks.{CheckFails, IsNotWritten, IsWritten, TellsFault, max_record}
use Rattle.game_commands.proofs.checking.check_record.Goals as goal

not_written : {S M R W : Type 0} (remaining : R → Option (List ℕ)) (contents : W → Option (List ℕ)) (is_json : Bool) (g : Rules S M) (text : List ℕ) (reader reader' : Counting R) (writer writer' : Counting W) (verdict : Verdict) (told : Fault)
    → length text ≤ max_record → reader'.faults ≡ reader.faults → IsAtEnd (remaining reader'.stream) → IsWritten is_json g text verdict → IsNotWritten contents is_json verdict told writer writer'
    → CheckFails remaining contents is_json g told text reader reader' writer writer'
not_written remaining contents is_json g text reader reader' writer writer' verdict told short read ended written (inl short_of) = rw short_of.0 (short, read, short_of.1)
not_written remaining contents is_json g text reader reader' writer writer' verdict told short read ended written (inr part) =
    rw part.0 (read, part.1, ended, (verdict, part.2.0, written, part.2.1, part.2.2))

check_fails : {S M R W : Type 0} (remaining : R → Option (List ℕ)) (contents : W → Option (List ℕ)) (is_json : Bool) (g : Rules S M) (text : List ℕ) (reader reader' : Counting R) (writer writer' : Counting W) (fault : VerifyFault) (told : Fault)
    → length text ≤ max_record → reader'.faults ≡ reader.faults → IsAtEnd (remaining reader'.stream) → (¬ IsLawfulRecord g text) → FailsFirst g text fault → TellsFault contents is_json fault told writer writer'
    → CheckFails remaining contents is_json g told text reader reader' writer writer'
check_fails remaining contents is_json g text reader reader' writer writer' fault told short read ended unlawful first (inl is) = rw is.0 (short, read, is.1, ended, unlawful, first)
check_fails remaining contents is_json g text reader reader' writer writer' fault told short read ended unlawful first (inr part) =
    rw part.0 (not_written remaining contents true g text reader reader' writer writer' (Unlawful fault) told short read ended (unlawful, first) part.1)

pub returns-in-NotJson : goal.returns-in-NotJson
returns-in-NotJson g c =
    let text = c.deref.result.now in
    let reader' = c.read_to_end.new.reader in
    let given : Consumes (g.R.Read.remaining c.args.reader.now.stream) (g.R.Read.remaining reader'.stream) text = search rules in
    let short : length text ≤ max_record = search rules in
    let read : reader'.faults ≡ c.args.reader.now.faults = search rules in
    let ended : IsAtEnd (g.R.Read.remaining reader'.stream) = search rules in
    record {
      lawful = tt;
      no_fault = tt;
      fails = (
        text,
        given,
        check_fails g.R.Read.remaining g.W.Write.contents c.args.is_json (g.G.Game.rules c.args.game.now) text c.args.reader.now reader' c.args.writer.now c.write_unlawful-told.new.writer c.in-Err.fault c.write_unlawful-told.result
            short read ended (c.in-Err.ensures.refused (λ same. absurd cc)) c.in-Err.ensures.first c.write_unlawful-told.ensures,
      );
    }

pub returns-in_default : goal.returns-in_default
returns-in_default g c =
    let text = c.deref.result.now in
    let reader' = c.read_to_end.new.reader in
    let given : Consumes (g.R.Read.remaining c.args.reader.now.stream) (g.R.Read.remaining reader'.stream) text = search rules in
    let short : length text ≤ max_record = search rules in
    let read : reader'.faults ≡ c.args.reader.now.faults = search rules in
    let ended : IsAtEnd (g.R.Read.remaining reader'.stream) = search rules in
    let some : c.in-Err.fault ≢ Memory = search rules in
    record {
      lawful = tt;
      no_fault = tt;
      fails = (
        text,
        given,
        check_fails g.R.Read.remaining g.W.Write.contents c.args.is_json (g.G.Game.rules c.args.game.now) text c.args.reader.now reader' c.args.writer.now c.write_unlawful-told.new.writer c.in-Err.fault c.write_unlawful-told.result
            short read ended (c.in-Err.ensures.refused some) c.in-Err.ensures.first c.write_unlawful-told.ensures,
      );
    }
