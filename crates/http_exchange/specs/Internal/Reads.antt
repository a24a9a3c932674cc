-- The effect of one read.
use Rattle.std.specs.Prelude.{◌≡◌, ◌≢◌, ℕ, ◌≤◌, Bool, List, ◌++◌, Option}
use Rattle.std.specs.declared.io.ErrorKind.TheVariants.{Interrupted}
use Rattle.std.specs.Io.KnownBytes.{Consumes, Keeps}
use Rattle.game_core.specs.Counting.{Counting, one_more}
use Rattle.http_exchange.specs.Exchange.{Gives}
use Rattle.http_exchange.specs.WireFaults.{HasFailed}
use Rattle.http_exchange.specs.declared.wire_fault.WireFault.{WireFault}
use Rattle.http_exchange.specs.declared.wire_fault.WireFault.TheVariants.{ReadFault, Memory}

-- the stored bytes grew by the bytes of one read
pub record Grows {S : Type 0} (old new : Option (List ℕ)) (held now : List ℕ) (ended : Bool) (before after : Counting S) : Type 0 where
  pub given : List ℕ
  pub gives : Gives old new given ended
  pub grew : now ≡ held ++ given
  pub called : after.calls ≡ one_more before.calls
  pub kept : before.faults ≤ after.faults

abbrev pub ReadsOnce : {S : Type 0} → (S → Option (List ℕ)) → Counting S → Counting S → List ℕ → List ℕ → Bool → Type 0
ReadsOnce remaining old new held now ended =
    Grows (remaining old.stream) (remaining new.stream) held now ended old new

-- why a read failed
abbrev pub ReadOnceStops : {S : Type 0} → WireFault → Option (List ℕ) → Option (List ℕ) → Counting S → Counting S → Type 0
ReadOnceStops (ReadFault cause) old new before after =
    (cause ≢ Interrupted) × Keeps old new × HasFailed before.faults after.faults
ReadOnceStops Memory old new before after = (given : List ℕ) × Consumes old new given
ReadOnceStops fault old new before after = ⊥

abbrev pub ReadOnceFails : {S : Type 0} → (S → Option (List ℕ)) → Counting S → Counting S → WireFault → Type 0
ReadOnceFails remaining old new fault = ReadOnceStops fault (remaining old.stream) (remaining new.stream) old new
