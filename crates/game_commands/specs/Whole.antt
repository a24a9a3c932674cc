-- A whole input and a whole output.
use Rattle.std.specs.Prelude.{◌≡◌, ℕ, List, Option}
use Rattle.std.specs.Io.KnownBytes.{Consumes, Appends, IsAtEnd}
use Rattle.game_core.specs.Counting.{Counting}

-- the input was read to its end, the output was written whole, and no read or write failed
pub record ReadsAndWrites {R W : Type 0} (remaining : R → Option (List ℕ)) (contents : W → Option (List ℕ)) (input output : List ℕ) (reader reader' : Counting R) (writer writer' : Counting W) : Type 0 where
  pub read : Consumes (remaining reader.stream) (remaining reader'.stream) input
  pub ended : IsAtEnd (remaining reader'.stream)
  pub wrote : Appends (contents writer.stream) (contents writer'.stream) output
  pub no_read_fault : reader'.faults ≡ reader.faults
  pub no_write_fault : writer'.faults ≡ writer.faults
