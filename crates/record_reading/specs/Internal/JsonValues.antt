-- Values found in JSON.
use Rattle.std.specs.Prelude.{Option, option_map}
use Rattle.std.specs.Borrow.{Bor}
use Rattle.serde_json.specs.Data.{Data}
use Rattle.serde_json.specs.View.{view}
use Rattle.serde_json.specs.declared.value.Value.{Value}

-- the data of the value, if one was found
abbrev pub data_in : Option (Bor Value) → Option Data
data_in found = option_map (λ v. view v.now) found

-- the data of the value, if one was taken out
abbrev pub data_of : Option Value → Option Data
data_of found = option_map view found
