-- The setup that an `Open` carries.
use Rattle.desk_calls.specs.declared.setup.Setup.{Setup}
use Rattle.match_desk.specs.Steps.{setup_of}
use Rattle.match_desk.specs.declared.asked_setup.AskedSetup.{AskedSetup}
use Rattle.desk_calls.specs.declared.call.Call.{Call}
use Rattle.desk_calls.specs.declared.call.Call.TheVariants.{Open, Next, Submit, Miss, Query, Abort}

abbrev pub asked_setup : AskedSetup → Setup
asked_setup asked = setup_of asked.id.now asked.start asked.play asked.strikes asked.players.now

abbrev pub IsOpen : Call → Type 0
IsOpen (Open id game start play strikes players) = Unit {0}
IsOpen (Next id role) = ⊥
IsOpen (Submit id role round text) = ⊥
IsOpen (Miss id role round broken) = ⊥
IsOpen (Query id) = ⊥
IsOpen (Abort id) = ⊥
