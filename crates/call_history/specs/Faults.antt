-- The error of a wire for each error of its desk.
use Rattle.call_history.specs.declared.journal.CallFault.{CallFault}
use Rattle.call_history.specs.declared.journal.CallFault.TheVariants.{Full, Memory}
use Rattle.call_history.specs.declared.wire.AskFault.{AskFault}
use Rattle.call_history.specs.declared.wire.AskFault.TheVariants.{Full as AskFull, Memory as AskMemory}

abbrev pub ask_fault : CallFault → AskFault
ask_fault Full = AskFull
ask_fault Memory = AskMemory
