-- The error of a command to players.
use Rattle.match_plans.specs.declared.shortages.Shortage.TheVariants.{Memory as MemoryShortage}
use Rattle.network_players.specs.declared.contacting.ContactFault.{ContactFault}
use Rattle.network_players.specs.declared.contacting.ContactFault.TheVariants.{Shortage as ContactShortage}
use Rattle.player_commands.specs.declared.fault.CommandFault.{CommandFault}
use Rattle.player_commands.specs.declared.fault.CommandFault.TheVariants.{Memory, NoAnswer, NotSent}

-- the error names the resource that the referee lacked; without such a resource, there is no answer
abbrev pub contact_fault : ContactFault → CommandFault
contact_fault (ContactShortage MemoryShortage) = Memory
contact_fault (ContactShortage shortage) = NotSent shortage
contact_fault fault = NoAnswer
