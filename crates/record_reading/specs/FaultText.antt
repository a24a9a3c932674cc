-- The text of a `VerifyFault`.
use Rattle.std.specs.Prelude.{ℕ, List, ◌++◌, codes}
use Rattle.std.specs.Fmt.{decimal}
use Rattle.record_reading.specs.RecordTree.{key_text}
use Rattle.record_reading.specs.declared.verify_fault.VerifyFault.{VerifyFault}
use Rattle.record_reading.specs.declared.verify_fault.VerifyFault.TheVariants.{NotJson, BadShape, Illegal, NotFirst, WrongRetired, WrongState, WrongGoals, WrongEnd, Memory}

-- a word and the numbers of a turn and a role
abbrev pub turn_and_role : List ℕ → ℕ → ℕ → List ℕ
turn_and_role word turn role = word ++ decimal turn ++ codes " " ++ decimal role

abbrev pub fault_text : VerifyFault → List ℕ
fault_text NotJson = codes "json"
fault_text (BadShape key) = codes "shape " ++ key_text key
fault_text (Illegal turn role) = turn_and_role (codes "illegal ") turn role
fault_text (NotFirst turn role) = turn_and_role (codes "notfirst ") turn role
fault_text (WrongRetired turn role) = turn_and_role (codes "retired ") turn role
fault_text (WrongState turn) = codes "state " ++ decimal turn
fault_text WrongGoals = codes "goals"
fault_text WrongEnd = codes "end"
fault_text Memory = codes "want of memory"
