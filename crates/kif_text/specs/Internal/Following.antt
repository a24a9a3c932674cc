-- How the reader's fields correspond to a state of the machine, and the reader's functions to those of the machine.
use Rattle.std.specs.Prelude.{◌≡◌, ℕ, suc, List, [], ◌∷◌, reverse, map, Result, Ok, Err}
use Rattle.game_core.specs.Expression.{Expressions}
use Rattle.kif_text.specs.Machine.{Open, State, with_word, flushed, count_of}
use Rattle.kif_text.specs.View.{views}
use Rattle.kif_text.specs.declared.fault.KifFault.{KifFault}
use Rattle.kif_text.specs.declared.fault.KifFault.TheVariants as faults
use Rattle.kif_text.specs.declared.reader.OpenList.{OpenList}
use Rattle.kif_text.specs.declared.reader.Reader.{Reader}

abbrev pub open_of : OpenList → Open
open_of l = record { before = views l.before.items; at = l.at }

abbrev pub state_of : Reader → State
state_of r = record { levels = reverse (map open_of r.levels.items); here = views r.here.items; word = r.word.items; comment = r.in_comment }

abbrev pub flush : State → Result State KifFault
flush s = Ok (flushed s)

abbrev pub outermost : Open → List Open → ℕ
outermost l [] = count_of l.before
outermost l (m ∷ ms) = outermost m ms

-- how many expressions have begun outside all lists
abbrev pub total_on : List Open → Expressions → List ℕ → ℕ
total_on [] here word = count_of (with_word here word)
total_on (l ∷ ls) here word = suc (outermost l ls)

abbrev pub total : State → ℕ
total s = total_on s.levels s.here s.word

-- the result is this error, or out of memory
abbrev pub Fails : {Y : Type 0} → KifFault → Result Y KifFault → Type 0
Fails faults.Memory r = Unit {0}
Fails e r = r ≡ Err e

-- a step of the reader gives the machine's state, or fails as the machine does
abbrev pub Reaches : Result (Unit {0}) KifFault → State → Result State KifFault → Type 0
Reaches (Ok u) new r = r ≡ Ok new
Reaches (Err e) new r = Fails e r

-- a function of the reader returns the machine's value, or fails as the machine does
abbrev pub Gives : {X Y : Type 0} → (X → Y) → Result X KifFault → Result Y KifFault → Type 0
Gives view (Ok x) r = r ≡ Ok (view x)
Gives view (Err e) r = Fails e r
