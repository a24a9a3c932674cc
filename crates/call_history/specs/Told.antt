-- The events that a value shows to contracts: a list that grows at its end, or None if the value shows nothing.
use Rattle.std.specs.Prelude.{List, ◌++◌, Option, option_map}

-- the shown events, followed by these
abbrev pub told_with : {A : Type 0} → Option (List A) → List A → Option (List A)
told_with told xs = option_map (λ before. before ++ xs) told
