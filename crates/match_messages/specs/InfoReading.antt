-- How an answer to INFO is read.
use Rattle.std.specs.Prelude.{ℕ, Bool, false, if◌then◌else◌, List, Option, Some, None, option_map, unwrap_or, bytes_eq, codes}
use Rattle.std.specs.Option.{option_or}
use Rattle.game_core.specs.Expression.{Expression, atom, list, Expressions, none, more, folded}
use Rattle.kif_text.specs.Reading.{reading}
use Rattle.match_messages.specs.declared.info.Info.{Info}
use Rattle.match_messages.specs.declared.info.Info.TheVariants.{Available, Ready, Busy, Unknown}

-- All expressions below are in lower case.

abbrev pub status_named : Expression → Info
status_named (atom word) = if bytes_eq word (codes "available") then Available
    else (if bytes_eq word (codes "ready") then Ready
    else (if bytes_eq word (codes "busy") then Busy
    else Unknown))
status_named (list xs) = Unknown

-- the atom `status`
abbrev pub is_key : Expression → Bool
is_key (atom word) = bytes_eq word (codes "status")
is_key (list xs) = false

-- the status S if the members are `status S`, otherwise None
abbrev pub status_pair : Expressions → Option Info
status_pair (more key (more status none)) = if is_key key then Some (status_named status) else None
status_pair _ = None

abbrev pub status_member : Expression → Option Info
status_member (atom word) = None
status_member (list members) = status_pair members

-- the status of the first member of the form `(status S)`
abbrev pub first_status : Expressions → Option Info
first_status none = None
first_status (more x xs) = option_or (status_member x) (first_status xs)

abbrev pub info_in : Expression → Info
info_in (atom word) = status_named (atom word)
info_in (list xs) = unwrap_or (first_status xs) Unknown

-- the status in a text that is one expression; for any other text `Unknown`
abbrev pub info_reading : List ℕ → Info
info_reading text = unwrap_or (option_map (λ x. info_in (folded x)) (reading text)) Unknown
