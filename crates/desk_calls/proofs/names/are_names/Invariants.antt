use Rattle.std.proofs.Common.{◌≡◌, drop}
use Rattle.std.specs.List.{list_all}
use Rattle.desk_calls.specs.Names.{is_name}
use Rattle.desk_calls.proofs.names.are_names.Given as goal

abbrev pub invariant-loop-text : goal.invariant-loop-text
invariant-loop-text l = list_all is_name (drop l.text-index l.texts) ≡ list_all is_name l.texts
