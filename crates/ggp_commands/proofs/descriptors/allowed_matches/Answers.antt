use Rattle.std.proofs.Common.{rules, ◌≡◌, ◌-◌, ◌/◌, sym, ◌∙◌}
use Rattle.network_players.specs.Lookups.{lookup_descriptors}
use Rattle.ggp_commands.proofs.LargestNumbers.{largest_single}
use Rattle.ggp_commands.proofs.descriptors.allowed_matches.Goals as goal

pub returns-in_default : goal.returns-in_default
returns-in_default c =
    let is : c.in-Some.count ≡ (c.args.descriptors - 16 - lookup_descriptors c.args.descriptors) / c.args.players = search rules in
    let zero : c.in-Some.count ≡ 0 = search rules in
    largest_single c.args.descriptors c.args.players (λ _. sym is ∙ zero)
