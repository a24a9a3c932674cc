use Rattle.std.proofs.Common.{◌∙◌, ap, sym, length, arith}
use Rattle.std.specs.Prelude.{is_some}
use Rattle.std.specs.List.{list_all}
use Rattle.desk_calls.specs.Names.{is_name}
use Rattle.match_desk.specs.ManagerValue.{match_of}
use Rattle.match_desk.specs.Internal.AskedSetups.{asked_setup}
use Rattle.match_desk.proofs.OpenTests.{refused-used, refused-no_game, refused-wrong_players, refused-bad_name, refused-bad_clock, refused-bad_strikes, refused-full, refused-none}
use Rattle.match_desk.proofs.manager.Manager.open_refusal.Goals as goal

pub returns-then-has_match : goal.returns-then-has_match
returns-then-has_match g c =
    refused-used g.G.Game.rules c.args.self.now c.args.asked.now.game (asked_setup c.args.asked.now) (c.if-not-is_name.ensures ∙ ap is_name c.as_slice.ensures)
    (c.if-has_match.ensures ∙ ap (λ x. is_some (match_of c.args.self.now x)) c.as_slice-2.ensures)

pub returns-in_default : goal.returns-in_default
returns-in_default g c =
    refused-no_game g.G.Game.rules c.args.self.now c.args.asked.now.game (asked_setup c.args.asked.now) (c.if-not-is_name.ensures ∙ ap is_name c.as_slice.ensures)
    (c.if-has_match.ensures ∙ ap (λ x. is_some (match_of c.args.self.now x)) c.as_slice-2.ensures) c.in_default.ensures

pub returns-then-players-roles : goal.returns-then-players-roles
returns-then-players-roles g c =
    refused-wrong_players g.G.Game.rules c.args.self.now c.args.asked.now.game (asked_setup c.args.asked.now) (c.if-not-is_name.ensures ∙ ap is_name c.as_slice.ensures)
    (c.if-has_match.ensures ∙ ap (λ x. is_some (match_of c.args.self.now x)) c.as_slice-2.ensures) c.in-Some.game.now c.in-Some.ensures (λ e. c.if-players-roles.true (ap length c.as_slice-players.ensures ∙ (e ∙ sym c.roles.ensures)))

pub returns-then-not-are_names : goal.returns-then-not-are_names
returns-then-not-are_names g c =
    refused-bad_name g.G.Game.rules c.args.self.now c.args.asked.now.game (asked_setup c.args.asked.now) (c.if-not-is_name.ensures ∙ ap is_name c.as_slice.ensures)
    (c.if-has_match.ensures ∙ ap (λ x. is_some (match_of c.args.self.now x)) c.as_slice-2.ensures) c.in-Some.game.now c.in-Some.ensures (ap length (sym c.as_slice-players.ensures) ∙ (c.if-players-roles.false ∙ c.roles.ensures)) (c.if-not-are_names.ensures ∙ ap (list_all is_name) c.as_slice-players.ensures)

pub returns-then-not-are_clocks : goal.returns-then-not-are_clocks
returns-then-not-are_clocks g c =
    refused-bad_clock g.G.Game.rules c.args.self.now c.args.asked.now.game (asked_setup c.args.asked.now) (c.if-not-is_name.ensures ∙ ap is_name c.as_slice.ensures)
    (c.if-has_match.ensures ∙ ap (λ x. is_some (match_of c.args.self.now x)) c.as_slice-2.ensures) c.in-Some.game.now c.in-Some.ensures (ap length (sym c.as_slice-players.ensures) ∙ (c.if-players-roles.false ∙ c.roles.ensures)) (c.if-not-are_names.ensures ∙ ap (list_all is_name) c.as_slice-players.ensures) c.if-not-are_clocks.ensures

pub returns-then-not-is_strikes : goal.returns-then-not-is_strikes
returns-then-not-is_strikes g c =
    refused-bad_strikes g.G.Game.rules c.args.self.now c.args.asked.now.game (asked_setup c.args.asked.now) (c.if-not-is_name.ensures ∙ ap is_name c.as_slice.ensures)
    (c.if-has_match.ensures ∙ ap (λ x. is_some (match_of c.args.self.now x)) c.as_slice-2.ensures) c.in-Some.game.now c.in-Some.ensures (ap length (sym c.as_slice-players.ensures) ∙ (c.if-players-roles.false ∙ c.roles.ensures)) (c.if-not-are_names.ensures ∙ ap (list_all is_name) c.as_slice-players.ensures) c.if-not-are_clocks.ensures c.if-not-is_strikes.ensures

pub returns-then-matches-ge-MAX_MATCHES : goal.returns-then-matches-ge-MAX_MATCHES
returns-then-matches-ge-MAX_MATCHES g c =
    refused-full g.G.Game.rules c.args.self.now c.args.asked.now.game (asked_setup c.args.asked.now) (c.if-not-is_name.ensures ∙ ap is_name c.as_slice.ensures)
    (c.if-has_match.ensures ∙ ap (λ x. is_some (match_of c.args.self.now x)) c.as_slice-2.ensures) c.in-Some.game.now c.in-Some.ensures (ap length (sym c.as_slice-players.ensures) ∙ (c.if-players-roles.false ∙ c.roles.ensures)) (c.if-not-are_names.ensures ∙ ap (list_all is_name) c.as_slice-players.ensures) c.if-not-are_clocks.ensures c.if-not-is_strikes.ensures (omega arith)

pub returns : goal.returns
returns g c =
    refused-none g.G.Game.rules c.args.self.now c.args.asked.now.game (asked_setup c.args.asked.now) (c.if-not-is_name.ensures ∙ ap is_name c.as_slice.ensures)
    (c.if-has_match.ensures ∙ ap (λ x. is_some (match_of c.args.self.now x)) c.as_slice-2.ensures) c.in-Some.game.now c.in-Some.ensures (ap length (sym c.as_slice-players.ensures) ∙ (c.if-players-roles.false ∙ c.roles.ensures)) (c.if-not-are_names.ensures ∙ ap (list_all is_name) c.as_slice-players.ensures) c.if-not-are_clocks.ensures c.if-not-is_strikes.ensures (omega arith)
