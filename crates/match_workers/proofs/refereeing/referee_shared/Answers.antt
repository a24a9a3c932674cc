use denote.Exit.{yes}
use denote.Param.Send.{param_send, arg_send}
use Rattle.match_workers.proofs.Sent.{manager_send}
use Rattle.std.proofs.Common.{◌≡◌, ◌∙◌, ◌+◌, ◌<◌, ◌++◌, ◌∷◌, [], All, length, refl, sym, ap, subst, arith}
use Rattle.std.proofs.lemmas.Result.{err_from_is_err_and}
use Rattle.match_desk.specs.Headline.{HasHeadline}
use Rattle.match_desk.specs.ManagerValue.{opening}
use Rattle.match_desk.specs.Open.{open_refusal}
use Rattle.desk_calls.specs.declared.call.Reply.TheVariants.{Opened}
use Rattle.match_messages.specs.BriefValue.{BriefValue}
use Rattle.match_workers.specs.Briefs.{IsBriefOf}
use Rattle.match_workers.specs.LineParts.{open_call, OpensMatch, AreRoleLines}
use Rattle.match_workers.specs.OneMatch.{HasOneMatch}
use Rattle.match_workers.specs.RefereeFaults.{reason_of}
use Rattle.match_workers.specs.Refusals.{manager_of}
use Rattle.match_workers.proofs.NewLines.{seats_of_ports}
use Rattle.match_workers.proofs.LineParts.{opens_match, ends_of, as_many, role_lines}
use Rattle.match_workers.proofs.OneMatch.{one_match, length-one}
use Rattle.match_workers.proofs.refereeing.referee_shared.Goals as goal
use Rattle.match_workers.proofs.refereeing.referee_shared.Goals.{In_ok-closed}

pub attend_match-requires-clause-first : goal.attend_match-requires-clause-first
attend_match-requires-clause-first g c κs within =
    let opened = c.in_ok-holder.ensures in
    let first = c.new_lines_are_lines.ensures.lines c.in_ok-holder.holder.desk.ports 0 c.in_ok-holder.holder.line (omega (arith, opened.desk)) opened.first in
    c.lines_stay.ensures.lines c.in_ok-holder.holder.desk.ports c.open_match.new.holder.desk.ports c.in_ok-holder.holder.line c.open_match.new.holder.line c.open_match.ensures.ports c.open_match.ensures.line first

pub attend_match-requires-clause-seats : goal.attend_match-requires-clause-seats
attend_match-requires-clause-seats g c κs within =
    let opened = c.in_ok-holder.ensures in
    seats_of_ports c.new_lines_are_lines.ensures.stay c.in_ok-holder.holder.desk.ports c.open_match.new.holder.desk.ports c.in_ok-holder.others.items c.open_match.ensures.ports (omega (arith, opened.desk, opened.one_each)) opened.seats

pub attend_match-requires-clause-ports : goal.attend_match-requires-clause-ports
attend_match-requires-clause-ports g c κs within = omega (arith, c.in_ok-holder.ensures.desk, c.in_ok-holder.ensures.one_each, c.open_match.ensures.ports.count)

pub close_match-requires : goal.close_match-requires
close_match-requires g c = record { lines = c.in_ok-desk.ensures.lines }

lines_are : (g : _) (c : In_ok-closed g) → length c.in_ok-desk.field-0.desk.ports ≡ (g.G.Game.rules c.args.game).roles + 1
lines_are g c = c.in_ok-desk.ensures.ports.count ∙ c.open_match.ensures.ports.count ∙ c.in_ok-holder.ensures.desk

headline_is : (g : _) (c : In_ok-closed g)
    → HasHeadline g.G.Game.rules ((g.G.Game.rules c.args.game).roles + 1) c.in_ok-closed.closed.object c.in_ok-closed.closed.history.items c.in_ok-closed.closed.made_by_line.items
headline_is g c = subst (λ n. HasHeadline g.G.Game.rules n c.in_ok-closed.closed.object c.in_ok-closed.closed.history.items c.in_ok-closed.closed.made_by_line.items) (lines_are g c) c.in_ok-closed.ensures.headline

begins_with : (g : _) (c : In_ok-closed g) → opening c.in_ok-closed.closed.object ≡ manager_of c.args.game
begins_with g c = ap (λ gs. record { games = gs; matches = [] })
    (c.in_ok-closed.ensures.games ∙ ap (λ d. d.games) c.in_ok-desk.ensures.opening ∙ c.open_match.ensures.games ∙ c.in_ok-holder.ensures.games)

as_roles : (g : _) (c : In_ok-closed g) → length c.in_ok-desk.field-0.ends.items ≡ (g.G.Game.rules c.args.game).roles
as_roles g c =
    let played = c.in_ok-desk.field-0 in
    as_many g.P.Player.handed c.brief_of-brief.result c.args.tries c.args.players.items played.players.items c.in_ok-closed.closed.history.items played.lines.items played.ends.items c.in_ok-desk.ensures.ends
    c.in_ok-closed.ensures.calls c.in_ok-closed.ensures.replies c.numbers_are_of_ends.ensures played.desk.ports (g.G.Game.rules c.args.game).roles c.in_ok-desk.ensures.lines (lines_are g c) c.in_ok-closed.ensures.all

first_line_is : (g : _) (c : In_ok-closed g) → OpensMatch c.args.setup c.in_ok-closed.closed.history.items
first_line_is g c =
    let opened = c.in_ok-holder.ensures in
    opens_match c.args.setup c.in_ok-closed.closed.history.items c.open_match.new.holder.line c.in_ok-desk.field-0.lines.items
    (c.open_match.ensures.line.0 ∙ opened.first.number_is)
    (c.in_ok-open_match.ensures.call ∙ ap (λ l. l ++ open_call c.args.setup ∷ []) opened.first.posted)
    (c.in_ok-open_match.ensures.reply ∙ ap (λ l. l ++ Opened ∷ []) opened.first.taken)
    c.in_ok-desk.ensures.first c.in_ok-closed.ensures.calls c.in_ok-closed.ensures.replies

role_lines_are : (g : _) (c : In_ok-closed g) → AreRoleLines c.args.setup.id (g.G.Game.rules c.args.game).roles c.in_ok-closed.closed.history.items
role_lines_are g c =
    let played = c.in_ok-desk.field-0 in
    role_lines g.P.Player.handed c.brief_of-brief.result c.args.tries c.args.players.items played.players.items c.in_ok-closed.closed.history.items played.lines.items played.ends.items c.in_ok-desk.ensures.ends
    c.in_ok-closed.ensures.calls c.in_ok-closed.ensures.replies
    c.calls_are_of_the_role.ensures c.args.setup.id (g.G.Game.rules c.args.game).roles (ap (λ (b : BriefValue). b.id) c.brief_of-brief.ensures ∙ c.in_ok-id.ensures) (as_roles g c)

lines_within : (g : _) (c : In_ok-closed g) → All (λ e. e.line < (g.G.Game.rules c.args.game).roles + 1) c.in_ok-closed.closed.history.items
lines_within g c = subst (λ n. All (λ e. e.line < n) c.in_ok-closed.closed.history.items) (lines_are g c) c.in_ok-closed.ensures.lines

one_is : (g : _) (c : In_ok-closed g) → HasOneMatch c.args.game c.args.setup c.in_ok-closed.closed.object
one_is g c = one_match g.G.Game.rules c.args.game c.args.setup (g.G.Game.rules c.args.game).roles c.in_ok-closed.closed.object c.in_ok-closed.closed.history.items
    (headline_is g c).replay (begins_with g c) (lines_within g c) (first_line_is g c) (role_lines_are g c)

pub returns-clause-refereed : goal.returns-clause-refereed
returns-clause-refereed g c =
    let at = (goal.at.returns-clause-refereed g c).In_ok-closed in
    let played = c.in_ok-desk.field-0 in
    let closed = c.in_ok-closed.closed in
    let of_closed = c.in_ok-closed.ensures in
    let brief = c.brief_of-brief.result in
    record {
      headline = headline_is g at;
      begins = begins_with g at;
      first_line = first_line_is g at;
      lines = lines_within g at;
      role_lines = role_lines_are g at;
      counts = of_closed.made;
      one_match = one_is g at;
      one_end_each = as_roles g at;
      told = brief;
      is_told = subst (IsBriefOf (g.G.Game.rules c.args.game) c.args.setup _) (sym c.brief_of-brief.ensures) (record { id = c.in_ok-id.ensures; roles = c.in_ok-roles.ensures; rules_are = refl; start = refl; play = refl });
      attended = ends_of g.P.Player.handed brief c.args.tries c.args.players.items played.players.items closed.history.items played.lines.items played.ends.items c.in_ok-desk.ensures.ends of_closed.calls of_closed.replies c.calls_have_replies.ensures;
    }

pub invariant_of-result : goal.invariant_of-result
invariant_of-result g c =
    let at = (goal.at.invariant_of-result g c).In_ok-closed in
    record { one_match = length-one c.args.game c.args.setup c.in_ok-closed.closed.object (one_is g at) }

pub attend_match-requires-send-O : goal.attend_match-requires-send-O
attend_match-requires-send-O g c κs within = param_send _ _ (arg_send _ yes _ (manager_send _ _ _ g.G.Game c.type_bounds.send-G c.type_bounds.send-G-State c.type_bounds.send-G-Move))

pub returns-clause-opens : goal.returns-clause-opens
returns-clause-opens g c =
    ap (λ d. open_refusal g.G.Game.rules d 0 c.args.setup) (sym c.in_ok-holder.ensures.manager) ∙ c.in_ok-open_match.ensures.opens

pub returns-in_err-open_match-clause-refused : goal.returns-in_err-open_match-clause-refused
returns-in_err-open_match-clause-refused g c =
    let p = err_from_is_err_and c.from_residual-in_err-open_match.result c.from_residual-in_err-open_match.ensures.1 in
    let refused = c.in_err-open_match.ensures.refused in
    rw p.1 (λ no_memory. ap reason_of p.2 ∙ refused (λ is. no_memory (p.2 ∙ is)) ∙ ap (λ d. open_refusal g.G.Game.rules d 0 c.args.setup) c.in_ok-holder.ensures.manager)

pub returns-in_err-closed-clause-refused : goal.returns-in_err-closed-clause-refused
returns-in_err-closed-clause-refused g c =
    let p = err_from_is_err_and c.from_residual-in_err-closed.result c.from_residual-in_err-closed.ensures.1 in
    let opens = ap (λ d. open_refusal g.G.Game.rules d 0 c.args.setup) (sym c.in_ok-holder.ensures.manager) ∙ c.in_ok-open_match.ensures.opens in
    rw p.1 (λ _. ap reason_of p.2 ∙ c.in_err-closed.ensures.no_refusal ∙ sym opens)
