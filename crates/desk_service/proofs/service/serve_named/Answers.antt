use denote.Exit.{yes}
use denote.Param.Send.{param_send, arg_send}
use Rattle.std.proofs.Common.{◌≡◌, true, false, sym, ap, subst, ◌∙◌, arith}
use Rattle.call_history.specs.Lines.{HasAll, numbers}
use Rattle.desk_service.proofs.Sent.{manager_send}
use Rattle.desk_service.proofs.ServedLines.{new_has_all}
use Rattle.desk_service.proofs.service.serve_named.Goals as goal

pub serve_lines-lines-requires-send-O : goal.serve_lines-lines-requires-send-O
serve_lines-lines-requires-send-O g c κs within = param_send _ _ (arg_send _ yes _ (manager_send _ _ _ g.G.Game c.type_bounds.send-G c.type_bounds.send-G-State c.type_bounds.send-G-Move))

pub unreachable-requires : goal.unreachable-requires
unreachable-requires g c =
    let lines = c.args.lines in
    let given = numbers c.serve_lines-lines.result.items in
    let same = c.serve_lines-lines.ensures ∙ ap numbers c.in-Ok.ensures.lines in
    let all : HasAll given c.in-Ok.desk.lines = subst (HasAll given) (sym c.in-Ok.ensures.desk) (subst (λ l. HasAll l lines) (sym same) (new_has_all lines)) in
    let bad : false ≡ true = c.in-Err.ensures.all.1 all in
    grind (arith, bad)
