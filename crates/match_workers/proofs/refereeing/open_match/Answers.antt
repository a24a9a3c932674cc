use Rattle.std.proofs.Common.{◌∙◌, sym, ap}
use Rattle.std.proofs.lemmas.Result.{err_from_is_err_and}
use Rattle.match_desk.specs.Open.{open_refusal}
use Rattle.match_workers.specs.RefereeFaults.{reason_of}
use Rattle.match_workers.proofs.RefereeFaults.{no_reason}
use Rattle.match_workers.proofs.refereeing.open_match.Goals as goal

pub returns-in_err-reply-clause-refused : goal.returns-in_err-reply-clause-refused
returns-in_err-reply-clause-refused g c =
    let p = err_from_is_err_and c.from_residual-in_err-reply.result c.from_residual-in_err-reply.ensures.1 in
    let manager = c.object.ensures ∙ ap (λ j. j.object) c.journal.ensures.journal in
    let opens = ap (λ d. open_refusal g.G.Game.rules d 0 c.args.setup) (sym manager) ∙ c.in_ok-call.ensures.opens in
    rw p.1 (λ _. ap reason_of p.2 ∙ no_reason c.in_err-reply.field-0.0 ∙ sym opens)
