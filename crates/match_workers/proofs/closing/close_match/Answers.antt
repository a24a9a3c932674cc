use Rattle.std.proofs.Common.{◌≡◌, ◌<◌, ◌∙◌, All, sym, ap, subst}
use Rattle.std.proofs.lemmas.Result.{err_from_is_err_and}
use Rattle.call_history.specs.Faults.{ask_fault}
use Rattle.call_history.specs.declared.journal.CallFault.{CallFault}
use Rattle.call_history.specs.declared.journal.CallFault.TheVariants.{Full, Memory}
use Rattle.call_history.specs.Lines.{HasAll}
use Rattle.call_history.specs.RingClosing.{end_numbers}
use Rattle.match_desk.specs.Headline.{HasHeadline}
use Rattle.match_workers.specs.RefereeFaults.{reason_of, referee_fault}
use Rattle.match_workers.specs.declared.refereeing.RefereeFault.TheVariants.{Unclosed}
use Rattle.match_workers.proofs.RefereeFaults.{no_reason}
use Rattle.match_workers.proofs.closing.close_match.Goals as goal

-- the result reports an error of the last rounds unchanged
never_unclosed : (cause : CallFault) → referee_fault (ask_fault cause) ≡ Unclosed → ⊥
never_unclosed Full is = cc
never_unclosed Memory is = cc

pub close_rings-requires : goal.close_rings-requires
close_rings-requires g c = record { lines = c.lines_stay.ensures.ends _ _ _ c.serve_all.ensures.lines c.requires.lines }

pub returns-in-Ok-clause-headline : goal.returns-in-Ok-clause-headline
returns-in-Ok-clause-headline g c =
    subst (λ n. HasHeadline g.G.Game.rules n c.in-Ok.closed.object c.in-Ok.closed.history.items c.in-Ok.closed.made_by_line.items) c.serve_all.ensures.lines.count c.in-Ok.ensures.headline

pub returns-in-Ok-clause-all : goal.returns-in-Ok-clause-all
returns-in-Ok-clause-all g c = subst (λ n. HasAll (end_numbers c.args.lines.items) n) c.serve_all.ensures.lines.count c.in-Ok.ensures.closed.has_all

pub returns-in-Ok-clause-lines : goal.returns-in-Ok-clause-lines
returns-in-Ok-clause-lines g c = subst (λ n. All (λ e. e.line < n) c.in-Ok.closed.history.items) c.serve_all.ensures.lines.count c.in-Ok.ensures.closed.lines

pub returns-clause-unclosed : goal.returns-clause-unclosed
returns-clause-unclosed g c is = record {
  last = c.serve_all.new.self;
  ports = c.serve_all.ensures.lines;
  history = c.serve_all.ensures.history;
  idle = c.in_ok-serve_all.ensures.idle;
  after = c.in-Err.field-0.desk;
  journal = c.in-Err.ensures.back.journal;
  left = c.in-Err.field-0.ends.items;
  ends_are = c.in-Err.ensures.back.ends_are;
  cause = c.in-Err.field-0.cause;
  is_cause = c.in-Err.ensures.cause;
}

pub returns-in_err-serve_all-clause-unclosed : goal.returns-in_err-serve_all-clause-unclosed
returns-in_err-serve_all-clause-unclosed g c =
    let p = err_from_is_err_and c.from_residual.result c.from_residual.ensures.1 in
    rw p.1 (λ is. absurd (never_unclosed c.in_err-serve_all.field-0.0.cause (sym p.2 ∙ is)))

pub returns-in_err-serve_all-clause-no_refusal : goal.returns-in_err-serve_all-clause-no_refusal
returns-in_err-serve_all-clause-no_refusal g c =
    let p = err_from_is_err_and c.from_residual.result c.from_residual.ensures.1 in
    rw p.1 (ap reason_of p.2 ∙ no_reason (ask_fault c.in_err-serve_all.field-0.0.cause))
