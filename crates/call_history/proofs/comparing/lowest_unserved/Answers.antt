use Rattle.std.proofs.Common.{◌≡◌, ℕ, ◌+◌, ◌<◌, ap, min, MatchOption, length, get_or, set, arith, sym, ◌∙◌, subst}
use Rattle.std.proofs.lemmas.List.{get_or_read}
use Rattle.call_history.specs.declared.port.Port.{Port}
use Rattle.call_history.specs.RingLines.{LineValue, SamePort}
use Rattle.call_history.specs.Rounds.{Serves}
use Rattle.call_history.specs.Parts.{part}
use Rattle.call_history.specs.RingClosing.{SameEnd, IsServed, IsUnserved, TakesPrefix}
use Rattle.call_history.proofs.ServedLines.{same_ports_set, serves_same}
use Rattle.call_history.proofs.ReturnedEnds.{ends_of_same, same_ends_set, upto_set, Compared, compared_served, compared_unserved}
use Rattle.call_history.proofs.comparing.lowest_unserved.Goals as goal
use Rattle.call_history.proofs.comparing.lowest_unserved.Goals.{then-not-is_served, else-not-is_served}

pub index_mut-end-requires : goal.index_mut-end-requires
index_mut-end-requires g c = omega (arith, c.loop-k.invariant.ends.count, c.loop-k.ends.ok.0, c.args.ends.now.ok.0)

pub loop-k-preserved : goal.loop-k-preserved
loop-k-preserved g c =
    let inv = c.loop-k.invariant in
    let said = c.compare-is_served.ensures in
    let history = c.args.journal.now.history in
    let ends = c.loop-k.ends.items in
    let ports = c.loop-k.ports.items in
    let end = c.compare-is_served.new.end in
    let port = c.compare-is_served.new.port in
    let k = c.loop-k.k in
    let n = c.number-number.result in
    let k_within : k < length ends = omega (arith, inv.ends.count, c.loop-k.ends.ok.0, c.args.ends.now.ok.0) in
    let was_end : c.index_mut-end.result.now ≡ get_or ends k end = get_or_read _ _ _ k_within c.index_mut-end.ensures.value end in
    let line = ends_of_same _ _ _ _ inv.ports inv.ends c.requires.lines k end k_within in
    let number : n ≡ (get_or ends k end).number = c.number-number.ensures ∙ ap (λ x. x.number) was_end in
    let n_within : n < length ports = omega (arith, line.within, number) in
    let was_port : c.index_mut-port.result.now ≡ get_or ports n port = get_or_read _ _ _ n_within c.index_mut-port.ensures.value port in
    let same_end : SameEnd (get_or ends k end) end = (let P : LineValue g.row.O-Call.Denot g.row.O-Reply.Denot → Type 0 = λ x. SameEnd x end in subst P was_end said.end) in
    let same_port : SamePort (get_or ports n port) port = (let P : Port g.row.O-Call.Denot g.row.O-Reply.Denot → Type 0 = λ x. SamePort x port in subst P was_port said.port) in
    let serves : Serves (part n history) port = (let P : ℕ → Type 0 = λ m. Serves (part m history) port in subst P (sym c.number-number.ensures) said.serves) in
    let new_number : n ≡ end.number = c.number-number.ensures ∙ sym said.end.line.0 in
    let calls : Compared history (set ends k end) (k + 1) c.if-not-is_served.lowest =
    elim c.if-not-is_served.branch [
      | then-not-is_served w ↦
          (let unserved : IsUnserved history end = (rw w.if-not-is_served.true at said.calls) in
          let least : MatchOption c.loop-k.lowest (w.lower.result ≡ end.number) (λ m. w.lower.result ≡ min m end.number) =
          (let P : ℕ → Type 0 = λ x. MatchOption c.loop-k.lowest (w.lower.result ≡ x) (λ m. w.lower.result ≡ min m x) in subst P new_number w.lower.ensures) in
          rw w.lowest-is (compared_unserved history ends k end c.loop-k.lowest w.lower.result k_within inv.calls unserved least))
      | else-not-is_served w ↦
          (let served : IsServed history end = (rw w.if-not-is_served.false at said.calls) in
          rw w.lowest-is (compared_served history ends k end c.loop-k.lowest k_within inv.calls served))
    ] in
    record {
      serves = serves_same history ports n port inv.serves serves;
      ports = same_ports_set _ _ _ _ inv.ports n_within same_port;
      ends = same_ends_set _ _ _ _ inv.ends k_within same_end;
      replies = upto_set (TakesPrefix history) ends k end k_within inv.replies said.replies;
      calls = calls;
    }

pub returns-clause-replies : goal.returns-clause-replies
returns-clause-replies g c = λ k e below. c.loop-k.invariant.replies k e (omega (arith, c.loop-k.invariant.ends.count, c.loop-k.ends.ok.0, c.args.ends.now.ok.0))
