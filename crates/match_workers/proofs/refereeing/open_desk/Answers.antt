use Rattle.std.proofs.Common.{◌+◌, ◌<◌, length, sym, subst, arith}
use Rattle.call_history.specs.RingLines.{IsNewLine}
use Rattle.match_workers.proofs.NewLines.{behind_first_at}
use Rattle.match_workers.proofs.refereeing.open_desk.Goals as goal

pub returns-clause-first : goal.returns-clause-first
returns-clause-first g c =
    let some : 0 < length c.in-Ok.lines.items = omega (arith, c.in-Ok.ensures.count) in
    subst (λ line. IsNewLine c.in-Ok.desk.ports 0 line) (sym c.remove-line.ensures.value) (c.in-Ok.ensures.lines 0 c.remove-line.result some)

pub returns-clause-seats : goal.returns-clause-seats
returns-clause-seats g c role line at =
    let found = behind_first_at c.in-Ok.lines.items c.remove-line.new.self.items c.remove-line.ensures.by_index.2 role line at in
    subst (λ l. IsNewLine c.in-Ok.desk.ports (role + 1) l) found.1 (c.in-Ok.ensures.lines (role + 1) line found.0)
