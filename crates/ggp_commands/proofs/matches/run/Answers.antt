use Rattle.std.proofs.Common.{rules, ◌≡◌, subst, sym}
use Rattle.std.proofs.lemmas.Result.{err_from_is_err_and}
use Rattle.match_play.specs.EndedMatches.{match_text}
use Rattle.whole_streams.specs.Streams.{AppendsPart}
use Rattle.ggp_commands.specs.Runs.{WritesRunUpTo}
use Rattle.ggp_commands.proofs.matches.run.Goals as goal

pub returns-in_err-write_all-clause-at_fault : goal.returns-in_err-write_all-clause-at_fault
returns-in_err-write_all-clause-at_fault g c =
    let passed = err_from_is_err_and c.from_residual-in_err-write_all.result c.from_residual-in_err-write_all.ensures.1 in
    let old = g.W.Write.contents c.args.writer.now.stream in
    let new = g.W.Write.contents c.write_all.new.writer.stream in
    let prepared = c.in_ok-prepared.prepared in
    let it = c.in-Ok.ensures.played in
    let same : c.as_slice.result.now ≡ match_text it.0 it.1 c.args.run.now.has_history = search rules in
    let part : AppendsPart old new (match_text it.0 it.1 c.args.run.now.has_history) = subst (AppendsPart old new) same c.in_err-write_all.ensures.prefix in
    rw passed.1 (
    subst (λ fault. WritesRunUpTo (g.S.Reach.is_reached c.args.around.now.reach.now) g.S.Player.Player.handed c.args.game c.args.run.now old new fault) (sym passed.2)
    (it.0, it.1, (prepared.setup, c.in_ok-prepared.ensures.setup, prepared.players.items, c.in_ok-prepared.ensures.reached, it.2), part)
    )
