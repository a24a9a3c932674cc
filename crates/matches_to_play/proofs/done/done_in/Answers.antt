use Rattle.std.proofs.Common.{rules, ◌≡◌, ◌++◌, ◌∷◌, [], append-nil, ap, subst, sym, ◌∙◌}
use Rattle.std.proofs.KnownBytes.{Consumes-nil, Consumes-trans}
use Rattle.std.specs.Str.Lines.{lines}
use Rattle.whole_streams.specs.Lines.{BeginsWithLine, IsNextLine}
use Rattle.matches_to_play.specs.Done.{AreDone}
use Rattle.matches_to_play.proofs.DoneLines.{nothing_noted}
use Rattle.matches_to_play.proofs.done.done_in.Goals as goal

pub loop-init : goal.loop-init
loop-init g c =
    ([], [], Consumes-nil _, (λ more. ap (λ l. lines (l ++ more)) (sym c.new-buffer.ensures)), nothing_noted (g.G.Game.rules c.args.game.now) (λ noted. noted.items) _ c.new.ensures.empty)

pub loop-preserved : goal.loop-preserved
loop-preserved g c =
    let was = c.loop.invariant in
    let next = c.in-Ok-Ended.ensures.next in
    let bytes = c.loop.buffer ++ next.0 in
    let left = c.next_line.new.self in
    let begins = subst (λ n. IsNextLine (g.R.Read.remaining c.next_line.new.reader.stream) bytes n left) c.in-Ok-Ended.field-0-is next.2 in
    let same : c.deref.result.now ≡ c.in-Ok-Ended.line.items = search rules in
    let line = subst (λ l. BeginsWithLine bytes l left) (sym same) begins in (
      was.0 ++ next.0,
      was.1 ++ c.deref.result.now ∷ [],
      Consumes-trans _ _ _ _ _ was.2 next.1,
      c.lines_are_taken.ensures.next was.0 was.1 c.loop.buffer next.0 c.deref.result.now left was.3 line,
      c.in_ok-note-in-Ok-Ended.ensures was.1 was.4,
    )

pub returns-in-Ok-Last-clause-done : goal.returns-in-Ok-Last-clause-done
returns-in-Ok-Last-clause-done g c =
    let was = c.loop.invariant in
    let next = c.in-Ok-Last.ensures.next in
    let last = subst (λ n. IsNextLine (g.R.Read.remaining c.next_line.new.reader.stream) (c.loop.buffer ++ next.0) n c.next_line.new.self) c.in-Ok-Last.field-0-is next.2 in
    let same : c.deref-in-Ok-Last.result.now ≡ c.in-Ok-Last.line.items = search rules in
    let cut = c.lines_are_taken.ensures.last was.0 was.1 c.loop.buffer next.0 c.deref-in-Ok-Last.result.now was.3 last.0 (same ∙ last.1) last.2 in (
      was.0 ++ next.0,
      Consumes-trans _ _ _ _ _ was.2 next.1,
      last.4,
      subst (λ ls. AreDone (g.G.Game.rules c.args.game.now) ls c.note-in-Ok-Last.new.self) (sym cut) (c.in_ok-note-in-Ok-Last.ensures was.1 was.4),
    )

pub returns-in-Ok-Nothing-clause-done : goal.returns-in-Ok-Nothing-clause-done
returns-in-Ok-Nothing-clause-done g c =
    let was = c.loop.invariant in
    let next = c.in-Ok-Nothing.ensures.next in
    let none = subst (λ n. IsNextLine (g.R.Read.remaining c.next_line.new.reader.stream) (c.loop.buffer ++ next.0) n c.next_line.new.self) c.in-Ok-Nothing.field-0-is next.2 in
    let cut = was.3 next.0 ∙ ap (λ bytes. was.1 ++ lines bytes) none.0 ∙ append-nil was.1 in (
      was.0 ++ next.0,
      Consumes-trans _ _ _ _ _ was.2 next.1,
      none.2,
      subst (λ ls. AreDone (g.G.Game.rules c.args.game.now) ls c.loop.done) (sym cut) was.4,
    )
