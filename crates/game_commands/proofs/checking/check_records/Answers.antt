use Rattle.std.proofs.Common.{rules, refl, ◌≡◌, ◌+◌, ◌++◌, ◌∷◌, [], length, sym, ap, subst, ◌∙◌, inl, inr, arith}
use Rattle.std.proofs.lemmas.List.{length_push}
use Rattle.std.proofs.lemmas.List.Sums.{count_by-le-length}
use Rattle.std.proofs.KnownBytes.{Consumes-nil, Consumes-trans, Appends-nil}
use Rattle.std.specs.Str.Lines.{lines}
use Rattle.whole_streams.specs.Lines.{BeginsWithLine, IsNextLine}
use Rattle.game_commands.specs.Verdicts.{AreVerdicts, is_skipped, is_unlawful, count_skipped, count_unlawful}
use Rattle.game_commands.specs.Checks.{CheckStops}
use Rattle.game_commands.proofs.CheckedLines.{begins_more, verdicts_push, lines_push, count_push, calls_on, read_stops, write_stops}
use Rattle.game_commands.proofs.checking.check_records.Goals as goal

pub loop-place-init : goal.loop-place-init
loop-place-init g c = record {
  checked = ([], [], [], Consumes-nil _, (λ more. ap (λ l. lines (l ++ more)) (sym c.new-buffer.ensures)), tt, Appends-nil _, refl, refl, refl);
  few_unlawful = search rules;
  few_skipped = search rules;
  calls = search rules;
  read = refl;
  wrote = refl;
}

pub loop-place-preserved : goal.loop-place-preserved
loop-place-preserved g c =
    let was = c.loop-place.invariant.checked in
    let next = c.in-Ok-Ended.ensures.next in
    let bytes = c.loop-place.buffer ++ next.0 in
    let left = c.next_line.new.self in
    let told = c.in-Ok.ensures.verdict in
    let begins = subst (λ n. IsNextLine (g.R.Read.remaining c.next_line.new.reader.stream) bytes n left) c.in-Ok-Ended.field-0-is next.2 in
    let same : c.deref.result.now ≡ c.in-Ok-Ended.line.items = search rules in
    let line = subst (λ l. BeginsWithLine bytes l left) (sym same) begins in
    let verdict = c.in-Ok.verdict in
    let all = was.2 ++ verdict ∷ [] in
    let unlawful : c.loop-place.unlawful + c.count_unlawful-unlawful.result ≡ count_unlawful all =
    ap (λ n. n + c.count_unlawful-unlawful.result) was.7 ∙ ap (λ n. count_unlawful was.2 + n) c.count_unlawful-unlawful.ensures.count ∙ sym (count_push is_unlawful was.2 verdict) in
    let skipped : c.loop-place.skipped + c.count_skipped-skipped.result ≡ count_skipped all =
    ap (λ n. n + c.count_skipped-skipped.result) was.8 ∙ ap (λ n. count_skipped was.2 + n) c.count_skipped-skipped.ensures.count ∙ sym (count_push is_skipped was.2 verdict) in
    let size : length all ≡ c.loop-place.place + 1 = length_push was.2 verdict ∙ ap (λ n. n + 1) was.9 in
    record {
      checked = (
        was.0 ++ next.0,
        was.1 ++ c.deref.result.now ∷ [],
        all,
        Consumes-trans _ _ _ _ _ was.3 next.1,
        c.lines_are_taken.ensures.next was.0 was.1 c.loop-place.buffer next.0 c.deref.result.now left was.4 line,
        verdicts_push _ was.1 was.2 c.deref.result.now verdict was.5 told.0,
        lines_push _ _ _ _ was.2 verdict was.6 told.1,
        unlawful,
        skipped,
        size,
      );
      few_unlawful = omega (arith, unlawful, size, count_by-le-length is_unlawful all);
      few_skipped = omega (arith, skipped, size, count_by-le-length is_skipped all);
      calls = calls_on _ _ _ c.loop-place.invariant.calls c.in-Ok-Ended.ensures.called;
      read = c.in-Ok-Ended.ensures.no_fault ∙ c.loop-place.invariant.read;
      wrote = c.in-Ok.ensures.no_fault ∙ c.loop-place.invariant.wrote;
    }

pub returns-in-Ok-check_line-clause-verdicts : goal.returns-in-Ok-check_line-clause-verdicts
returns-in-Ok-check_line-clause-verdicts g c =
    let was = c.loop-place.invariant.checked in
    let next = c.in-Ok-Last.ensures.next in
    let bytes = c.loop-place.buffer ++ next.0 in
    let told = c.in-Ok-check_line.ensures.verdict in
    let last = subst (λ n. IsNextLine (g.R.Read.remaining c.next_line.new.reader.stream) bytes n c.next_line.new.self) c.in-Ok-Last.field-0-is next.2 in
    let same : c.deref-in-Ok-Last.result.now ≡ c.in-Ok-Last.line.items = search rules in
    let verdict = c.in-Ok-check_line.verdict in
    let all = was.2 ++ verdict ∷ [] in
    let cut = c.lines_are_taken.ensures.last was.0 was.1 c.loop-place.buffer next.0 c.deref-in-Ok-Last.result.now was.4 last.0 (same ∙ last.1) last.2 in
    let verdicts = verdicts_push _ was.1 was.2 c.deref-in-Ok-Last.result.now verdict was.5 told.0 in
    let unlawful = ap (λ n. n + c.count_unlawful.result) was.7 ∙ ap (λ n. count_unlawful was.2 + n) c.count_unlawful.ensures.count ∙ sym (count_push is_unlawful was.2 verdict) in
    let skipped = ap (λ n. n + c.count_skipped.result) was.8 ∙ ap (λ n. count_skipped was.2 + n) c.count_skipped.ensures.count ∙ sym (count_push is_skipped was.2 verdict) in (
      was.0 ++ next.0,
      all,
      Consumes-trans _ _ _ _ _ was.3 next.1,
      last.4,
      subst (λ ls. AreVerdicts (g.G.Game.rules c.args.game.now) ls all) (sym cut) verdicts,
      lines_push _ _ _ _ was.2 verdict was.6 told.1,
      unlawful,
      skipped,
    )

pub returns-in-Err-check_line-clause-stops : goal.returns-in-Err-check_line-clause-stops
returns-in-Err-check_line-clause-stops g c =
    let was = c.loop-place.invariant.checked in
    let next = c.in-Ok-Ended.ensures.next in
    let bytes = c.loop-place.buffer ++ next.0 in
    let left = c.next_line.new.self in
    let begins = subst (λ n. IsNextLine (g.R.Read.remaining c.next_line.new.reader.stream) bytes n left) c.in-Ok-Ended.field-0-is next.2 in
    let same : c.deref.result.now ≡ c.in-Ok-Ended.line.items = search rules in
    let line = subst (λ l. BeginsWithLine bytes l left) (sym same) begins in
    let why = write_stops g.R.Read.remaining g.W.Write.contents c.args.is_json (g.G.Game.rules c.args.game.now) c.in-Err-check_line.fault was.2 bytes c.deref.result.now c.args.reader.now c.next_line.new.reader c.args.writer.now c.loop-place.writer c.check_line.new.writer
    (c.in-Ok-Ended.ensures.no_fault ∙ c.loop-place.invariant.read) (inl (left, line)) (was.6, c.loop-place.invariant.wrote) c.in-Err-check_line.ensures.fails in
    (was.0 ++ next.0, was.1, bytes, was.2, Consumes-trans _ _ _ _ _ was.3 next.1, begins_more was.0 was.1 c.loop-place.buffer next.0 was.4, was.5, why)

pub returns-in-Err-check_line-2-clause-stops : goal.returns-in-Err-check_line-2-clause-stops
returns-in-Err-check_line-2-clause-stops g c =
    let was = c.loop-place.invariant.checked in
    let next = c.in-Ok-Last.ensures.next in
    let bytes = c.loop-place.buffer ++ next.0 in
    let last = subst (λ n. IsNextLine (g.R.Read.remaining c.next_line.new.reader.stream) bytes n c.next_line.new.self) c.in-Ok-Last.field-0-is next.2 in
    let same : c.deref-in-Ok-Last.result.now ≡ c.in-Ok-Last.line.items = search rules in
    let why = write_stops g.R.Read.remaining g.W.Write.contents c.args.is_json (g.G.Game.rules c.args.game.now) c.in-Err-check_line-2.fault was.2 bytes c.deref-in-Ok-Last.result.now c.args.reader.now c.next_line.new.reader c.args.writer.now c.loop-place.writer c.check_line-in-Ok-Last.new.writer
    (c.in-Ok-Last.ensures.no_fault ∙ c.loop-place.invariant.read) (inr (last.0, last.2, same ∙ last.1, last.4)) (was.6, c.loop-place.invariant.wrote) c.in-Err-check_line-2.ensures.fails in
    (was.0 ++ next.0, was.1, bytes, was.2, Consumes-trans _ _ _ _ _ was.3 next.1, begins_more was.0 was.1 c.loop-place.buffer next.0 was.4, was.5, why)

pub returns-in-Err-clause-stops : goal.returns-in-Err-clause-stops
returns-in-Err-clause-stops g c =
    let was = c.loop-place.invariant.checked in
    let fails = c.in-Err.ensures.fails in
    let bytes = c.loop-place.buffer ++ fails.0 in
    let why = read_stops g.R.Read.remaining g.W.Write.contents c.args.is_json (g.G.Game.rules c.args.game.now) c.in-Err.fault was.2 bytes fails.1 c.next_line.new.self c.args.reader.now c.loop-place.reader c.next_line.new.reader c.args.writer.now c.loop-place.writer
    c.loop-place.invariant.read c.loop-place.invariant.calls fails.3 fails.4 fails.5 (was.6, c.loop-place.invariant.wrote) in (
      was.0 ++ fails.0,
      was.1,
      bytes,
      was.2,
      Consumes-trans _ _ _ _ _ was.3 fails.2,
      begins_more was.0 was.1 c.loop-place.buffer fails.0 was.4,
      was.5,
      subst (λ fault. CheckStops g.R.Read.remaining g.W.Write.contents c.args.is_json (g.G.Game.rules c.args.game.now) fault was.2 bytes c.args.reader.now c.next_line.new.reader c.args.writer.now c.loop-place.writer) (sym c.from.ensures) why,
    )
