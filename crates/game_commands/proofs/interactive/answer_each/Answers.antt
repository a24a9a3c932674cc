use Rattle.std.proofs.Common.{rules, refl, ◌≡◌, ◌+◌, ◌++◌, ◌∷◌, [], ℕ, List, length, sym, ap, subst, ◌∙◌, inl, inr, arith}
use Rattle.std.proofs.lemmas.List.{length_push}
use Rattle.std.proofs.KnownBytes.{Consumes-nil, Consumes-trans, Appends-nil, Appends-trans}
use Rattle.std.specs.Io.KnownBytes.{Appends}
use Rattle.std.specs.Str.Lines.{lines}
use Rattle.whole_streams.specs.Lines.{BeginsWithLine, IsNextLine}
use Rattle.game_commands.specs.Interactive.{StopsAnswering}
use Rattle.game_commands.specs.Script.{after_lines, answer_lines, bad_lines}
use Rattle.game_commands.proofs.AnsweredLines.{after_append, answer_stops, bad_append, one_answer, read_stops}
use Rattle.game_commands.proofs.CheckedLines.{begins_more, calls_on}
use Rattle.game_commands.proofs.interactive.answer_each.Goals as goal

pub loop-place-init : goal.loop-place-init
loop-place-init g c = record {
  answered = ([], [], Consumes-nil _, (λ more. ap (λ l. lines (l ++ more)) (sym c.new-buffer.ensures)), Appends-nil _, refl, refl, refl);
  few_bad = search rules;
  calls = search rules;
  read = refl;
  wrote = refl;
}

pub loop-place-preserved : goal.loop-place-preserved
loop-place-preserved g c =
    let reply = g.O.Object.reply in
    let after = g.O.Object.after in
    let opening = c.args.object.now in
    let was = c.loop-place.invariant.answered in
    let next = c.in-Ok-Ended.ensures.next in
    let bytes = c.loop-place.buffer ++ next.0 in
    let left = c.next_line.new.self in
    let begins = subst (λ n. IsNextLine (g.R.Read.remaining c.next_line.new.reader.stream) bytes n left) c.in-Ok-Ended.field-0-is next.2 in
    let same : c.deref.result.now ≡ c.in-Ok-Ended.line.items = search rules in
    let text = c.deref.result.now in
    let line = subst (λ l. BeginsWithLine bytes l left) (sym same) begins in
    let all = was.1 ++ text ∷ [] in
    let bad : c.loop-place.bad + c.in-Ok.more ≡ bad_lines all =
    ap (λ n. n + c.in-Ok.more) was.6 ∙ ap (λ n. bad_lines was.1 + n) c.in-Ok.ensures.bad ∙ sym (bad_append was.1 (text ∷ [])) in
    record {
      answered = (
        was.0 ++ next.0,
        all,
        Consumes-trans _ _ _ _ _ was.2 next.1,
        c.lines_are_taken.ensures.next was.0 was.1 c.loop-place.buffer next.0 text left was.3 line,
        subst (λ l. Appends (g.W.Write.contents c.args.writer.now.stream) (g.W.Write.contents c.answer_now.new.writer.stream) l) (sym (one_answer reply after opening c.loop-place.object was.1 text was.5))
            (Appends-trans _ _ _ _ _ was.4 c.in-Ok.ensures.answered),
        c.in-Ok.ensures.after ∙ ap (λ s. after_lines after s (text ∷ [])) was.5 ∙ sym (after_append after opening was.1 (text ∷ [])),
        bad,
        length_push was.1 text ∙ ap (λ n. n + 1) was.7,
      );
      few_bad = omega (arith, c.in-Ok.ensures.small, c.loop-place.invariant.few_bad);
      calls = calls_on _ _ _ c.loop-place.invariant.calls c.in-Ok-Ended.ensures.called;
      read = c.in-Ok-Ended.ensures.no_fault ∙ c.loop-place.invariant.read;
      wrote = c.in-Ok.ensures.no_fault ∙ c.loop-place.invariant.wrote;
    }

pub returns-in-Ok-answer_now-clause-answered : goal.returns-in-Ok-answer_now-clause-answered
returns-in-Ok-answer_now-clause-answered g c =
    let reply = g.O.Object.reply in
    let after = g.O.Object.after in
    let opening = c.args.object.now in
    let was = c.loop-place.invariant.answered in
    let next = c.in-Ok-Last.ensures.next in
    let bytes = c.loop-place.buffer ++ next.0 in
    let text = c.deref-in-Ok-Last.result.now in
    let told = c.in-Ok-answer_now.ensures in
    let last = subst (λ n. IsNextLine (g.R.Read.remaining c.next_line.new.reader.stream) bytes n c.next_line.new.self) c.in-Ok-Last.field-0-is next.2 in
    let same : text ≡ c.in-Ok-Last.line.items = search rules in
    let all = was.1 ++ text ∷ [] in
    let cut = sym (c.lines_are_taken.ensures.last was.0 was.1 c.loop-place.buffer next.0 text was.3 last.0 (same ∙ last.1) last.2) in (
      was.0 ++ next.0,
      Consumes-trans _ _ _ _ _ was.2 next.1,
      last.4,
      subst (λ l. Appends (g.W.Write.contents c.args.writer.now.stream) (g.W.Write.contents c.answer_now-in-Ok-Last.new.writer.stream) l)
          (sym (one_answer reply after opening c.loop-place.object was.1 text was.5) ∙ ap (answer_lines reply after opening) cut)
          (Appends-trans _ _ _ _ _ was.4 told.answered),
      told.after ∙ ap (λ s. after_lines after s (text ∷ [])) was.5 ∙ sym (after_append after opening was.1 (text ∷ [])) ∙ ap (after_lines after opening) cut,
      ap (λ n. n + c.in-Ok-answer_now.more) was.6 ∙ ap (λ n. bad_lines was.1 + n) told.bad ∙ sym (bad_append was.1 (text ∷ [])) ∙ ap bad_lines cut,
    )

pub returns-in-Err-answer_now-clause-stops : goal.returns-in-Err-answer_now-clause-stops
returns-in-Err-answer_now-clause-stops g c =
    let answers = answer_lines g.O.Object.reply g.O.Object.after c.args.object.now in
    let was = c.loop-place.invariant.answered in
    let next = c.in-Ok-Ended.ensures.next in
    let bytes = c.loop-place.buffer ++ next.0 in
    let left = c.next_line.new.self in
    let text = c.deref.result.now in
    let begins = subst (λ n. IsNextLine (g.R.Read.remaining c.next_line.new.reader.stream) bytes n left) c.in-Ok-Ended.field-0-is next.2 in
    let same : text ≡ c.in-Ok-Ended.line.items = search rules in
    let line = subst (λ l. BeginsWithLine bytes l left) (sym same) begins in
    let why = answer_stops g.R.Read.remaining g.W.Write.contents answers c.in-Err-answer_now.fault was.1 bytes text _ c.args.reader.now c.next_line.new.reader c.args.writer.now c.loop-place.writer c.answer_now.new.writer
    (c.in-Ok-Ended.ensures.no_fault ∙ c.loop-place.invariant.read) (inl (left, line)) (one_answer _ _ _ c.loop-place.object was.1 text was.5) (was.4, c.loop-place.invariant.wrote) c.in-Err-answer_now.ensures.stops in
    (was.0 ++ next.0, was.1, bytes, Consumes-trans _ _ _ _ _ was.2 next.1, begins_more was.0 was.1 c.loop-place.buffer next.0 was.3, why)

pub returns-in-Err-answer_now-2-clause-stops : goal.returns-in-Err-answer_now-2-clause-stops
returns-in-Err-answer_now-2-clause-stops g c =
    let answers = answer_lines g.O.Object.reply g.O.Object.after c.args.object.now in
    let was = c.loop-place.invariant.answered in
    let next = c.in-Ok-Last.ensures.next in
    let bytes = c.loop-place.buffer ++ next.0 in
    let text = c.deref-in-Ok-Last.result.now in
    let last = subst (λ n. IsNextLine (g.R.Read.remaining c.next_line.new.reader.stream) bytes n c.next_line.new.self) c.in-Ok-Last.field-0-is next.2 in
    let same : text ≡ c.in-Ok-Last.line.items = search rules in
    let why = answer_stops g.R.Read.remaining g.W.Write.contents answers c.in-Err-answer_now-2.fault was.1 bytes text _ c.args.reader.now c.next_line.new.reader c.args.writer.now c.loop-place.writer c.answer_now-in-Ok-Last.new.writer
    (c.in-Ok-Last.ensures.no_fault ∙ c.loop-place.invariant.read) (inr (last.0, last.2, same ∙ last.1, last.4)) (one_answer _ _ _ c.loop-place.object was.1 text was.5) (was.4, c.loop-place.invariant.wrote) c.in-Err-answer_now-2.ensures.stops in
    (was.0 ++ next.0, was.1, bytes, Consumes-trans _ _ _ _ _ was.2 next.1, begins_more was.0 was.1 c.loop-place.buffer next.0 was.3, why)

pub returns-in-Err-clause-stops : goal.returns-in-Err-clause-stops
returns-in-Err-clause-stops g c =
    let answers = answer_lines g.O.Object.reply g.O.Object.after c.args.object.now in
    let was = c.loop-place.invariant.answered in
    let fails = c.in-Err.ensures.fails in
    let bytes = c.loop-place.buffer ++ fails.0 in
    let why = read_stops g.R.Read.remaining g.W.Write.contents answers c.in-Err.fault was.1 bytes fails.1 c.next_line.new.self c.args.reader.now c.loop-place.reader c.next_line.new.reader c.args.writer.now c.loop-place.writer
    c.loop-place.invariant.read c.loop-place.invariant.calls fails.3 fails.4 fails.5 (was.4, c.loop-place.invariant.wrote) in (
      was.0 ++ fails.0,
      was.1,
      bytes,
      Consumes-trans _ _ _ _ _ was.2 fails.2,
      begins_more was.0 was.1 c.loop-place.buffer fails.0 was.3,
      subst (λ fault. StopsAnswering g.R.Read.remaining g.W.Write.contents answers fault was.1 bytes c.args.reader.now c.next_line.new.reader c.args.writer.now c.loop-place.writer) (sym c.from.ensures) why,
    )
