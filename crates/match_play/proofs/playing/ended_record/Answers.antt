use Rattle.std.proofs.Common.{◌≡◌, sym, subst}
use Rattle.match_record.specs.RecordTree.{record_text}
use Rattle.match_record.specs.LawfulRecord.{IsLawfulRecord}
use Rattle.match_play.proofs.playing.ended_record.Goals as goal

pub returns-clause-ended : goal.returns-clause-ended
returns-clause-ended g c =
    let rules-of = g.G.Game.rules in
    let held = c.in-Some.held.now in
    let text = c.in_ok-record.record in
    let same = sym c.in-Some.ensures.game in
    record {
      held = held;
      ended = c.in-Some.ensures.ended;
      is_record = subst (λ x. text ≡ record_text (rules-of x) held.value) same c.in_ok-record.ensures.text;
      lawful = subst (λ x. IsLawfulRecord (rules-of x) text) same c.in_ok-record.ensures.lawful;
    }
