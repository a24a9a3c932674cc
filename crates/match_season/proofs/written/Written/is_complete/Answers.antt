use Rattle.std.proofs.Common.{arith}
use Rattle.std.proofs.lemmas.Bool.{eq-eqb, eqb-true}
use Rattle.match_season.proofs.Counted.{all-settled, settled-all}
use Rattle.match_season.proofs.written.Written.is_complete.Goals as goal

pub returns : goal.returns
returns c =
    let it = c.args.self.now in (
      λ same. all-settled it.is_settled.items (omega (arith, it.counted, it.is_settled.ok.0, c.len.ensures, eqb-true it.settled c.len.result same)),
      λ all. eq-eqb it.settled c.len.result (omega (arith, it.counted, it.is_settled.ok.0, c.len.ensures, settled-all it.is_settled.items all)),
    )
