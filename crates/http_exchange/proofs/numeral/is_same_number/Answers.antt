use Rattle.std.proofs.Common.{◌∙◌}
use Rattle.std.specs.Prelude.{◌==◌}
use Rattle.http_exchange.proofs.Lengths.{same_number}
use Rattle.http_exchange.proofs.numeral.is_same_number.Goals as goal

pub returns : goal.returns
returns c =
    let one = c.without_leading_zeros.ensures in
    let other = c.without_leading_zeros-2.ensures in
    c.eq.ensures
    ∙ same_number c.without_leading_zeros.result.now c.without_leading_zeros-2.result.now one.digits other.digits one.first other.first
    ∙ (λ i. one.number i == other.number i)
