use Rattle.std.proofs.Common.{arith, ap, ◌∙◌}
use Rattle.match_book.specs.Roles.{blank}
use Rattle.match_book.proofs.RoleTests.{blank-all}
use Rattle.match_book.proofs.places.clear.Goals as goal

pub returns : goal.returns
returns g c =
    record { items = blank-all c.loop-place.places.items (λ k lt. c.loop-place.invariant.empty k (omega (arith, c.loop-place.invariant.wide, c.args.places.now.ok.0))) ∙ ap blank c.loop-place.invariant.wide }
