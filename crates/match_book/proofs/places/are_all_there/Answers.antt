use Rattle.std.proofs.Common.{rules, arith, sym, length}
use Rattle.match_book.specs.Roles.{is_there}
use Rattle.match_book.proofs.RoleTests.{every_role-all, every_role-but, is_there-read}
use Rattle.match_book.proofs.places.are_all_there.Goals as goal

pub returns-then-is_none : goal.returns-then-is_none
returns-then-is_none g c = sym (every_role-but (length c.args.places.now) c.loop-place.place-index (is_there c.args.places.now) (omega arith) (is_there-read c.args.places.now c.loop-place.place-index c.place-item.result (search rules) (search rules)))

pub returns : goal.returns
returns g c = sym (every_role-all (length c.args.places.now) (is_there c.args.places.now) (λ k lt. c.loop-place.invariant k (omega arith)))
