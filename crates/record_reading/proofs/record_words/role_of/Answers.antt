use Rattle.record_reading.proofs.RoleNumbers.{role_found, role_past, role_none}
use Rattle.record_reading.proofs.record_words.role_of.Goals as goal

pub returns-in_err-role : goal.returns-in_err-role
returns-in_err-role c = rw c.from_residual.ensures (role_none c.numerals_read_back.ensures.read_back c.args.digits.now c.args.roles c.requires c.in_err-role.ensures)

pub returns-then-role-roles : goal.returns-then-role-roles
returns-then-role-roles c = (role_found c.numerals_read_back.ensures.read_back c.args.digits.now c.args.roles c.in_ok-role.role c.requires c.in_ok-role.ensures, c.if-role-roles.true)

pub returns-else-role-roles : goal.returns-else-role-roles
returns-else-role-roles c = role_past c.numerals_read_back.ensures.read_back c.args.digits.now c.args.roles c.in_ok-role.role c.requires c.in_ok-role.ensures c.if-role-roles.false
