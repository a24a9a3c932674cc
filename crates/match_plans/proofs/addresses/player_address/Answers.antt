use Rattle.std.proofs.Common.{◌≡◌, ◌∙◌, true, false, sym, rules}
use Rattle.desk_calls.specs.Names.{is_name}
use Rattle.match_plans.proofs.Words.{with-all, without-name, without-place, without-port}
use Rattle.match_plans.proofs.addresses.player_address.Goals as goal

pub returns-in_default-clause-taken : goal.returns-in_default-clause-taken
returns-in_default-clause-taken c = without-place c.args.word.now (search rules)

pub returns-in_default-host_and_port-clause-taken : goal.returns-in_default-host_and_port-clause-taken
returns-in_default-host_and_port-clause-taken c = without-place c.args.word.now (search rules)

pub returns-in_default-port_in-clause-taken : goal.returns-in_default-port_in-clause-taken
returns-in_default-port_in-clause-taken c =
    without-port c.args.word.now c.in-Some-host_and_port.host.now c.in-Some-host_and_port.port.now (sym c.in-Some.ensures.1 ∙ sym c.in-Some-host_and_port.ensures) (search rules)

pub returns-then-not-is_name-clause-taken : goal.returns-then-not-is_name-clause-taken
returns-then-not-is_name-clause-taken c =
    let unlawful : is_name c.in-Some.name.now ≡ false = search rules in
    without-name c.args.word.now c.in-Some.name.now c.in-Some.ensures.0 unlawful

pub returns-clause-address : goal.returns-clause-address
returns-clause-address c =
    let lawful : is_name c.in-Some.name.now ≡ true = search rules in
    record {
      host = c.in-Some-host_and_port.host.now;
      port = c.in-Some-host_and_port.port.now;
      name = c.in-Some.ensures.0;
      is_lawful = lawful;
      place = sym c.in-Some.ensures.1 ∙ sym c.in-Some-host_and_port.ensures;
      is_host = c.plain_host.ensures;
      is_port = search rules;
    }

pub returns-clause-taken : goal.returns-clause-taken
returns-clause-taken c =
    let lawful : is_name c.in-Some.name.now ≡ true = search rules in
    with-all c.args.word.now c.in-Some.name.now c.in-Some-host_and_port.host.now c.in-Some-host_and_port.port.now c.in-Some-port_in.port (sym c.in-Some.ensures.1 ∙ sym c.in-Some-host_and_port.ensures) (search rules) c.in-Some.ensures.0 lawful
