use Rattle.std.proofs.Common.{arith}
use Rattle.std.proofs.lemmas.Str.Pattern.{strip_prefix_char, strip_suffix_char}
use Rattle.match_plans.proofs.Words.{first-none, first-some, unbracketed}
use Rattle.match_plans.proofs.addresses.in_brackets.Goals as goal

pub returns-in_default : goal.returns-in_default
returns-in_default c = first-none c.args.text.now c.strip_prefix.result (strip_prefix_char 91 c.args.text.now c.strip_prefix.result c.strip_prefix.ensures.cases (omega arith)) c.in_default.is

pub returns : goal.returns
returns c =
    let first = strip_prefix_char 91 c.args.text.now c.strip_prefix.result c.strip_prefix.ensures.cases (omega arith) in
    let last = strip_suffix_char 93 c.in-Some.rest.now c.strip_suffix.result c.strip_suffix.ensures.cases (omega arith) in
    unbracketed c.args.text.now c.in-Some.rest.now c.strip_suffix.result (first-some c.args.text.now c.strip_prefix.result c.in-Some.rest first c.in-Some.is) last
