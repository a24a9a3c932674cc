use Rattle.std.proofs.Common.{◌≡◌, ◌∙◌, sym, ap, length, arith}
use Rattle.std.proofs.lemmas.Result.{err_from_is_err_and}
use Rattle.rule_sentences.specs.SentenceViews.{rules_of}
use Rattle.rule_sentences.specs.Descriptions.{role_names}
use Rattle.ground_rules.proofs.Limits.{too-many-sentences, too-many-atomics, too-many-roles, few-so-far}
use Rattle.ground_rules.proofs.loading.names_of.Goals as goal
use Rattle.ground_rules.proofs.loading.names_of.Goals.{then-sentences-via-then-sentences, then-sentences-via-else-sentences+then-not-few_atomics, then-sentences-via-else-sentences+else-not-few_atomics+then-len-gt-MAX_ROLES}

pub returns-in_err-roles-clause-fault : goal.returns-in_err-roles-clause-fault
returns-in_err-roles-clause-fault c = let p = err_from_is_err_and c.from_residual.result c.from_residual.ensures.1 in rw (p.1, p.2) (c.in_err-roles.ensures.fault c.args.limits c.args.sentences)

pub returns-then-sentences-clause-fault : goal.returns-then-sentences-clause-fault
returns-then-sentences-clause-fault c =
    let d = rules_of c.args.rules.now in (
      record { some' = c.in_ok-roles.ensures.some; differ = c.in_ok-roles.ensures.differ },
      elim c.then-sentences.branch [
        | then-sentences-via-then-sentences w ↦ too-many-sentences c.args.limits c.args.sentences d (omega (arith, c.sentences.ensures, w.if-sentences.true))
        | then-sentences-via-else-sentences+then-not-few_atomics w ↦ too-many-atomics c.args.limits c.args.sentences d (sym c.in_ok-few_atomics.ensures ∙ w.if-not-few_atomics.true)
        | then-sentences-via-else-sentences+else-not-few_atomics+then-len-gt-MAX_ROLES w ↦
            let size : w.len.result ≡ length (role_names d) = w.len.ensures.len ∙ ap length c.in_ok-roles.ensures.names in
            too-many-roles c.args.limits c.args.sentences w.len.result d size w.if-len-gt-MAX_ROLES.true
      ],
    )

pub returns-clause-table : goal.returns-clause-table
returns-clause-table c = record { heads' = c.in_ok-heads.ensures; roles = c.in_ok-roles.ensures.names; states_ordered = c.in_ok-states.ensures.ordered; moves_ordered = c.in_ok-moves.ensures.ordered; states = c.in_ok-states.ensures.same; moves = c.in_ok-moves.ensures.same }

pub returns-clause-roles : goal.returns-clause-roles
returns-clause-roles c = record { some' = c.in_ok-roles.ensures.some; differ = c.in_ok-roles.ensures.differ }

pub returns-clause-small : goal.returns-clause-small
returns-clause-small c =
    let d = rules_of c.args.rules.now in
    let size : c.len.result ≡ length (role_names d) = c.len.ensures.len ∙ ap length c.in_ok-roles.ensures.names in
    few-so-far c.args.limits c.args.sentences c.len.result d (omega (arith, c.sentences.ensures, c.if-sentences.false)) (sym c.in_ok-few_atomics.ensures ∙ c.if-not-few_atomics.false) size (omega (arith, c.if-len-gt-MAX_ROLES.false))
