use Rattle.std.proofs.Common.{◌≡◌, ◌∙◌, ap, sym, inl, inr}
use Rattle.std.proofs.lemmas.Result.{err_from_is_err_and}
use Rattle.rule_sentences.specs.SentenceViews.{rules_of}
use Rattle.ground_rules.specs.Internal.Resolved.{table_of}
use Rattle.rule_sentences.specs.Sizes.{is_small}
use Rattle.ground_rules.specs.Internal.GameParts.{have_few_moves_by}
use Rattle.ground_rules.proofs.Limits.{small-by-moves, few-roles-so-far}
use Rattle.ground_rules.proofs.loading.game_parts.Goals as goal

pub returns-then-not-have_few_moves-clause-fault : goal.returns-then-not-have_few_moves-clause-fault
returns-then-not-have_few_moves-clause-fault c =
    let d = rules_of c.args.rules.now in
    let t = table_of c.in_ok-names.names in
    let table = c.in_ok-names.ensures.table in
    let small : is_small c.args.limits c.args.sentences d ≡ c.have_few_moves.result = small-by-moves c.args.limits c.args.sentences t d table.heads' table.roles c.in_ok-names.ensures.small ∙ ap have_few_moves_by (sym c.in_ok-roles.ensures) ∙ ap have_few_moves_by (sym c.deref.ensures.value) ∙ sym c.have_few_moves.ensures in
    (c.in_ok-names.ensures.roles, small ∙ c.if-not-have_few_moves.true)

pub returns-in_err-roles-clause-fault : goal.returns-in_err-roles-clause-fault
returns-in_err-roles-clause-fault c = let p = err_from_is_err_and c.from_residual-in_err-roles.result c.from_residual-in_err-roles.ensures.1 in rw (p.1, p.2) tt

pub returns-in_err-ranked-clause-fault : goal.returns-in_err-ranked-clause-fault
returns-in_err-ranked-clause-fault c =
    let d = rules_of c.args.rules.now in
    let t = table_of c.in_ok-names.names in
    let table = c.in_ok-names.ensures.table in
    let small : is_small c.args.limits c.args.sentences d ≡ c.have_few_moves.result = small-by-moves c.args.limits c.args.sentences t d table.heads' table.roles c.in_ok-names.ensures.small ∙ ap have_few_moves_by (sym c.in_ok-roles.ensures) ∙ ap have_few_moves_by (sym c.deref.ensures.value) ∙ sym c.have_few_moves.ensures in
    let p = err_from_is_err_and c.from_residual-in_err-ranked.result c.from_residual-in_err-ranked.ensures.1 in
    rw (p.1, p.2) (elim c.in_err-ranked.ensures.cyclic [
      | inl memory ↦ rw memory tt
      | inr cyclic ↦ rw cyclic.0 (c.in_ok-names.ensures.roles, small ∙ c.if-not-have_few_moves.false, cyclic.1)
    ])

pub returns-in_err-rules-clause-fault : goal.returns-in_err-rules-clause-fault
returns-in_err-rules-clause-fault c =
    let d = rules_of c.args.rules.now in
    let t = table_of c.in_ok-names.names in
    let table = c.in_ok-names.ensures.table in
    let small : is_small c.args.limits c.args.sentences d ≡ c.have_few_moves.result = small-by-moves c.args.limits c.args.sentences t d table.heads' table.roles c.in_ok-names.ensures.small ∙ ap have_few_moves_by (sym c.in_ok-roles.ensures) ∙ ap have_few_moves_by (sym c.deref.ensures.value) ∙ sym c.have_few_moves.ensures in
    let acyclic = c.in_ok-ranked.ensures.acyclic in
    let p = err_from_is_err_and c.from_residual-in_err-rules.result c.from_residual-in_err-rules.ensures.1 in
    rw (p.1, p.2) (elim c.in_err-rules.ensures.fault [
      | inl memory ↦ rw memory tt
      | inr depends ↦ rw depends.0 (c.in_ok-names.ensures.roles, small ∙ c.if-not-have_few_moves.false, acyclic, depends.1 d table acyclic c.in_ok-ranked.ensures.ranked)
    ])

pub returns-clause-sound : goal.returns-clause-sound
returns-clause-sound c =
    let d = rules_of c.args.rules.now in
    let t = table_of c.in_ok-names.names in
    let table = c.in_ok-names.ensures.table in
    let small : is_small c.args.limits c.args.sentences d ≡ c.have_few_moves.result = small-by-moves c.args.limits c.args.sentences t d table.heads' table.roles c.in_ok-names.ensures.small ∙ ap have_few_moves_by (sym c.in_ok-roles.ensures) ∙ ap have_few_moves_by (sym c.deref.ensures.value) ∙ sym c.have_few_moves.ensures in
    let parts = c.in_ok-rules.ensures.split d table c.in_ok-ranked.ensures.acyclic c.in_ok-ranked.ensures.ranked in
    record { roles = c.in_ok-names.ensures.roles; small = small ∙ c.if-not-have_few_moves.false; acyclic = c.in_ok-ranked.ensures.acyclic; independent = parts.0 }

pub returns-clause-parts : goal.returns-clause-parts
returns-clause-parts c =
    let d = rules_of c.args.rules.now in
    let table = c.in_ok-names.ensures.table in
    let parts = c.in_ok-rules.ensures.split d table c.in_ok-ranked.ensures.acyclic c.in_ok-ranked.ensures.ranked in
    record {
      names = record {
        roles' = c.in_ok-names.ensures.roles;
        few_roles = few-roles-so-far c.args.limits c.args.sentences d c.in_ok-names.ensures.small;
        acyclic = c.in_ok-ranked.ensures.acyclic;
        table = table;
        tables = c.in_ok-roles.ensures;
      };
      split = parts.1;
    }
