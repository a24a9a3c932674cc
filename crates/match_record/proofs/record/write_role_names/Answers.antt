use Rattle.std.proofs.Common.{◌≡◌, ◌<◌, sym, subst, ap, map, arith, ◌∙◌, ◌∷◌, []}
use Rattle.std.specs.Str.{IsAscii}
use Rattle.std.proofs.lemmas.List.{map-append}
use Rattle.serde_json.specs.Data.{string}
use Rattle.match_record.specs.Internal.Written.{IsWritten, HasBegun}
use Rattle.record_reading.specs.RecordParts.{each_role}
use Rattle.record_reading.specs.RecordTree.{list_tree}
use Rattle.match_record.proofs.Ascii.{folded_text_is_ascii}
use Rattle.match_record.proofs.RecordLists.{each_role-more}
use Rattle.match_record.proofs.WrittenRecords.{one_added, begun_more, list_written}
use Rattle.match_record.proofs.record.write_role_names.Goals as goal

pub write_text-requires : goal.write_text-requires
write_text-requires g c =
    let within : c.loop-role.role < (g.G.Game.rules c.args.game.now).roles = omega (arith, c.roles-role-end.ensures, c.loop-role-test.true) in
    subst IsAscii (sym c.role_name.ensures) (folded_text_is_ascii ((g.G.Game.rules c.args.game.now).role_name c.loop-role.role) ((g.met.G.Game.laws c.args.game.now).role_names_folded c.loop-role.role within))

pub loop-role-init : goal.loop-role-init
loop-role-init g c = one_added c.in_ok-begin_array.ensures

pub loop-role-preserved : goal.loop-role-preserved
loop-role-preserved g c =
    let name = (g.G.Game.rules c.args.game.now).role_name in
    let role = c.loop-role.role in
    subst (HasBegun c.args.out.now c.write_text.new.out) (sym (ap (map string) (each_role-more role name) ∙ map-append string (each_role role name) (name role ∷ [])))
    (begun_more (map string (each_role role name)) (string (name role)) c.loop-role.invariant
    (subst (λ text. IsWritten c.loop-role.out c.write_text.new.out (string text)) c.role_name.ensures c.in_ok-write_text.ensures.written))

pub returns-clause-written : goal.returns-clause-written
returns-clause-written g c =
    let rules = g.G.Game.rules c.args.game.now in
    let all : c.loop-role.role ≡ rules.roles = omega (arith, c.loop-role-test.false, c.loop-role.auto.role-end, c.roles-role-end.ensures) in
    subst (λ n. IsWritten c.args.out.now c.end_array.new.self (list_tree (map string (each_role n rules.role_name)))) all
    (list_written (map string (each_role c.loop-role.role rules.role_name)) c.loop-role.invariant (one_added c.in_ok-end_array.ensures))
