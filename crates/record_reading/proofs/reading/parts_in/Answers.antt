use Rattle.std.proofs.Common.{inr, ap, ◌∙◌, refl, subst, nat_cmp, string_bytes, string_cmp, None, option_map}
use Rattle.std.proofs.lemmas.List.{take_all}
use Rattle.std.specs.BTreeMap.{UpdatesBy, get_by_text}
use Rattle.std.specs.Cmp.Lexicographic.{slice_cmp}
use Rattle.serde_json.specs.Find.{get}
use Rattle.serde_json.specs.View.{view}
use Rattle.record_reading.specs.Internal.JsonValues.{data_of}
use Rattle.record_reading.specs.Internal.KeyReading.{HoldsForEach, IsReadAt}
use Rattle.record_reading.specs.RecordTree.{keys, version_said}
use Rattle.record_reading.proofs.KeyTable.{each_key, read_more, not_read}
use Rattle.record_reading.proofs.TakenKeys.{all_left, left_here, left_more}
use Rattle.record_reading.proofs.reading.parts_in.Goals as goal

pub loop-key-init : goal.loop-key-init
loop-key-init g c = record { read = tt; left = all_left (view c.args.tree) c.into_object-members.result c.into_object-members.ensures keys }

pub loop-key-preserved : goal.loop-key-preserved
loop-key-preserved g c =
    let rules = g.G.Game.rules c.args.game.now in
    let tree = view c.args.tree in
    let was = c.loop-key.invariant in
    let here = left_here tree c.loop-key.members c.loop-key.key-index _ c.loop-key-test.true was.left in
    let found = ap (option_map view) c.remove-found.ensures.value ∙ ap (λ text. option_map view (get_by_text c.loop-key.members text)) c.text-in-loop-key.ensures ∙ here in
    record {
      read = read_more rules tree c.version_in-version.result (data_of c.remove-found.result) c.loop-key.parts c.read_into.new.parts c.loop-key.key-index _ c.in_ok-read_into.field-0 c.loop-key-test.true (c.version_in-version.ensures.said ∙ ap version_said (c.get.ensures ∙ ap (λ text. get text tree) c.text.ensures)) found c.in_ok-read_into.ensures.read c.if-not-branch.false c.in_ok-read_into.ensures.kept was.read;
      left = left_more tree c.loop-key.members c.remove-found.new.self c.loop-key.key-index _ c.loop-key-test.true (subst (λ text. UpdatesBy string_cmp (λ k. slice_cmp nat_cmp text (string_bytes k)) c.loop-key.members c.remove-found.new.self None) c.text-in-loop-key.ensures c.remove-found.ensures.updates) was.left;
    }

pub returns-then-not-branch-clause-err : goal.returns-then-not-branch-clause-err
returns-then-not-branch-clause-err g c =
    let rules = g.G.Game.rules c.args.game.now in
    let tree = view c.args.tree in
    let was = c.loop-key.invariant in
    let here = left_here tree c.loop-key.members c.loop-key.key-index _ c.loop-key-test.true was.left in
    let found = ap (option_map view) c.remove-found.ensures.value ∙ ap (λ text. option_map view (get_by_text c.loop-key.members text)) c.text-in-loop-key.ensures ∙ here in
    inr (_, refl, not_read rules tree c.version_in-version.result (data_of c.remove-found.result) c.loop-key.parts c.read_into.new.parts c.loop-key.key-index _ c.in_ok-read_into.field-0 c.loop-key-test.true (c.version_in-version.ensures.said ∙ ap version_said (c.get.ensures ∙ ap (λ text. get text tree) c.text.ensures)) found c.in_ok-read_into.ensures.read c.if-not-branch.true was.read)

pub returns-clause-ok : goal.returns-clause-ok
returns-clause-ok g c =
    let IsRead = IsReadAt (g.G.Game.rules c.args.game.now) (view c.args.tree) c.loop-key.parts in
    let all = each_key IsRead (subst (HoldsForEach IsRead) (take_all c.loop-key.key-index keys c.loop-key-test.false) c.loop-key.invariant.read) in
    (λ key. (all key).0, λ key. (all key).1)
