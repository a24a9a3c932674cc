use Rattle.std.proofs.Common.{◌≡◌, drop, nat_le}
use Rattle.game_core.specs.Expression.{depth_all}
use Rattle.kif_text.specs.View.{views}
use Rattle.rule_sentences.proofs.terms.+nests_at_most.Given as goal

abbrev pub invariant-all_nest_at_most-loop-member : goal.invariant-all_nest_at_most-loop-member
invariant-all_nest_at_most-loop-member l = nat_le (depth_all (views (drop l.member-index l.member-items))) l.lists ≡ nat_le (depth_all (views l.member-items)) l.lists
