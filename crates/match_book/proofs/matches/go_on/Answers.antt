use Rattle.std.proofs.Common.{◌≡◌, ◌∷◌, ◌++◌, [], ◌-◌, arith, ap, ◌∙◌, length, length-append, set}
use Rattle.std.proofs.Math.Seq.{set-append_seam}
use Rattle.match_book.proofs.matches.go_on.Goals as goal

pub returns-clause-past : goal.returns-clause-past
returns-clause-past g c =
    let past = c.args.past.now.items in
    let wide = length-append past (c.args.next ∷ []) in
    let last : c.len-last.result - 1 ≡ length past = omega (arith, c.len-last.ensures, c.push.new.self.ok.0, ap length c.in_ok-push.ensures.items, wide) in
    ap (λ xs. set xs (c.len-last.result - 1) c.swap.new.y) c.in_ok-push.ensures.items
    ∙ (ap (λ n. set (past ++ c.args.next ∷ []) n c.swap.new.y) last
    ∙ (set-append_seam past c.args.next [] c.swap.new.y ∙ ap (λ x. past ++ x ∷ []) c.swap.ensures.y_after))
