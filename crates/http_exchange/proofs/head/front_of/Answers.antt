use Rattle.std.proofs.Common.{◌≡◌, ℕ, List, min, length, take, arith, ap, ◌∙◌}
use Rattle.http_exchange.specs.HttpHead.{max_head}
use Rattle.std.proofs.lemmas.List.{take_min}
use Rattle.http_exchange.proofs.head.front_of.Goals as goal

take_least : (bytes : List ℕ) (n m : ℕ) → m ≡ min (length bytes) n → take m bytes ≡ take n bytes
take_least bytes n m h =
    let same : m ≡ min n (length bytes) = omega arith in
    ap (λ k. take k bytes) same ∙ take_min n bytes

pub returns : goal.returns
returns c = take_least c.args.bytes.now max_head c.min.result c.min.ensures
