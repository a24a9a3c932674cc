use Rattle.std.proofs.Common.{◌≡◌, IsTrue, IfSome, map, drop}
use Rattle.std.specs.Option.{option_copied}
use Rattle.httparse.specs.Spans.{header_bytes}
use Rattle.game_core.specs.Numerals.{are_digits}
use Rattle.http_exchange.specs.BodyLength.{body_length, length_fault}
use Rattle.http_exchange.specs.Internal.Heads.{length_of}
use Rattle.http_exchange.proofs.FieldSteps.{after, fault_after}
use Rattle.http_exchange.proofs.body_length.said_length.Given as goal

abbrev pub invariant-loop-header : goal.invariant-loop-header
invariant-loop-header l = record {
  length : after (length_of (option_copied l.said)) (map (header_bytes l.buf) (drop l.header-index l.headers)) ≡ body_length (map (header_bytes l.buf) l.headers);
  fault : fault_after (length_of (option_copied l.said)) (map (header_bytes l.buf) (drop l.header-index l.headers)) ≡ length_fault (map (header_bytes l.buf) l.headers);
  numeral : IfSome (option_copied l.said) (λ digits. IsTrue (are_digits digits));
}
