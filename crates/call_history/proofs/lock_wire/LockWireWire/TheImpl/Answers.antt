-- A wire over a lock shows no calls and no replies, so the only goals about them are that it still shows none.
use Rattle.std.proofs.Common.{Result, Ok, Err, OnOk, OnErr, refl, inl, rules}
use Rattle.call_history.proofs.lock_wire.LockWireWire.TheImpl.Goals as goal

on_ok : {T E P : Type 0} (r : Result T E) → P → OnOk r P
on_ok (Ok v) p = p
on_ok (Err e) p = tt

on_err : {T E P : Type 0} (r : Result T E) → P → OnErr r P
on_err (Ok v) p = tt
on_err (Err e) p = p

pub ask-tells : goal.ask-tells
ask-tells g x x' c = record {
  line = search rules;
  call = on_ok c.result refl;
  reply = on_ok c.result refl;
  maybe_call = on_err c.result (inl refl);
  no_reply = on_err c.result refl;
}
