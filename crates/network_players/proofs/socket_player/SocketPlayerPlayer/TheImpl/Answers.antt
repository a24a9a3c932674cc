-- A player on the network shows no messages, before or after.
use Rattle.std.proofs.Common.{Result, Ok, Err, IfOk, OnErr, inr, refl}
use Rattle.network_players.proofs.socket_player.SocketPlayerPlayer.TheImpl.Goals as goal

if_ok : {T E : Type 0} (Q : T → Type 0) (r : Result T E) → ((x : T) → Q x) → IfOk r Q
if_ok Q (Ok x) every = every x
if_ok Q (Err e) every = tt

on_err : {T E P : Type 0} (r : Result T E) → P → OnErr r P
on_err (Ok x) p = tt
on_err (Err e) p = p

pub ask_shared-tells : goal.ask_shared-tells
ask_shared-tells g c = record { told = if_ok _ c.result (λ _. inr refl); nothing = on_err c.result refl }

pub ask-tells : goal.ask-tells
ask-tells g c = inr refl
