-- If the games, their states and their moves may be sent to another thread, a manager of their matches may be sent too.
use denote.RattleType.{RattleType}
use denote.Param.Send.{IsSend, sendable}
use Rattle.std.proofs.Crossing.{crosses}
use Rattle.game_core.specs.declared.game.Game.{Ghosts}
use Rattle.match_book.specs.contracts.matches.Match as Match
use Rattle.match_desk.specs.contracts.manager.Manager as Manager
use Rattle.match_desk.specs.contracts.slot.Slot as Slot

module _ (G S M : RattleType) (g : Ghosts G.Denot S.Denot M.Denot) (games : IsSend G) (states : IsSend S) (moves : IsSend M) where
  match_send : IsSend (Match.the_field G S M g).row
  match_send = search (sendable, crosses) depth 40

  slot_send : IsSend (Slot.the_field G S M g).row
  slot_send = let m : IsSend (Match.the_field G S M g).row = match_send in search (sendable, crosses) depth 40

  pub manager_send : IsSend (Manager.the_row G S M g)
  manager_send = let s : IsSend (Slot.the_field G S M g).row = slot_send in search (sendable, crosses) depth 40
