-- What the loops of a server share may be shared by threads.
use denote.RattleType.{RattleType}
use denote.Param.Send.{IsSend, IsSync, sendable}
use Rattle.std.proofs.Crossing.{crosses}
use Rattle.std.proofs.sync.ledger.Book.TheSendSync.{the_send as book_send}
use Rattle.sk_desk.proofs.Crossing.{core_send}
use Rattle.sk_desk.specs.contracts.hub.Hub as Hub
use Rattle.sk_serve.specs.contracts.shared.Shared as Shared

pub hub_sync : (L B P : RattleType) (l : _) (b : _) → IsSend B → IsSync (Hub.the_field L B P l b).row
hub_sync L B P l b sends = search (sendable, crosses, core_send, book_send) depth 60 fits 5000

pub shared_sync : (a : _) (R L B W G P S : RattleType) (l : _) (b : _) → IsSync R → IsSend B → IsSync W → IsSync G → IsSync (Shared.the_field a R L B W G P S l b).row
shared_sync a R L B W G P S l b r sends w g = search (sendable, crosses, hub_sync) depth 60 fits 5000

pub shared_sync_row : (a : _) (R L B W G P S : RattleType) (l : _) (b : _) → IsSync R → IsSend B → IsSync W → IsSync G → IsSync (Shared.the_row a R L B W G P S l b)
shared_sync_row a R L B W G P S l b r sends w g = search (sendable, crosses, shared_sync) depth 60 fits 5000
