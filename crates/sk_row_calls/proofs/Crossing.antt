-- What threads that push share may be used in each of them.
use denote.RattleType.{RattleType}
use denote.Param.Send.{IsSync, sendable}
use Rattle.std.proofs.Crossing.{crosses}
use Rattle.sk_serve.proofs.Crossing.{hub_sync}
use Rattle.sk_row_calls.specs.contracts.calls.pushers.Shared as Shared

shared_sync : (a : _) (R L : RattleType) (l : _) → IsSync R → IsSync (Shared.the_field a R L l).row
shared_sync a R L l r = search (sendable, crosses, hub_sync) depth 60 fits 5000

pub shared_sync_row : (a : _) (R L : RattleType) (l : _) → IsSync R → IsSync (Shared.the_row a R L l)
shared_sync_row a R L l r = search (sendable, crosses, shared_sync) depth 60 fits 5000
