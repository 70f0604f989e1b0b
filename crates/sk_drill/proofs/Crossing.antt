-- The seats of a thread may go there, and a desk that stands on one of them.
use denote.RattleType.{RattleType}
use denote.Param.Send.{IsSend, IsSync, sendable}
use Rattle.std.proofs.Crossing.{crosses, frees, send}
use Rattle.std.proofs.sync.ledger.Book.TheSendSync.{the_send as ledger_send}
use Rattle.std.proofs.sync.ledger.Share.TheSendSync.{the_send as share_send}
use Rattle.std_collections.proofs.ListMemory.Crosses.{Nodes-send}
use Rattle.std_collections.specs.contracts.linked_list.LinkedList as LinkedList
use Rattle.std_collections.specs.contracts.linked_list.nodes.Nodes as Nodes
use Rattle.std_heap.specs.contracts.Global as Heap
use Rattle.std_heap.specs.contracts.GlobalAllocator.TheImpl.{ghosts}
use Rattle.sk_desk.proofs.Crossing.{core_send}
use Rattle.sk_desk.specs.contracts.entry.Entry as Entry
use Rattle.sk_desk.specs.contracts.full_book.CutPlace as CutPlace
use Rattle.sk_desk.specs.contracts.full_book.FullBook as FullBook
use Rattle.sk_desk.specs.contracts.hub.Hub as Hub
use Rattle.sk_desk.specs.contracts.ledgers.HubShare as HubShare
use Rattle.sk_desk.specs.contracts.locked_desk.LockedDesk as LockedDesk
use Rattle.sk_desk.specs.contracts.pass.Pass as Pass
use Rattle.sk_lane.specs.contracts.hub_seats.HubSeats as HubSeats

entry_send : IsSend Entry.the_field.row
entry_send = search (sendable, crosses) depth 60 fits 8000

nodes_send : (T : RattleType) → IsSend T → IsSend (Nodes.the_row T Heap.the_row ghosts)
nodes_send T s = Nodes-send T Heap.the_row ghosts s send frees

list_send : (T : RattleType) → IsSend T → IsSend (LinkedList.the_field T Heap.the_row ghosts).row
list_send T s = search (sendable, nodes_send, send) depth 40 fits 4000

pub book_send : IsSend FullBook.the_field.row
book_send = search (sendable, crosses, list_send, entry_send) depth 60 fits 8000

pub place_send : IsSend CutPlace.the_field.row
place_send = search (sendable, crosses, list_send, entry_send) depth 60 fits 8000

hub_share_send : (L : RattleType) (l : _) → IsSend L → IsSync L → IsSend (HubShare.the_field L l).row
hub_share_send L l s y = search (sendable, crosses, share_send) depth 60 fits 5000

pub hub_sync : (L B P : RattleType) (l : _) (b : _) → IsSend B → IsSync (Hub.the_field L B P l b).row
hub_sync L B P l b sends = search (sendable, crosses, core_send, ledger_send) depth 60 fits 5000

pass_send : (L : RattleType) (l : _) → IsSend L → IsSync L → IsSend (Pass.the_field L l).row
pass_send L l s y = search (sendable, hub_share_send) depth 60 fits 5000

pub seats_send : (a : _) (R L B P : RattleType) (l : _) (b : _) → IsSync R → IsSend L → IsSync L → IsSend B → IsSend (HubSeats.the_field a R L B P l b).row
seats_send a R L B P l b r s y sends = search (sendable, crosses, hub_sync, pass_send) depth 60 fits 5000

pub desk_send : (a : _) (R L B P : RattleType) (l : _) (b : _) → IsSync R → IsSend L → IsSync L → IsSend B → IsSend P → IsSend (LockedDesk.the_field a R L B P l b).row
desk_send a R L B P l b r s y sends place = search (sendable, crosses, hub_sync, hub_share_send) depth 60 fits 5000
