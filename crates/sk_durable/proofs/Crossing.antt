-- What a server's threads share of a kept store may be shared by them.
use denote.RattleType.{RattleType}
use denote.Param.Send.{IsSend, IsSync, sendable}
use Rattle.std.proofs.Crossing.{crosses}
use Rattle.logbook.proofs.tokens.Seen.TheSendSync.{the_send as seen_send}
use Rattle.logbook.proofs.word.Word.TheSendSync.{the_send as word_send}
use Rattle.sk_serve.proofs.Crossing.{hub_sync}
use Rattle.sk_desk.specs.contracts.hub.Hub as Hub
use Rattle.sk_commit.specs.contracts.committer.Committer as Committer
use Rattle.sk_commit.specs.contracts.pending.Pending as Pending
use Rattle.sk_commit.specs.contracts.stored.Durable as Durable
use Rattle.sk_durable.specs.contracts.flush_timer.FlushTimer as FlushTimer
use Rattle.sk_durable.specs.contracts.log_book.LogBook as LogBook
use Rattle.sk_durable.specs.contracts.hub_backlog.mark.Mark as Mark
use Rattle.sk_durable.specs.contracts.hub_backlog.HubBacklog as HubBacklog
use Rattle.sk_durable.specs.contracts.log_settler.LogSettler as LogSettler
use Rattle.sk_durable.specs.contracts.log_settlers.LogSettlers as LogSettlers

pending_send : (J : RattleType) (j : _) → IsSend J → IsSync J → IsSend (Pending.the_field J j).row
pending_send J j send sync = search (sendable, crosses, seen_send, word_send) depth 60 fits 5000

book_send : (J : RattleType) (j : _) → IsSend J → IsSync J → IsSend (LogBook.the_field J j).row
book_send J j send sync = search (sendable, crosses, pending_send) depth 60 fits 5000

pub book_send_row : (J : RattleType) (j : _) → IsSend J → IsSync J → IsSend (LogBook.the_row J j)
book_send_row J j send sync = search (sendable, crosses, book_send) depth 60 fits 5000

backlog_sync : (a : _) (L J : RattleType) (l : _) (j : _) → IsSend J → IsSync J → IsSync (HubBacklog.the_field a L J l j).row
backlog_sync a L J l j send sync = search (sendable, crosses, hub_sync, book_send_row) depth 60 fits 5000

durable_send : (J : RattleType) (j : _) → IsSend J → IsSync J → IsSend (Durable.the_field J j).row
durable_send J j send sync = search (sendable, crosses, seen_send) depth 60 fits 5000

durable_send_row : (J : RattleType) (j : _) → IsSend J → IsSync J → IsSend (Durable.the_row J j)
durable_send_row J j send sync = search (sendable, crosses, durable_send) depth 60 fits 5000

committer_sync : (D J : RattleType) (d : _) (j : _) → IsSend D → IsSend J → IsSync J → IsSync (Committer.the_field D J d j).row
committer_sync D J d j disk send sync = search (sendable, crosses, seen_send, durable_send_row) depth 100 fits 10000

mark_send : (L J : RattleType) (l : _) (j : _) → IsSend L → IsSend J → IsSync J → IsSend (Mark.the_field L J l j).row
mark_send L J l j hub send sync = search (sendable, crosses, seen_send) depth 60 fits 5000

mark_send_row : (L J : RattleType) (l : _) (j : _) → IsSend L → IsSend J → IsSync J → IsSend (Mark.the_row L J l j)
mark_send_row L J l j hub send sync = search (sendable, crosses, mark_send) depth 60 fits 5000

settler_send : (a : _) (R D L J M : RattleType) (d : _) (l : _) (j : _) (m : _) → IsSync R → IsSend D → IsSend L → IsSend J → IsSync J → IsSync M
    → IsSend (LogSettler.the_field a R D L J M d l j m).row
settler_send a R D L J M d l j m r disk hub send sync mode = search (sendable, crosses, backlog_sync, committer_sync, durable_send, mark_send_row) depth 60 fits 5000

pub settler_send_row : (a : _) (R D L J M : RattleType) (d : _) (l : _) (j : _) (m : _) → IsSync R → IsSend D → IsSend L → IsSend J → IsSync J → IsSync M
    → IsSend (LogSettler.the_row a R D L J M d l j m)
settler_send_row a R D L J M d l j m r disk hub send sync mode = search (sendable, crosses, settler_send) depth 60 fits 5000

settlers_sync : (a : _) (R D L J M : RattleType) (d : _) (l : _) (j : _) → IsSync R → IsSend D → IsSend J → IsSync J → IsSync M
    → IsSync (LogSettlers.the_field a R D L J M d l j).row
settlers_sync a R D L J M d l j r disk send sync mode = search (sendable, crosses, backlog_sync, committer_sync) depth 60 fits 5000

pub settlers_sync_row : (a : _) (R D L J M : RattleType) (d : _) (l : _) (j : _) → IsSync R → IsSend D → IsSend J → IsSync J → IsSync M
    → IsSync (LogSettlers.the_row a R D L J M d l j)
settlers_sync_row a R D L J M d l j r disk send sync mode = search (sendable, crosses, settlers_sync) depth 60 fits 5000

-- and what its thread that flushes gets

pub hub_sync_row : (L B P : RattleType) (l : _) (b : _) → IsSend B → IsSync (Hub.the_row L B P l b)
hub_sync_row L B P l b sends = search (sendable, crosses, hub_sync) depth 60 fits 5000

pub committer_sync_row : (D J : RattleType) (d : _) (j : _) → IsSend D → IsSend J → IsSync J → IsSync (Committer.the_row D J d j)
committer_sync_row D J d j disk send sync = search (sendable, crosses, committer_sync) depth 60 fits 5000

pub timer_sync_row : IsSync FlushTimer.the_row
timer_sync_row = search (sendable, crosses) depth 60 fits 5000
