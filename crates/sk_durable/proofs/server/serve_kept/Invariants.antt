use Rattle.sk_log.specs.File.{IsAt}
use Rattle.sk_durable.specs.Writes.{IsKeptLog}
use Rattle.sk_durable.proofs.server.serve_kept.Given as goal

-- the hub begins at the store,
abbrev pub ghosts-serve_on-I-HubId : goal.ghosts-serve_on-I-HubId
ghosts-serve_on-I-HubId g a = record { acks = a.named.0.acks; asks = a.named.0.asks; cuts = a.named.0.cuts; start = a.store.core }

-- and what a leader takes is what a log keeps of a run from there
abbrev pub ghosts-serve_on-J-LogId : goal.ghosts-serve_on-J-LogId
ghosts-serve_on-J-LogId g a = record {
  book = a.named.1;
  starts = λ events. IsAt events a.store.log (g.D.Disk.may_leave a.store.disk);
  faults = g.D.Disk.disk_faults a.store.disk;
  since = g.D.Disk.moment a.store.disk;
  holds = λ bodies. IsKeptLog a.store.core bodies;
}
