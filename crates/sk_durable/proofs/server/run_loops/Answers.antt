use denote.Param.Send.{sendable}
use Rattle.sk_durable.proofs.Crossing.{settler_send_row, settlers_sync_row}
use Rattle.sk_durable.proofs.server.run_loops.Goals as goal

pub serve_at-requires-send-W-Settler : goal.serve_at-requires-send-W-Settler
serve_at-requires-send-W-Settler g c κs within = search (sendable, settler_send_row) depth 80 fits 10000

pub serve_at-requires-sync-W : goal.serve_at-requires-sync-W
serve_at-requires-sync-W g c κs within = search (sendable, settlers_sync_row) depth 80 fits 10000
