use Rattle.sk_app.proofs.LogServeRuns.{came}
use Rattle.sk_app.proofs.log_serve.serve_over.Goals as goal

pub returns-clause-told : goal.returns-clause-told
returns-clause-told g c = came g.N.Door g.N.Ear.Ear g.N.Conn.Source g.N.Conn.Sink g.C.Clock g.D.Disk c.args.line.now _ _ _ _ _ _ c.outcome_at.ensures (record {
  store = c.in-Ok.store;
  begun = c.ready.new.disk;
  ready = c.in-Ok.ensures.ready;
  ended = rw c.from-sessions.ensures at c.serve_kept-kept.ensures.ended;
  left = c.serve_kept-kept.ensures.left;
  later = c.ready.ensures.later;
})
