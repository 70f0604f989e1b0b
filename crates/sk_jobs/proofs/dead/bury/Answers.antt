use Rattle.std.proofs.Common.{◌∙◌, ap}
use Rattle.sk_model.specs.Jobs.{put_dead}
use Rattle.sk_model.proofs.Tools.Outcomes.{if_ok}
use Rattle.sk_places.specs.Rows.{rows_at}
use Rattle.sk_store.specs.Stored.{world}
use Rattle.sk_jobs.specs.Callbacks.{member_of}
use Rattle.sk_jobs.proofs.Burying.{buried_after}
use Rattle.sk_jobs.proofs.Calling.{on_ok}
use Rattle.sk_jobs.proofs.Fronts.{text_of_row}
use Rattle.sk_jobs.proofs.dead.bury.Goals as goal

pub returns-clause-ok : goal.returns-clause-ok
returns-clause-ok c = if_ok _ _ c.bury_put.result (λ report sent. λ row there.
    let v = world c.args.store.now in
    let named = text_of_row c.args.text.now row (rows_at c.args.from.now v.rows) there in
    buried_after v (world c.put_dead.new.store) (world c.bury_put.new.store) (put_dead v row) row.text report (c.in_ok-put_dead.ensures.ok row there).put (sent row.text (c.requires.member ∙ ap member_of named))) c.bury_put.ensures.ok

pub returns-clause-left : goal.returns-clause-left
returns-clause-left c = on_ok _ _ c.bury_put.result (λ stays. λ row there. λ test others aside front. stays test others aside ((c.in_ok-put_dead.ensures.ok row there).left test others aside front)) c.bury_put.ensures.aside
