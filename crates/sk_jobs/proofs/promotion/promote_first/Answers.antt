use Rattle.std.proofs.Common.{◌∙◌}
use Rattle.sk_cmd.specs.declared.argument.Side.TheVariants.{Left}
use Rattle.sk_places.specs.declared.row.Place.TheVariants.{Set}
use Rattle.sk_store.specs.Stored.{world}
use Rattle.sk_jobs.specs.Routing.{set_rows}
use Rattle.sk_jobs.proofs.Calling.{on_ok}
use Rattle.sk_jobs.proofs.Fronts.{front_named, front_text}
use Rattle.sk_jobs.proofs.Routing.{carried_left}
use Rattle.sk_jobs.proofs.promotion.promote_first.Goals as goal

pub returns-in-Some-head-clause-left : goal.returns-in-Some-head-clause-left
returns-in-Some-head-clause-left c = λ row more front. carried_left c.args.store.now c.promote_to.new.store row c.in_ok-queue-in-Some-head.queue Left (c.in_ok-promote_to-in-Some-head.ensures.ok row more front)

pub returns-clause-left : goal.returns-clause-left
returns-clause-left c = on_ok _ _ c.bury.result (λ left. λ row more front.
    let v = world c.args.store.now in
    let named = c.in_ok-text-in-None.ensures ∙ c.text.ensures ∙ front_text (Set c.args.set) row more v.rows _ front c.in-Some.ensures in
    left row (front_named c.in_ok-text-in-None.text row more (set_rows c.args.set v) front named)) c.bury.ensures.left
