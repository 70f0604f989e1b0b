use Rattle.std.proofs.Common.{◌≡◌, ◌*◌, ◌∙◌, pos, min, [], ◌∷◌, ap, arith}
use Rattle.sk_base.specs.Score.{last_moment}
use Rattle.sk_cmd.specs.declared.argument.Scored.TheVariants.{Dead}
use Rattle.sk_model.specs.Change.{changed}
use Rattle.sk_model.specs.Jobs.{buried_by, moment_score}
use Rattle.sk_model.specs.Sets.{put_back}
use Rattle.sk_model.proofs.Tools.Outcomes.{if_ok}
use Rattle.sk_places.specs.Rows.{row_of}
use Rattle.sk_store.specs.Stored.{world}
use Rattle.sk_jobs.specs.Routing.{dead_rows}
use Rattle.sk_jobs.proofs.Burying.{buried_after}
use Rattle.sk_jobs.proofs.Covering.{put_quiet, quiet_covered}
use Rattle.sk_jobs.proofs.burials.bury_payload.Goals as goal

pub returns-clause-ok : goal.returns-clause-ok
returns-clause-ok c =
    let v = world c.args.store.now in
    let payload = c.args.payload in
    let now : min v.moment last_moment ≡ v.moment = omega (arith, c.requires.early) in
    let score : c.of_moment-score.result ≡ moment_score v = c.of_moment-score.ensures ∙ ap (λ n. pos (n * 1000)) now in
    let put = put_back v Dead (moment_score v, payload) ∷ [] in
    let mid = c.in_ok-put_back.ensures.ok ∙ ap (λ s. changed v (put_back v Dead (s, payload))) score in
    let sent = buried_after v (world c.put_back.new.store) (world c.bury_put.new.store) put payload c.in_ok-report.report mid (c.in_ok-report.ensures.ok payload c.in_ok-member.ensures) in
    if_ok _ _ c.into_reply.result (λ reply tells. tells v (world c.bury_put.new.store) (buried_by v payload put) sent) c.into_reply.ensures

pub bury_put-requires-clause-covered : goal.bury_put-requires-clause-covered
bury_put-requires-clause-covered c =
    let v = world c.args.store.now in
    quiet_covered v (world c.put_back.new.store) (put_back v Dead (c.of_moment-score.result, c.args.payload) ∷ []) c.in_ok-put_back.ensures.ok (put_quiet Dead (c.of_moment-score.result, c.args.payload) (row_of c.args.payload (dead_rows v))) c.requires.covered
