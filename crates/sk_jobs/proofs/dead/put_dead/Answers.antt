use Rattle.std.proofs.Common.{◌≡◌, ◌*◌, ◌∙◌, min, List, ℕ, ap, arith, pos}
use Rattle.sk_base.specs.Score.{last_moment}
use Rattle.sk_places.specs.declared.row.Place.TheVariants.{Set}
use Rattle.sk_cmd.specs.declared.argument.Scored.TheVariants.{Dead}
use Rattle.sk_cmd.specs.declared.argument.Side.TheVariants.{Left}
use Rattle.sk_places.specs.Placed.{moved_if, without_if}
use Rattle.sk_places.specs.Rows.{row_of, rows_at}
use Rattle.sk_model.specs.Jobs.{moment_score}
use Rattle.sk_store.specs.Stored.{world}
use Rattle.sk_jobs.proofs.Burying.{put_dead_is, put_dead_left}
use Rattle.sk_jobs.proofs.Covering.{moved_jobs, placed_covered, without_jobs}
use Rattle.sk_jobs.proofs.dead.put_dead.Goals as goal

pub returns-clause-ok : goal.returns-clause-ok
returns-clause-ok c = λ row there.
    let w = world c.args.store.now in
    let p = c.args.store.now.places.current in
    let mid = c.drop_text.new.self.current in
    let new = c.shift_text.new.self.current in
    let score = c.of_moment-score.result in
    let from = c.args.from.now in
    let text = c.args.text.now in
    let few : min w.moment last_moment ≡ w.moment = omega (arith, c.requires.early) in
    let scored : score ≡ moment_score w = c.of_moment-score.ensures ∙ ap (λ n. pos (n * 1000)) few in
    let dropped = ap (λ s. s.current) c.in_ok-drop_text.ensures.ok ∙ ap (λ (t : List ℕ). without_if Left (row_of t (rows_at (Set Dead) p.rows)) p) c.bytes.ensures in
    let moved = ap (λ s. s.current) c.in_ok-shift_text.ensures.ok ∙ ap (λ (t : List ℕ). moved_if Left (row_of t (rows_at from mid.rows)) (Set Dead) score Left mid) c.bytes-2.ensures in
    record {
      put = put_dead_is w from text row p mid new score c.requires.alive there scored dropped moved;
      left = λ test others aside front. put_dead_left test from text row others p mid new score aside c.requires.alive there front dropped moved;
    }

pub returns-clause-covered : goal.returns-clause-covered
returns-clause-covered c =
    placed_covered c.args.store.now c.shift_text.new.self (ap (λ s. s.current.jobs) c.in_ok-shift_text.ensures.ok ∙ moved_jobs _ (Set Dead) c.of_moment-score.result Left c.drop_text.new.self.current
    ∙ ap (λ s. s.current.jobs) c.in_ok-drop_text.ensures.ok ∙ without_jobs _ c.args.store.now.places.current) c.requires.covered
