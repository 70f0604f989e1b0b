use Rattle.std.proofs.Common.{◌≡◌, ◌∙◌, ap, ap₂, position, sym}
use Rattle.std.specs.Prelude.{Some, None}
use Rattle.std.specs.Option.{is_some}
use Rattle.sk_resp.specs.declared.refusal.Refusal.TheVariants.{OutOfTurn}
use Rattle.sk_cmd.specs.declared.argument.Side.TheVariants.{Left}
use Rattle.sk_places.specs.Placed.{without_row}
use Rattle.sk_places.specs.declared.row.Place.TheVariants.{Private}
use Rattle.sk_places.specs.Rows.{row_at, row_of, rows_at}
use Rattle.sk_seats.specs.declared.phase.Phase.TheVariants.{Joined}
use Rattle.sk_seats.specs.Phases.{phase_in, turned, works_of}
use Rattle.sk_seats.specs.Works.{is_done_as}
use Rattle.sk_seats.proofs.Working.{first_is, releasing_is}
use Rattle.sk_model.specs.Workers.{release_of}
use Rattle.sk_model.proofs.Tools.Outcomes.{refusal_comes}
use Rattle.sk_store.specs.Stored.{world}
use Rattle.sk_jobs.proofs.Working.{done_payload, none_released, release_comes, rows_stay}
use Rattle.sk_jobs.proofs.releases.release.Goals as goal

pub returns-in_default-find_done-clause-done : goal.returns-in_default-find_done-clause-done
returns-in_default-find_done-clause-done c =
    let v = world c.args.store.now in
    let text = c.args.text.now in
    let phase = phase_in c.args.store.now.seats c.args.seat in
    let none : position (is_done_as text) c.in-Joined.works ≡ None = sym (c.find_done.ensures.is ∙ ap (λ t. position (is_done_as t) c.in-Joined.works) c.bytes.ensures) ∙ c.in_default-find_done.is in
    rw c.refused.ensures (refusal_comes v (release_of v c.args.seat phase c.args.ident (Some text)) OutOfTurn
    (none_released v c.args.seat phase c.args.ident c.in-Joined.field-0 text c.in-Joined.works (sym c.get.ensures.is ∙ c.in-Joined.is) none))

pub returns-clause-done : goal.returns-clause-done
returns-clause-done c =
    let s = c.args.store.now in
    let p = s.places.current in
    let text = c.args.text.now in
    let works = c.in-Joined.works in
    let list = Private c.args.ident in
    let joined : phase_in s.seats c.args.seat ≡ Joined c.args.ident works = cc (c.requires.joined.1, c.get.ensures.is, c.in-Joined.is) in
    let found : position (is_done_as text) works ≡ Some c.in-Some.at = sym (c.find_done.ensures.is ∙ ap (λ t. position (is_done_as t) works) c.bytes.ensures) ∙ c.in-Some.is in
    let at_first = ap (λ phase. position (is_done_as text) (works_of phase)) joined ∙ found in
    let next = c.release.ensures ∙ ap (λ phase. turned c.args.seat phase s.seats) (releasing_is (is_done_as text) (phase_in s.seats c.args.seat) c.in-Some.at at_first) in
    let there = first_is (is_done_as text) works c.get-work.result.now c.in-Some.at found c.get-work.ensures in
    let same = done_payload text works c.get-work.result.now there in
    let rows = ap (λ s. s.current.rows) c.end_job.ensures ∙ rows_stay c.get-work.result.now p in
    let was = c.take_copy-was.ensures.answer ∙ ap₂ (λ t rows. is_some (row_of t (rows_at list rows))) same rows in
    let gone = ap (λ s. s.current) c.take_copy-was.ensures.rest ∙ ap₂ (λ t p. without_row Left (row_at list t) p) same (ap (λ s. s.current) c.end_job.ensures) in
    rw c.one_if.ensures (release_comes (world s) c.take_copy-was.result p c.take_copy-was.new.self.current s.seats c.release.new.self c.args.seat c.args.ident text works c.get-work.result.now c.in-Some.at joined found there was gone next)
