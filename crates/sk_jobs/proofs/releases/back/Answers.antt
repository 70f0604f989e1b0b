use Rattle.std.proofs.Common.{◌≡◌, ◌∙◌, ap, ap₂, sym}
use Rattle.std.specs.Prelude.{Some, None}
use Rattle.std.specs.Option.{is_some}
use Rattle.sk_resp.specs.Spelling.{Bytes}
use Rattle.sk_payload.specs.Head.{head}
use Rattle.sk_cmd.specs.declared.argument.Side.TheVariants.{Left, Right}
use Rattle.sk_places.specs.Placed.{moved_if}
use Rattle.sk_places.specs.declared.row.Place.TheVariants.{Private, Queue}
use Rattle.sk_places.specs.Rows.{row_of, rows_at}
use Rattle.sk_seats.specs.Phases.{phase_in, turned}
use Rattle.sk_seats.specs.Works.{is_held_as}
use Rattle.sk_seats.proofs.Working.{releasing_is}
use Rattle.sk_store.proofs.Steps.{placed_ready, seated_ready}
use Rattle.sk_store.specs.Stored.{world}
use Rattle.sk_jobs.specs.Seated.{ident_in}
use Rattle.sk_jobs.proofs.Working.{back_comes, back_refused, found_at, way_of}
use Rattle.sk_jobs.proofs.releases.back.Goals as goal

pub returns-in_default : goal.returns-in_default
returns-in_default c =
    let s = c.args.store.now in
    let text = c.args.text.now in
    let phase = phase_in s.seats c.args.seat in
    let found = found_at c.get.result.now phase (is_held_as text) c.in-Ok.at c.get.ensures.is c.in-Ok.ensures.found in
    let none : way_of (ident_in phase) (head text) ≡ None = ap (λ ph. way_of (ident_in ph) (head text)) (sym c.get-2.ensures.is) ∙ sym c.in_ok-way.ensures ∙ c.in_default.is in
    rw c.refused-in_default.ensures (back_refused (world s) s.places.current s.seats c.args.seat text c.in-Ok.at found none, c.requires)

pub returns : goal.returns
returns c =
    let s = c.args.store.now in
    let text = c.args.text.now in
    let phase = phase_in s.seats c.args.seat in
    let found = found_at c.get.result.now phase (is_held_as text) c.in-Ok.at c.get.ensures.is c.in-Ok.ensures.found in
    let way : way_of (ident_in phase) (head text) ≡ Some (c.in-Some.ident, c.in-Some.queue) = ap (λ ph. way_of (ident_in ph) (head text)) (sym c.get-2.ensures.is) ∙ sym c.in_ok-way.ensures ∙ c.in-Some.is in
    let p = s.places.current in
    let row = λ (t : Bytes). row_of t (rows_at (Private c.in-Some.ident) p.rows) in
    let was = c.in_ok-was.ensures.answer ∙ ap (λ t. is_some (row t)) c.held_payload-payload.ensures in
    let new = ap (λ s. s.current) c.in_ok-was.ensures.ok ∙ ap₂ (λ t score. moved_if Left (row t) (Queue c.in-Some.queue) score Right p) c.held_payload-payload.ensures c.of_moment.ensures in
    rw c.one_if.ensures (
      back_comes (world s) c.in_ok-was.was' p c.shift_payload.new.self.current s.seats c.release.new.self c.args.seat text c.in-Ok.at (c.in-Some.ident, c.in-Some.queue) found way was new (c.release.ensures ∙ ap (λ ph. turned c.args.seat ph s.seats) (releasing_is (is_held_as text) phase c.in-Ok.at found.is)),
      seated_ready (record s { places = c.shift_payload.new.self }) c.release.new.self (placed_ready s c.shift_payload.new.self c.requires (ap (λ s. s.saved) c.in_ok-was.ensures.ok)),
    )
