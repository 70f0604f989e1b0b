use Rattle.std.proofs.Common.{◌≡◌, ◌∙◌, ap, ap₂, sym}
use Rattle.std.specs.Prelude.{Some, None}
use Rattle.sk_resp.specs.Spelling.{Bytes}
use Rattle.sk_payload.specs.Head.{head}
use Rattle.sk_seats.specs.Works.{is_held_as}
use Rattle.sk_seats.proofs.Working.{first_is}
use Rattle.sk_jobs.specs.Seated.{ident_in}
use Rattle.sk_jobs.proofs.Working.{found_in, held_text, way_of}
use Rattle.sk_jobs.proofs.releases.way_back.Goals as goal

pub returns-in_default-head : goal.returns-in_default-head
returns-in_default-head c =
    let text = c.args.text.now in
    let found = found_in c.args.phase.now c.in-Joined.ident c.in-Joined.works (is_held_as text) c.args.at c.in-Joined.is c.requires in
    let same = held_text text c.in-Joined.works c.get.result.now (first_is (is_held_as text) c.in-Joined.works c.get.result.now c.args.at found c.get.ensures) in
    let none : head text ≡ None = sym (ap head same) ∙ sym c.head.ensures ∙ c.in_default-head.is in
    sym (ap (way_of (ident_in c.args.phase.now)) none)

pub returns : goal.returns
returns c =
    let text = c.args.text.now in
    let found = found_in c.args.phase.now c.in-Joined.ident c.in-Joined.works (is_held_as text) c.args.at c.in-Joined.is c.requires in
    let same = held_text text c.in-Joined.works c.get.result.now (first_is (is_held_as text) c.in-Joined.works c.get.result.now c.args.at found c.get.ensures) in
    let there : head text ≡ Some c.in-Some.head = sym (ap head same) ∙ sym c.head.ensures ∙ c.in-Some.is in
    ap₂ (λ (ident queue : Bytes). Some (ident, queue)) (c.in_ok-word_of.ensures ∙ c.as_bytes.ensures.value ∙ c.text.ensures ∙ sym (ap ident_in c.in-Joined.is)) c.in_ok-queue_text.ensures ∙ sym (ap (way_of (ident_in c.args.phase.now)) there)
