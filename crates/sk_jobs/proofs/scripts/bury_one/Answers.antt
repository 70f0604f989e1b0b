use Rattle.std.proofs.Common.{◌≡◌, ◌∙◌, List, ℕ, None, ap, sym}
use Rattle.std.specs.Prelude.{option_map}
use Rattle.sk_places.specs.Rows.{pair_of, row_of}
use Rattle.sk_places.specs.declared.row.Row.{Row}
use Rattle.sk_model.specs.Jobs.{bury, nothing}
use Rattle.sk_model.proofs.Tools.Outcomes.{if_ok}
use Rattle.sk_store.specs.Stored.{world}
use Rattle.sk_jobs.specs.Callbacks.{member_of}
use Rattle.sk_jobs.specs.Routing.{set_rows}
use Rattle.sk_jobs.proofs.Fronts.{found_text, some_found, some_row}
use Rattle.sk_jobs.proofs.Routing.{nothing_sent}
use Rattle.sk_jobs.proofs.Notifying.{killed, none_killed}
use Rattle.sk_jobs.proofs.scripts.bury_one.Goals as goal

pub returns-in_default-clause-ok : goal.returns-in_default-clause-ok
returns-in_default-clause-ok c =
    let v = world c.args.store.now in
    let rows : List Row = set_rows c.args.set v in
    let found : option_map pair_of (row_of c.args.text.now rows) ≡ None = ap (λ (t : List ℕ). option_map pair_of (row_of t rows)) (sym c.bytes.ensures) ∙ sym c.find.ensures ∙ ap (option_map (λ p. (p.0, p.1.now))) c.in_default.is in
    if_ok _ _ c.into_reply.result (λ reply tells. none_killed v (row_of c.args.text.now rows) reply (some_row _ found)
    (tells v v nothing (nothing_sent v c.nothing.result c.nothing.ensures.none.0 c.nothing.ensures.none.1 c.nothing.ensures.texts.0 c.nothing.ensures.texts.1))) c.into_reply.ensures

pub bury-requires-clause-member : goal.bury-requires-clause-member
bury-requires-clause-member c =
    let rows : List Row = set_rows c.args.set (world c.args.store.now) in
    let found = ap (λ (t : List ℕ). option_map pair_of (row_of t rows)) (sym c.bytes.ensures) ∙ sym c.find.ensures ∙ ap (option_map (λ p. (p.0, p.1.now))) c.in-Some.is in
    c.in_ok-member.ensures ∙ ap member_of (found_text c.args.text.now rows _ found)

pub returns-clause-ok : goal.returns-clause-ok
returns-clause-ok c =
    let v = world c.args.store.now in
    let new = world c.bury.new.store in
    let rows : List Row = set_rows c.args.set v in
    let found = ap (λ (t : List ℕ). option_map pair_of (row_of t rows)) (sym c.bytes.ensures) ∙ sym c.find.ensures ∙ ap (option_map (λ p. (p.0, p.1.now))) c.in-Some.is in
    let there = some_found (row_of c.args.text.now rows) _ found in
    if_ok _ _ c.into_reply-2.result (λ reply tells. killed v new (row_of c.args.text.now rows) there.0 reply there.1 (tells v new (bury v there.0) (c.in_ok-report.ensures.ok there.0 there.1))) c.into_reply-2.ensures
