use Rattle.std.proofs.Common.{◌∙◌, arith, ap, sym}
use Rattle.std.proofs.lemmas.Map.Made.{length-remove_key}
use Rattle.std.specs.BTreeMap.{is_at}
use Rattle.std.specs.List.{count_by}
use Rattle.sk_leases.specs.Index.{is_expiry_in}
use Rattle.sk_leases.specs.Lease.{stands_at}
use Rattle.sk_leases.specs.Parts.{is_over, lease_order}
use Rattle.sk_leases.specs.declared.part.Part.TheVariants.{Over}
use Rattle.sk_leases.proofs.Kept.{all_gone, count_same, filter_gone, none_left, same_left}
use Rattle.sk_leases.proofs.Order.{over_is, over_stands}
use Rattle.sk_leases.proofs.edits.take_over.Goals as goal

pub loop-over-preserved : goal.loop-over-preserved
loop-over-preserved c =
    let name = c.args.name.now in
    let now = c.args.now in
    let ps = c.loop-over.entries.list.current in
    let here = is_at (lease_order name (Over now)) in
    rw (c.take.ensures.list) (record {
      closed = c.loop-over.invariant.closed;
      standing = filter_gone here (stands_at now) (over_stands name now) ps ∙ c.loop-over.invariant.standing;
      covered = λ expiries h. all_gone here (is_expiry_in expiries) ps (c.loop-over.invariant.covered expiries h);
    })

pub loop-over-smaller : goal.loop-over-smaller
loop-over-smaller c =
    let here = is_at (lease_order c.args.name.now (Over c.args.now)) in
    let one = length-remove_key here c.loop-over.entries.list.current (sym c.take.ensures.answer ∙ c.loop-over-test.true) in
    rw (c.take.ensures.list) (omega (arith, one))

pub returns-clause-rest : goal.returns-clause-rest
returns-clause-rest c =
    let name = c.args.name.now in
    let now = c.args.now in
    let ps = c.loop-over.entries.list.current in
    let here = is_at (lease_order name (Over now)) in
    let none = sym c.take.ensures.answer ∙ c.loop-over-test.false in
    rw (c.take.ensures.list) (record {
      standing = filter_gone here (stands_at now) (over_stands name now) ps ∙ c.loop-over.invariant.standing;
      none = ap (count_by (is_over name now)) (same_left here ps none) ∙ sym (count_same here (is_over name now) (over_is name now) ps) ∙ none_left here ps none;
      covered = λ expiries h. all_gone here (is_expiry_in expiries) ps (c.loop-over.invariant.covered expiries h);
    })
