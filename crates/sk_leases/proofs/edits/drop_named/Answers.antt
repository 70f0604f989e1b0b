use Rattle.std.proofs.Common.{◌≡◌, ◌<◌, ◌∙◌, arith, ap, not, sym, true}
use Rattle.std.specs.BTreeMap.{is_at}
use Rattle.std.specs.List.{count_by}
use Rattle.std.specs.Set.{remove_key}
use Rattle.sk_leases.specs.Index.{is_expiry_in}
use Rattle.sk_leases.specs.Lease.{Lease, names}
use Rattle.sk_leases.specs.Parts.{lease_order}
use Rattle.sk_leases.specs.declared.part.Part.TheVariants.{All}
use Rattle.sk_leases.proofs.Kept.{all_gone, count_gone, count_same, filter_gone, steps_are, without_none}
use Rattle.sk_leases.proofs.Order.{all_is}
use Rattle.sk_leases.proofs.edits.drop_named.Goals as goal

pub loop-left-preserved : goal.loop-left-preserved
loop-left-preserved c =
    let name = c.args.name.now in
    let ps = c.loop-left.entries.list.current in
    let here = is_at (lease_order name All) in
    let same = count_same here (names name) (all_is name) ps in
    let some : 0 < count_by here ps = omega (arith, same, c.loop-left.invariant.left, c.loop-left-test.true) in
    let one = count_gone here ps some in
    let left = count_same here (names name) (all_is name) (remove_key here ps) in
    let apart = λ (p : Lease) (is : here p ≡ true). ap not (sym (all_is name p) ∙ is) in
    rw (c.remove.ensures.list) (record {
      rest = filter_gone here (λ p. not (names name p)) apart ps ∙ c.loop-left.invariant.rest;
      saved = c.loop-left.invariant.saved;
      left = omega (arith, same, one, left, c.loop-left.invariant.left);
      fits = omega (arith, c.loop-left.invariant.fits, c.remove.ensures.room, c.loop-left-test.true);
      room = omega (arith, c.loop-left.invariant.room, c.remove.ensures.room, c.loop-left-test.true);
      covered = all_gone here (is_expiry_in c.args.expiries.now) ps c.loop-left.invariant.covered;
    })

pub returns-clause-list : goal.returns-clause-list
returns-clause-list c =
    let none : count_by (names c.args.name.now) c.loop-left.entries.list.current ≡ 0 = omega (arith, c.loop-left.invariant.left, c.loop-left-test.false) in
    steps_are c.loop-left.entries.list c.args.entries.now.list _ (sym (without_none c.args.name.now c.loop-left.entries.list.current none) ∙ c.loop-left.invariant.rest) c.loop-left.invariant.saved
