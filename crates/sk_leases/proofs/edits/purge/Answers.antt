use Rattle.std.proofs.Common.{◌∙◌, sym, refl, subst}
use Rattle.sk_resp.specs.Spelling.{Bytes}
use Rattle.sk_leases.specs.Index.{TakesOver}
use Rattle.sk_leases.proofs.Kept.{covers_more, covers_taken, standing_clear, steps_are}
use Rattle.sk_leases.proofs.edits.purge.Goals as goal

pub loop-name-smaller : goal.loop-name-smaller
loop-name-smaller c = c.in-Some.ensures.shorter

pub loop-name-preserved : goal.loop-name-preserved
loop-name-preserved c =
    let rest = subst (λ (name : Bytes). TakesOver name c.args.now c.loop-name.entries.list.current c.take_over.new.entries.list.current) c.bytes.ensures c.take_over.ensures.rest in
    record {
      closed = c.take_over.ensures.closed;
      standing = rest.standing ∙ c.loop-name.invariant.standing;
      covered = covers_taken c.in-Some.name c.args.now c.loop-name.expiries c.next_expired.new.expiries c.loop-name.entries.list.current c.take_over.new.entries.list.current c.loop-name.invariant.covered rest c.in-Some.ensures.taken;
    }

pub returns-clause-list : goal.returns-clause-list
returns-clause-list c =
    let ps = c.loop-name.entries.list.current in
    let covered = covers_more c.loop-name.expiries c.next_expired.new.expiries ps (c.in_default.ensures.same refl) c.loop-name.invariant.covered in
    steps_are c.loop-name.entries.list c.args.entries.now.list _ (sym (standing_clear c.args.now c.next_expired.new.expiries ps (c.in_default.ensures.clear refl) covered) ∙ c.loop-name.invariant.standing)
    (c.loop-name.invariant.closed ∙ sym c.requires.closed)

pub returns-clause-covered : goal.returns-clause-covered
returns-clause-covered c = covers_more c.loop-name.expiries c.next_expired.new.expiries c.loop-name.entries.list.current (c.in_default.ensures.same refl) c.loop-name.invariant.covered
