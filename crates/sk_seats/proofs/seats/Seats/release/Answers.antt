use Rattle.std.proofs.Common.{◌≡◌, ◌∙◌, ap, sym, subst, remove, slice_get, length, ◌<◌, Some}
use Rattle.std.specs.Map.{lookup, set_value}
use Rattle.std.specs.Option.{option_copied_mut}
use Rattle.std.specs.BTreeMap.{is_at}
use Rattle.std.specs.List.Sorted.{IsStrictlySortedBy}
use Rattle.std.specs.Ordering.{nat_cmp}
use Rattle.sk_seats.specs.Order.{InOrder}
use Rattle.sk_seats.specs.Phases.{or_plain, phase_in, releasing_at, works_of}
use Rattle.sk_seats.proofs.Seating.{has_works, worked}
use Rattle.sk_seats.proofs.Counting.{released_counted, work_there}
use Rattle.sk_seats.specs.declared.work.Work.{Work}
use Rattle.sk_seats.proofs.seats.Seats.release.Goals as goal

pub returns : goal.returns
returns c =
    let seat = c.args.seat in
    let phases = c.args.self.now in
    let old = phase_in phases seat in
    let found : lookup (is_at (nat_cmp seat)) phases ≡ Some c.in-Some.phase.now =
    ap (lookup (is_at (nat_cmp seat))) (sym c.self.view_is) ∙ sym c.get_mut.ensures.value ∙ ap option_copied_mut c.in-Some.is in
    let there : c.in-Some.phase.now ≡ old = sym (ap or_plain found) in
    let next : c.release.new.self ≡ releasing_at c.args.at old = c.release.ensures ∙ ap (releasing_at c.args.at) there in
    (c.get_mut.follows.holds c.release.new.self).0
    ∙ ap (λ ps. set_value (is_at (nat_cmp seat)) ps c.release.new.self) c.self.view_is
    ∙ ap (set_value (is_at (nat_cmp seat)) phases) next
    ∙ worked seat phases (remove (works_of old) c.args.at) (subst InOrder c.self.view_is c.self.invariant.ordered) (has_works old c.args.at c.requires)

pub invariant_of-self : goal.invariant_of-self
invariant_of-self c =
    let written = c.get_mut.follows.holds c.release.new.self in
    let found = sym c.get_mut.ensures.value ∙ ap option_copied_mut c.in-Some.is in
    let same : c.in-Some.phase.now ≡ phase_in c.args.self.now c.args.seat = sym (ap or_plain found) ∙ ap (λ phases. phase_in phases c.args.seat) c.self.view_is in
    let there : (work : Work) × (slice_get (works_of c.in-Some.phase.now) c.args.at ≡ Some work) = work_there (works_of c.in-Some.phase.now) c.args.at (subst (λ phase. c.args.at < length (works_of phase)) (sym same) c.requires) in
    let counted = released_counted c.args.seat c.self.inside.phases.entries c.args.at there.0 c.in-Some.phase.now c.self.inside.in_hands found there.1 c.self.invariant.counted in
    record {
      ordered = subst (IsStrictlySortedBy nat_cmp) (sym written.1) c.self.invariant.ordered;
      plain = c.self.invariant.plain;
      counted = rw (c.count_out_at.ensures there.0 there.1, written.0, c.release.ensures) counted;
    }
