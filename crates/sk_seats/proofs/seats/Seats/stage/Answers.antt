use Rattle.std.proofs.Common.{◌≡◌, ◌∙◌, ap, sym, subst, Some}
use Rattle.std.specs.Map.{lookup, set_value}
use Rattle.std.specs.Option.{option_copied_mut}
use Rattle.std.specs.BTreeMap.{is_at}
use Rattle.std.specs.List.Sorted.{IsStrictlySortedBy}
use Rattle.std.specs.Ordering.{nat_cmp}
use Rattle.sk_seats.specs.Order.{InOrder}
use Rattle.sk_seats.specs.Phases.{or_plain, phase_in, staging_at, works_of}
use Rattle.sk_seats.specs.Works.{staged_at}
use Rattle.sk_seats.proofs.Seating.{has_works, worked}
use Rattle.sk_seats.proofs.Counting.{staged_counted}
use Rattle.sk_seats.proofs.seats.Seats.stage.Goals as goal

pub returns : goal.returns
returns c =
    let seat = c.args.seat in
    let phases = c.args.self.now in
    let old = phase_in phases seat in
    let found : lookup (is_at (nat_cmp seat)) phases ≡ Some c.in-Some.phase.now =
    ap (lookup (is_at (nat_cmp seat))) (sym c.self.view_is) ∙ sym c.get_mut.ensures.value ∙ ap option_copied_mut c.in-Some.is in
    let there : c.in-Some.phase.now ≡ old = sym (ap or_plain found) in
    let next : c.stage.new.self ≡ staging_at c.args.at c.args.stage old = c.stage.ensures ∙ ap (staging_at c.args.at c.args.stage) there in
    (c.get_mut.follows.holds c.stage.new.self).0
    ∙ ap (λ ps. set_value (is_at (nat_cmp seat)) ps c.stage.new.self) c.self.view_is
    ∙ ap (set_value (is_at (nat_cmp seat)) phases) next
    ∙ worked seat phases (staged_at c.args.at c.args.stage (works_of old)) (subst InOrder c.self.view_is c.self.invariant.ordered) (has_works old c.args.at c.requires)

pub invariant_of-self : goal.invariant_of-self
invariant_of-self c =
    let written = c.get_mut.follows.holds c.stage.new.self in
    let found = sym c.get_mut.ensures.value ∙ ap option_copied_mut c.in-Some.is in
    let counted = staged_counted c.args.seat c.self.inside.phases.entries c.args.at c.args.stage c.in-Some.phase.now c.self.inside.in_hands found c.self.invariant.counted in
    record {
      ordered = subst (IsStrictlySortedBy nat_cmp) (sym written.1) c.self.invariant.ordered;
      plain = c.self.invariant.plain;
      counted = rw (written.0, c.stage.ensures) counted;
    }
