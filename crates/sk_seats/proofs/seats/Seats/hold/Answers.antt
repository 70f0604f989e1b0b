use Rattle.std.proofs.Common.{◌≡◌, ◌∙◌, ◌++◌, ◌∷◌, [], ap, sym, subst, Some, false}
use Rattle.std.specs.Map.{lookup, set_value}
use Rattle.std.specs.Option.{option_copied_mut}
use Rattle.std.specs.BTreeMap.{is_at}
use Rattle.std.specs.List.Sorted.{IsStrictlySortedBy}
use Rattle.std.specs.Ordering.{nat_cmp}
use Rattle.sk_seats.specs.Order.{InOrder}
use Rattle.sk_seats.specs.Phases.{holding, is_plain, or_plain, phase_in, works_of}
use Rattle.sk_seats.specs.Works.{held}
use Rattle.sk_seats.proofs.Seating.{worked}
use Rattle.sk_seats.proofs.Counting.{held_counted}
use Rattle.sk_seats.proofs.seats.Seats.hold.Goals as goal

pub returns : goal.returns
returns c =
    let seat = c.args.seat in
    let phases = c.args.self.now in
    let payload = c.args.payload in
    let old = phase_in phases seat in
    let found : lookup (is_at (nat_cmp seat)) phases ≡ Some c.in-Some.phase.now =
    ap (lookup (is_at (nat_cmp seat))) (sym c.self.view_is) ∙ sym c.get_mut.ensures.value ∙ ap option_copied_mut c.in-Some.is in
    let next : c.hold.new.self ≡ holding payload old = c.hold.ensures ∙ ap (holding payload) (sym (ap or_plain found)) in
    (c.get_mut.follows.holds c.hold.new.self).0
    ∙ ap (λ ps. set_value (is_at (nat_cmp seat)) ps c.hold.new.self) c.self.view_is
    ∙ ap (set_value (is_at (nat_cmp seat)) phases) next
    ∙ worked seat phases (works_of old ++ held payload ∷ []) (subst InOrder c.self.view_is c.self.invariant.ordered) c.requires.joined

pub invariant_of-self : goal.invariant_of-self
invariant_of-self c =
    let written = c.get_mut.follows.holds c.hold.new.self in
    let found = sym c.get_mut.ensures.value ∙ ap option_copied_mut c.in-Some.is in
    let same : phase_in c.self.inside.phases.entries c.args.seat ≡ c.in-Some.phase.now = ap or_plain found in
    let kept : is_plain c.in-Some.phase.now ≡ false = ap is_plain (sym same ∙ ap (λ phases. phase_in phases c.args.seat) c.self.view_is) ∙ c.requires.joined in
    let counted = held_counted c.args.seat c.self.inside.phases.entries c.args.payload c.in-Some.phase.now c.self.inside.in_hands found kept c.self.invariant.counted in
    record {
      ordered = subst (IsStrictlySortedBy nat_cmp) (sym written.1) c.self.invariant.ordered;
      plain = c.self.invariant.plain;
      counted = rw (c.add.ensures, written.0, c.hold.ensures) counted;
    }
