use Rattle.std.proofs.Common.{◌≡◌, ◌∙◌, true, false, ap, not, subst, sym}
use Rattle.std.specs.Prelude.{option_map}
use Rattle.sk_places.specs.declared.row.Place.TheVariants.{Private}
use Rattle.sk_model.specs.Rescue.{is_left}
use Rattle.sk_resp.specs.Spelling.{Bytes}
use Rattle.sk_store.specs.Stored.{world}
use Rattle.sk_jobs.specs.Rescuing.{IsFront}
use Rattle.sk_jobs.proofs.Passing.{is_front, none_left, passed_by, passes_one}
use Rattle.sk_jobs.proofs.rescues.next_gone.Goals as goal

pub returns : goal.returns
returns c = none_left (world c.args.store.now) (option_map (λ word. word.now) c.loop-ident.passed) (sym c.in_default.ensures.is) c.loop-ident.invariant.passed

pub returns-then-not-alive : goal.returns-then-not-alive
returns-then-not-alive c =
    let gone : is_left (world c.args.store.now) (Private c.in-Some.ident.now) ≡ true = ap not (sym c.alive.ensures ∙ c.if-not-alive.true) in
    let front = is_front (world c.args.store.now) (option_map (λ word. word.now) c.loop-ident.passed) c.in-Some.ident.now c.next_ident.ensures.order (sym c.in-Some.ensures.is) c.loop-ident.invariant.passed gone in
    subst (λ (ident : Bytes). IsFront ident (world c.args.store.now)) (sym c.in_ok-gone.ensures) front

pub loop-ident-smaller : goal.loop-ident-smaller
loop-ident-smaller c = passes_one (option_map (λ word. word.now) c.loop-ident.passed) c.in-Some.ident.now (world c.args.store.now).rows (sym c.in-Some.ensures.is)

pub loop-ident-preserved : goal.loop-ident-preserved
loop-ident-preserved c = record {
  passed =
      let alive : is_left (world c.args.store.now) (Private c.in-Some.ident.now) ≡ false = ap not (sym c.alive.ensures ∙ c.if-not-alive.false) in
      passed_by (world c.args.store.now) (option_map (λ word. word.now) c.loop-ident.passed) c.in-Some.ident.now c.next_ident.ensures.order (sym c.in-Some.ensures.is) c.loop-ident.invariant.passed alive;
}
