-- The step over the store, from its begin to its end.
use Rattle.std.proofs.Common.{◌≡◌, ◌∙◌, refl, sym, ap, subst}
use Rattle.std.specs.Prelude.{◌≤◌, None, unwrap_or, List, Result, Ok, Err, IfOk, OnOk, OnErr}
use Rattle.sk_base.specs.Score.{last_moment}
use Rattle.sk_undo.specs.Versions.{Versions, begun, closed, undone}
use Rattle.sk_store.specs.declared.store.Store.{Store}
use Rattle.sk_places.specs.Placed.{Placed}
use Rattle.sk_value.specs.Keys.{Keys}
use Rattle.sk_seats.specs.Phases.{Phases}
use Rattle.sk_resp.specs.declared.reply.Reply.{Reply}
use Rattle.sk_model.specs.Change.{Change, perform}
use Rattle.sk_model.specs.Outcome.{Realizes, Outcome}
use Rattle.sk_model.specs.World.{World}
use Rattle.sk_store.specs.Stored.{InStep, IsAtomic, IsReady, Executes, begun_in, committed_in, undone_in, world}

-- a part of the store stands as it stood
part_undone : {A : Type 0} (old s : Versions A) → old.saved ≡ None → s.saved ≡ (begun old).saved → undone s ≡ old
part_undone old s none e = ap (λ o. closed (unwrap_or o s.current)) e ∙ ap (λ o. record old { saved = o }) (sym none)

-- A step that is undone leaves the store as it was.
pub undone_is : (old s : Store) → IsReady old → InStep (begun_in old) s → undone_in s ≡ old
undone_is old s ready step =
    let places = part_undone old.places s.places ready.places step.places in
    let leases = part_undone old.leases s.leases ready.leases step.leases in
    let batches = part_undone old.batches s.batches ready.batches step.batches in
    let counters = part_undone old.counters s.counters ready.counters step.counters in
    let alloc : s.alloc ≡ old.alloc = refl in
    ap (λ x. record (undone_in s) { limits = x }) step.limits
    ∙ ap (λ x. record (undone_in s) { limits = old.limits; moment = x }) step.moment
    ∙ ap (λ x. record old { places = x; leases = undone s.leases; batches = undone s.batches; counters = undone s.counters; seats = s.seats; keys = s.keys }) places
    ∙ ap (λ x. record old { leases = x; batches = undone s.batches; counters = undone s.counters; seats = s.seats; keys = s.keys }) leases
    ∙ ap (λ x. record old { batches = x; counters = undone s.counters; seats = s.seats; keys = s.keys }) batches
    ∙ ap (λ x. record old { counters = x; seats = s.seats; keys = s.keys }) counters
    ∙ ap (λ x. record old { seats = x; keys = s.keys }) step.seats
    ∙ ap (λ x. record old { keys = x }) step.keys

-- After a step that is committed none is open.
pub committed_ready : (old s : Store) → IsReady old → InStep (begun_in old) s → IsReady (committed_in s)
committed_ready old s ready step =
    record { places = refl; leases = refl; batches = refl; counters = refl; early = subst (λ m. m ≤ last_moment) (sym step.moment) ready.early }

-- Edits leave it so that no step is open.
pub ready_after : (old new : Store) → IsReady old → InStep old new → IsReady new
ready_after old new ready step = record {
  places = step.places ∙ ready.places;
  leases = step.leases ∙ ready.leases;
  batches = step.batches ∙ ready.batches;
  counters = step.counters ∙ ready.counters;
  early = subst (λ m. m ≤ last_moment) (sym step.moment) ready.early;
}

pub joined : (a b c : Store) → InStep a b → InStep b c → InStep a c
joined a b c first next = record {
  places = next.places ∙ first.places;
  leases = next.leases ∙ first.leases;
  batches = next.batches ∙ first.batches;
  counters = next.counters ∙ first.counters;
  limits = next.limits ∙ first.limits;
  moment = next.moment ∙ first.moment;
  seats = next.seats ∙ first.seats;
  keys = next.keys ∙ first.keys;
}

-- What is done in a step that is closed at the end is done as a whole.
pub atomic : {A E : Type 0} (old begun s new : Store) (changes : List Change) (done r : Result A E) → IsReady old → begun ≡ begun_in old → InStep begun s
    → OnOk done (world s ≡ perform (world begun) changes) → r ≡ done → OnOk r (new ≡ committed_in s) → OnErr r (new ≡ undone_in s) → IsAtomic old changes r new
atomic old begun s new changes (Ok x) (Ok y) ready begin step did e ok err = (
  ap world ok ∙ did ∙ ap (λ b. perform (world b) changes) begin,
  subst IsReady (sym ok) (committed_ready old s ready (subst (λ b. InStep b s) begin step)),
)
atomic old begun s new changes (Ok x) (Err m) ready begin step did e ok err = absurd (cc e)
atomic old begun s new changes (Err m) (Ok y) ready begin step did e ok err = absurd (cc e)
atomic old begun s new changes (Err m) (Err n) ready begin step did e ok err = err ∙ undone_is old s ready (subst (λ b. InStep b s) begin step)

-- What is done in such a step is what the command does.
pub whole : {E : Type 0} (old begun s new : Store) (o : World → Outcome) (done r : Result Reply E) → IsReady old → begun ≡ begun_in old → InStep begun s
    → IfOk done (λ reply. Realizes (world begun) (o (world begun)) reply (world s)) → r ≡ done → OnOk r (new ≡ committed_in s) → OnErr r (new ≡ undone_in s) → Executes old (o (world old)) r new
whole old begun s new o (Ok x) (Ok y) ready begin step did e ok err =
    let same : x ≡ y = cc e in
    let comes : Realizes (world old) (o (world old)) x (world s) = subst (λ b. Realizes (world b) (o (world b)) x (world s)) begin did in (
      subst (λ u. Realizes (world old) (o (world old)) y u) (sym (ap world ok)) (subst (λ z. Realizes (world old) (o (world old)) z (world s)) same comes),
      subst IsReady (sym ok) (committed_ready old s ready (subst (λ b. InStep b s) begin step)),
    )
whole old begun s new o (Ok x) (Err m) ready begin step did e ok err = absurd (cc e)
whole old begun s new o (Err m) (Ok y) ready begin step did e ok err = absurd (cc e)
whole old begun s new o (Err m) (Err n) ready begin step did e ok err = err ∙ undone_is old s ready (subst (λ b. InStep b s) begin step)

-- where memory was wanting in it nothing has changed
pub undone_again : (old begun s new : Store) → IsReady old → begun ≡ begun_in old → InStep begun s → new ≡ undone_in s → new ≡ old
undone_again old begun s new ready begin step err = err ∙ undone_is old s ready (subst (λ b. InStep b s) begin step)

-- the seats are as they were
pub seats_stay : (old begun s new : Store) → begun ≡ begun_in old → InStep begun s → new ≡ committed_in s → new.seats ≡ old.seats
seats_stay old begun s new begin step ok = ap (λ (u : Store). u.seats) ok ∙ step.seats ∙ ap (λ (u : Store). u.seats) begin

-- ## One part alone that changed

pub placed_ready : (s : Store) (p : Versions Placed) → IsReady s → p.saved ≡ s.places.saved → IsReady (record s { places = p })
placed_ready s p ready e = record { places = e ∙ ready.places; leases = ready.leases; batches = ready.batches; counters = ready.counters; early = ready.early }

pub keyed_ready : (s : Store) (keys : Keys) → IsReady s → IsReady (record s { keys = keys })
keyed_ready s keys ready = record { places = ready.places; leases = ready.leases; batches = ready.batches; counters = ready.counters; early = ready.early }

pub placed_step : (s : Store) (p : Versions Placed) → p.saved ≡ s.places.saved → InStep s (record s { places = p })
placed_step s p e = record { places = e; leases = refl; batches = refl; counters = refl; limits = refl; moment = refl; seats = refl; keys = refl }

pub seated_ready : (s : Store) (phases : Phases) → IsReady s → IsReady (record s { seats = phases })
seated_ready s phases ready = record { places = ready.places; leases = ready.leases; batches = ready.batches; counters = ready.counters; early = ready.early }
