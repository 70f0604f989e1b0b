use Rattle.std.proofs.Common.{◌≡◌, ◌∷◌, ◌∙◌, ℕ, List, false, ap, subst, sym}
use Rattle.sk_undo.specs.Versions.{Versions}
use Rattle.sk_resp.specs.Spelling.{Bytes}
use Rattle.sk_batch.specs.Batched.{MemberEntry}
use Rattle.sk_batch.specs.Places.{AreAncestors}
use Rattle.sk_batch.specs.States.{BatchInvariant, StateEntry, new_state}
use Rattle.sk_batch.specs.declared.state.State.{State}
use Rattle.sk_batch.proofs.Along.{any_retag}
use Rattle.sk_batch.proofs.Invariant.{kept_made}
use Rattle.sk_batch.proofs.make.make.Goals as goal

pub add_batch-requires-clause-new : goal.add_batch-requires-clause-new
add_batch-requires-clause-new c = sym (any_retag (λ (b : StateEntry). b.0.fired) c.args.batches.now.list.current c.args.batch.bid) ∙ c.requires.new

pub enter-requires-clause-kept : goal.enter-requires-clause-kept
enter-requires-clause-kept c =
    let old = c.args.batches.now.list.current in
    let made = kept_made old c.args.members.now.list.current c.requires.kept (record { complete = c.is_empty.result; success = c.is_empty.result; death = false }) c.args.batch c.requires.new in
    let current = ap (λ (s : Versions (List StateEntry)). s.current) c.in_ok-add_batch.ensures.batches ∙ ap (λ (s : State). (s, c.args.batch) ∷ old) c.new_state-state.ensures in
    subst (λ (l : List StateEntry). BatchInvariant l c.add_batch.new.members.list.current) (sym current)
    (subst (λ (s : Versions (List MemberEntry)). BatchInvariant ((new_state c.is_empty.result, c.args.batch) ∷ old) s.current) (sym c.in_ok-add_batch.ensures.same) made)

pub enter-requires-clause-places : goal.enter-requires-clause-places
enter-requires-clause-places c =
    let state = c.new_state-state.result in
    let bid : c.bytes-2.result.now ≡ c.args.batch.bid = c.bytes-2.ensures ∙ c.in_ok-bid.ensures in
    let current = ap (λ (s : Versions (List StateEntry)). s.current) c.in_ok-add_batch.ensures.batches in
    subst (λ (l : List StateEntry). AreAncestors c.bytes-2.result.now c.deref-2.result.now l) (sym current)
    (subst (λ (places : List ℕ). AreAncestors c.bytes-2.result.now places ((state, c.args.batch) ∷ c.args.batches.now.list.current)) (sym c.deref-2.ensures.value)
    (subst (λ (b : Bytes). AreAncestors b c.in_ok-places.places.items ((state, c.args.batch) ∷ c.args.batches.now.list.current)) (sym bid) (c.in_ok-places.ensures state)))
