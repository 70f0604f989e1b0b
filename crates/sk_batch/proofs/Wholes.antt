-- An edit of the two lists is an edit of the whole.
use Rattle.std.proofs.Common.{◌≡◌, ℕ, List, Option, Some, None, option_map, Result, Ok, Err, OnOk, OnErr, refl, sym, subst, ap, ap₂, ◌∙◌}
use Rattle.std.specs.Option.{is_some}
use Rattle.sk_resp.specs.Spelling.{Bytes}
use Rattle.sk_undo.specs.Versions.{Versions, begun, both, committed, edited, map_versions, undone}
use Rattle.sk_batch.specs.Batched.{Batched, BatchEntry, MemberEntry, is_job}
use Rattle.sk_batch.specs.Events.{fired, marked}
use Rattle.sk_batch.specs.Fires.{after_fires, retagged}
use Rattle.sk_batch.specs.Open.{with_mark}
use Rattle.sk_batch.specs.States.{AreEdited, BatchInvariant, StateEntry, of_lists, seen_of}
use Rattle.sk_batch.specs.Notify.{fires_of, mark_of}
use Rattle.sk_batch.specs.Whole.{IsSound, were_kept}
use Rattle.sk_batch.specs.declared.event.Event.{Event}
use Rattle.sk_batch.specs.declared.event.Event.TheVariants as event

abbrev pub whole : ℕ → Versions (List StateEntry) → Versions (List MemberEntry) → Versions Batched
whole most bs ms = both (λ batches members. record { most = most; batches = batches; members = members }) (map_versions seen_of bs) ms

seen_edited : (bs bs' : Versions (List StateEntry)) (seen : List BatchEntry) → AreEdited bs bs' seen → map_versions seen_of bs' ≡ edited seen (map_versions seen_of bs)
seen_edited bs bs' seen e = ap₂ (λ current saved. record { current = current; saved = option_map seen_of saved }) e.current e.saved

pub whole_edited : (most : ℕ) (bs bs' : Versions (List StateEntry)) (ms ms' : Versions (List MemberEntry)) (seen : List BatchEntry) (members : List MemberEntry) (v : Versions Batched)
    → whole most bs ms ≡ v → AreEdited bs bs' seen → ms' ≡ edited members ms
    → whole most bs' ms' ≡ edited (record { most = most; batches = seen; members = members }) v
whole_edited most bs bs' ms ms' seen members v is b m =
    ap₂ (λ s t. both (λ batches members. record { most = most; batches = batches; members = members }) s t) (seen_edited bs bs' seen b) m ∙ ap (edited (record { most = most; batches = seen; members = members })) is

pub notified_whole : {T E : Type 0} (r : Result T E) (e : Event) (bid jid : Bytes) (most : ℕ) (bs bs' : Versions (List StateEntry)) (ms ms' : Versions (List MemberEntry)) (v : Versions Batched)
    → whole most bs ms ≡ v
    → OnOk r (AreEdited bs bs' (after_fires (fires_of e bid jid (of_lists (seen_of bs.current) ms.current)) (seen_of bs.current)))
    → OnOk r (ms' ≡ edited (retagged (is_job bid jid) (with_mark (mark_of e)) ms.current) ms)
    → OnOk r (whole most bs' ms' ≡ edited (fired (fires_of e bid jid v.current) (marked (mark_of e) bid jid v.current)) v)
notified_whole (Ok x) e bid jid most bs bs' ms ms' v is b m =
    whole_edited most bs bs' ms ms' _ _ (whole most bs ms) refl b m ∙ same e ∙ ap (λ (w : Versions Batched). edited (fired (fires_of e bid jid w.current) (marked (mark_of e) bid jid w.current)) w) is where
      same : (e : Event) → edited (record { most = most; batches = after_fires (fires_of e bid jid (of_lists (seen_of bs.current) ms.current)) (seen_of bs.current); members = retagged (is_job bid jid) (with_mark (mark_of e)) ms.current }) (whole most bs ms) ≡ (let w = whole most bs ms in edited (fired (fires_of e bid jid w.current) (marked (mark_of e) bid jid w.current)) w)
      same event.Reported = refl
      same event.Returned = refl
      same event.Died = refl
notified_whole (Err x) e bid jid most bs bs' ms ms' v is b m = tt

-- ## The lists stay sound

pub sound_edited : (bs bs' : Versions (List StateEntry)) (ms ms' : Versions (List MemberEntry)) (seen : List BatchEntry) (members : List MemberEntry) → IsSound bs ms → AreEdited bs bs' seen → ms' ≡ edited members ms → BatchInvariant bs'.current ms'.current → IsSound bs' ms'
sound_edited bs bs' ms ms' seen members sound b m kept = record {
  together = ap is_some b.saved ∙ sound.together ∙ ap (λ (s : Versions (List MemberEntry)). is_some s.saved) (sym m);
  current = kept;
  saved = subst (λ (s : Versions (List MemberEntry)). were_kept bs'.saved s.saved) (sym m) (subst (λ (o : Option (List StateEntry)). were_kept o ms.saved) (sym b.saved) sound.saved);
}

pub sound_same : (bs bs' : Versions (List StateEntry)) (ms ms' : Versions (List MemberEntry)) → IsSound bs ms → bs' ≡ bs → ms' ≡ ms → IsSound bs' ms'
sound_same bs bs' ms ms' sound b m = subst (λ s. IsSound bs' s) (sym m) (subst (λ s. IsSound s ms) (sym b) sound)

-- what `notify`, `join` and `make` leave
pub sound_either : {T E : Type 0} (r : Result T E) (bs bs' : Versions (List StateEntry)) (ms ms' : Versions (List MemberEntry)) (seen : List BatchEntry) (members : List MemberEntry) → IsSound bs ms
    → OnOk r (AreEdited bs bs' seen) → OnOk r (ms' ≡ edited members ms) → OnOk r (BatchInvariant bs'.current ms'.current) → OnErr r (bs' ≡ bs) → OnErr r (ms' ≡ ms) → IsSound bs' ms'
sound_either (Ok x) bs bs' ms ms' seen members sound b m k eb em = sound_edited bs bs' ms ms' seen members sound b m k
sound_either (Err x) bs bs' ms ms' seen members sound b m k eb em = sound_same bs bs' ms ms' sound eb em

module _ (bs bs' : Versions (List StateEntry)) (ms ms' : Versions (List MemberEntry)) (sound : IsSound bs ms) where
  pub sound_begun : bs' ≡ begun bs → ms' ≡ begun ms → IsSound bs' ms'
  sound_begun b m = sound_same (begun bs) bs' (begun ms) ms' (record { together = refl; current = sound.current; saved = sound.current }) b m

  pub sound_committed : bs' ≡ committed bs → ms' ≡ committed ms → IsSound bs' ms'
  sound_committed b m = sound_same (committed bs) bs' (committed ms) ms' (record { together = refl; current = sound.current; saved = tt }) b m

undone_kept : (b : List StateEntry) (m : List MemberEntry) (bo : Option (List StateEntry)) (mo : Option (List MemberEntry)) → is_some bo ≡ is_some mo → BatchInvariant b m → were_kept bo mo → BatchInvariant (undone (record { current = b; saved = bo })).current (undone (record { current = m; saved = mo })).current
undone_kept b m None None t k w = k
undone_kept b m None (Some n) t k w = absurd (cc t)
undone_kept b m (Some c) None t k w = absurd (cc t)
undone_kept b m (Some c) (Some n) t k w = w

pub sound_undone : (bs bs' : Versions (List StateEntry)) (ms ms' : Versions (List MemberEntry)) → IsSound bs ms → bs' ≡ undone bs → ms' ≡ undone ms → IsSound bs' ms'
sound_undone bs bs' ms ms' sound b m = sound_same (undone bs) bs' (undone ms) ms' (record { together = refl; current = undone_kept bs.current ms.current bs.saved ms.saved sound.together sound.current sound.saved; saved = tt }) b m
