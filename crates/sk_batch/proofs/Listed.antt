-- Edits of the list of batches and of its index agree.
use Rattle.std.proofs.Common.{◌≡◌, ℕ, zero, suc, ◌+◌, ◌<◌, true, not, ◌&&◌, List, [], ◌∷◌, Some, None, length, refl, sym, subst, ap, ap₂, ◌∙◌, arith, slice_get}
use Rattle.std.specs.BTreeMap.{insert_entry, is_at}
use Rattle.std.specs.List.{position_or_len, remove}
use Rattle.std.specs.Map.{lookup}
use Rattle.sk_resp.specs.Spelling.{Bytes}
use Rattle.sk_resp.specs.WordOrder.{text_cmp}
use Rattle.sk_undo.specs.Moves.{moved}
use Rattle.sk_undo.specs.Versions.{BothPass, Versions, edited, map_versions}
use Rattle.sk_batch.specs.Along.{retag}
use Rattle.sk_batch.specs.Batched.{has_bid}
use Rattle.sk_batch.specs.Places.{each_once, index_of}
use Rattle.sk_batch.proofs.Along.{any_retag}
use Rattle.sk_batch.proofs.Indexed.{place_found, place_nowhere}
use Rattle.sk_batch.proofs.Places.{put_down_behind}
use Rattle.sk_batch.specs.declared.batch.Batch.{Batch}

abbrev pub bared : {K : Type 0} → List (K × Batch) → List (Unit {0} × Batch)
bared {K} batches = let bare : K × Batch → Unit {0} = λ b. tt in retag bare batches

pub length_bare : {K : Type 0} (bs : List (K × Batch)) → length (bared bs) ≡ length bs
length_bare [] = refl
length_bare (b ∷ bs) = ap suc (length_bare bs)

index_bare : {K : Type 0} (bs : List (K × Batch)) → index_of (bared bs) ≡ index_of bs
index_bare [] = refl
index_bare (b ∷ bs) = ap₂ (λ ix n. insert_entry text_cmp ix b.1.bid n) (index_bare bs) (length_bare bs)

once_bare : {K : Type 0} (bs : List (K × Batch)) → each_once (bared bs) ≡ each_once bs
once_bare [] = refl
once_bare {K} (b ∷ bs) = let bare : K × Batch → Unit {0} = λ c. tt in ap₂ (λ n r. not n && r) (any_retag bare bs b.1.bid) (once_bare bs)

pub moved_bare : {K : Type 0} (bs : List (K × Batch)) (at : ℕ) (tag : K) → at < length bs → bared (moved at at tag bs) ≡ bared bs
moved_bare [] at tag h = absurd (omega (arith, h))
moved_bare (b ∷ bs) zero tag h = refl
moved_bare (b ∷ bs) (suc n) tag h = ap bared (put_down_behind (slice_get bs n) n tag b (remove bs n)) ∙ ap (λ l. (tt, b.1) ∷ l) (moved_bare bs n tag (omega (arith, h)))

module _ {K : Type 0} where
  abbrev pub Listed : Versions (List (K × Batch)) → Versions (List (Bytes × ℕ)) → Type 0
  Listed es ix = (ix ≡ map_versions index_of es) × BothPass each_once es

  listed_same : (es es' : Versions (List (K × Batch))) (ix ix' : Versions (List (Bytes × ℕ))) → Listed es ix → es' ≡ es → ix' ≡ ix → Listed es' ix'
  listed_same es es' ix ix' l e i = subst (λ s. Listed es' s) (sym i) (subst (λ s. Listed s ix) (sym e) l)

  -- another list now, with its index
  listed_edited : (es : Versions (List (K × Batch))) (ix : Versions (List (Bytes × ℕ))) (now : List (K × Batch)) → Listed es ix → each_once now ≡ true → Listed (edited now es) (edited (index_of now) ix)
  listed_edited es ix now l once = (ap (edited (index_of now)) l.0, record { current = once; saved = l.1.saved })

  pub listed_moved : (es es' : Versions (List (K × Batch))) (ix : Versions (List (Bytes × ℕ))) (at : ℕ) (tag : K) → Listed es ix → at < length es.current → es' ≡ edited (moved at at tag es.current) es → Listed es' ix
  listed_moved es es' ix at tag l h a =
      let bare = moved_bare es.current at tag h in
      let once : each_once (moved at at tag es.current) ≡ true = sym (once_bare (moved at at tag es.current)) ∙ ap each_once bare ∙ once_bare es.current ∙ l.1.current in
      let index : index_of (moved at at tag es.current) ≡ index_of es.current = sym (index_bare (moved at at tag es.current)) ∙ ap index_of bare ∙ index_bare es.current in
      let current : ix.current ≡ index_of es.current = ap (λ (s : Versions (List (Bytes × ℕ))). s.current) l.0 in
      listed_same (edited (moved at at tag es.current) es) es' (edited (index_of (moved at at tag es.current)) ix) ix (listed_edited es ix (moved at at tag es.current) l once) a
      (ap (λ k. edited k ix) (current ∙ sym index))

  -- where a batch stands, by the index
  pub listed_there : (es : Versions (List (K × Batch))) (ix : Versions (List (Bytes × ℕ))) → Listed es ix → (bid : Bytes) (n : ℕ) → Some n ≡ lookup (is_at (text_cmp bid)) ix.current → suc (position_or_len (has_bid bid) es.current + n) ≡ length es.current
  listed_there es ix l bid n h = place_found bid es.current n (h ∙ ap (λ (s : Versions (List (Bytes × ℕ))). lookup (is_at (text_cmp bid)) s.current) l.0)

  pub listed_nowhere : (es : Versions (List (K × Batch))) (ix : Versions (List (Bytes × ℕ))) → Listed es ix → (bid : Bytes) → None ≡ lookup (is_at (text_cmp bid)) ix.current → length es.current ≡ position_or_len (has_bid bid) es.current
  listed_nowhere es ix l bid h = place_nowhere bid es.current (h ∙ ap (λ (s : Versions (List (Bytes × ℕ))). lookup (is_at (text_cmp bid)) s.current) l.0)
