-- What one call more makes of a file in memory.
use Rattle.std.proofs.Common.{◌≡◌, ◌⊎◌, inl, inr, ⊎_elim, refl, sym, ap, ◌∙◌, subst, ℕ, zero, suc, ◌+◌, ◌-◌, ◌≤◌, max, List, [], ◌∷◌, ◌++◌, length, take, drop, arith, append_assoc, length-append, length-drop, take-append-drop}
use Rattle.std.specs.Prelude.{replicate, Vec}
use Rattle.std.specs.declared.alloc.Global.{Global}
use Rattle.std.proofs.lemmas.List.{drop_at, length-take, length-replicate, append-nil}
use Rattle.sk_disk.specs.declared.mem_disk.Call.{Call}
use Rattle.sk_disk.specs.declared.mem_disk.Call.TheVariants.{Wrote, Synced}
use Rattle.sk_disk.specs.Images.{Torn, Written, Elapses}
use Rattle.sk_disk.specs.Memory.{Adds, Still, Stored, content, reads_left, InPart, IsLeft, IsLeftSince, IsLeftWithin, put, seen}

-- ## A write

head_long : (at : ℕ) (bytes old : List ℕ) → length (take at old ++ replicate (at - length old) 0 ++ bytes) ≡ at + length bytes
head_long at bytes old = omega (arith, length-append (take at old ++ replicate (at - length old) 0) bytes, length-append (take at old) (replicate (at - length old) 0), length-take at old, length-replicate {A = ℕ} (at - length old) 0)

put_long : (at : ℕ) (bytes old : List ℕ) → length (put at bytes old) ≡ max (length old) (at + length bytes)
put_long at bytes old = omega (arith, head_long at bytes old, length-append (take at old ++ replicate (at - length old) 0 ++ bytes) (drop (at + length bytes) old), length-drop (at + length bytes) old)

-- a write may be done whole
pub whole : (at : ℕ) (bytes old : List ℕ) → Torn at (length bytes) old (put at bytes old)
whole at bytes old =
    let gap : List ℕ = replicate (at - length old) 0 in
    let end : List ℕ = drop (at + length bytes) old in
    record {
      front = (gap ++ bytes ++ end, append_assoc (take at old ++ gap) bytes end ∙ append_assoc (take at old) gap (bytes ++ end) ∙ ap (λ (l : List ℕ). take at old ++ l) (sym (append_assoc gap bytes end)));
      back = drop_at (take at old ++ gap ++ bytes) end (at + length bytes) (head_long at bytes old);
      no_shorter = omega (arith, put_long at bytes old);
      no_longer = omega (arith, put_long at bytes old);
    }

pub in_part : (at : ℕ) (bytes old new : List ℕ) → InPart at bytes old new → Torn at (length bytes) old new
in_part at bytes old new (inl torn) = torn
in_part at bytes old new (inr is) = subst (λ (l : List ℕ). Torn at (length bytes) old l) (sym is) (whole at bytes old)

pub written : (at : ℕ) (bytes old : List ℕ) → Written at bytes old (put at bytes old)
written at bytes old le = let none : at - length old ≡ 0 = omega (arith, le) in
    ap (λ (n : ℕ). take at old ++ replicate n 0 ++ bytes ++ drop (at + length bytes) old) none ∙ ap (λ (l : List ℕ). l ++ bytes ++ drop (at + length bytes) old) (append-nil (take at old))

-- ## One call more

pub seen_wrote : (bytes : List ℕ) (calls : List Call) (at : ℕ) (v : Vec ℕ Global) → seen bytes (calls ++ Wrote at v ∷ []) ≡ put at v.items (seen bytes calls)
seen_wrote bytes [] at v = refl
seen_wrote bytes (Wrote a u ∷ calls) at v = seen_wrote (put a u.items bytes) calls at v
seen_wrote bytes (Synced ∷ calls) at v = seen_wrote bytes calls at v

pub seen_synced : (bytes : List ℕ) (calls : List Call) → seen bytes (calls ++ Synced ∷ []) ≡ seen bytes calls
seen_synced bytes [] = refl
seen_synced bytes (Wrote a u ∷ calls) = seen_synced (put a u.items bytes) calls
seen_synced bytes (Synced ∷ calls) = seen_synced bytes calls

pub left_wrote : (bytes image : List ℕ) (calls : List Call) (at : ℕ) (v : Vec ℕ Global) (c : List ℕ) → IsLeft bytes image (calls ++ Wrote at v ∷ []) c → (d : List ℕ) × IsLeft bytes image calls d × Torn at (length v.items) d c
left_wrote bytes image [] at v c (torn, (part, is)) = (image, refl, in_part at v.items image c (subst (λ (l : List ℕ). InPart at v.items image l) (sym is) part))
left_wrote bytes image (Wrote a u ∷ calls) at v c (torn, (part, left)) = let d = left_wrote (put a u.items bytes) torn calls at v c left in (d.0, (torn, (part, d.1)), d.2)
left_wrote bytes image (Synced ∷ calls) at v c left = left_wrote bytes bytes calls at v c left

pub left_synced : (bytes image : List ℕ) (calls : List Call) (c : List ℕ) → IsLeft bytes image (calls ++ Synced ∷ []) c → c ≡ seen bytes calls
left_synced bytes image [] c is = is
left_synced bytes image (Wrote a u ∷ calls) c (torn, (part, left)) = left_synced (put a u.items bytes) torn calls c left
left_synced bytes image (Synced ∷ calls) c left = left_synced bytes bytes calls c left

-- ## Time

module _ (call : Call) where
  one_more : (bytes image c : List ℕ) (call : Call) → c ≡ image → IsLeftWithin bytes image (call ∷ []) c
  one_more bytes image c (Wrote at v) is = inl is
  one_more bytes image c Synced is = inl is

  keeps_within : (bytes image : List ℕ) (calls : List Call) (c : List ℕ) → IsLeftWithin bytes image calls c → IsLeftWithin bytes image (calls ++ call ∷ []) c
  keeps_within bytes image [] c is = one_more bytes image c call is
  keeps_within bytes image (Wrote a u ∷ calls) c (inl is) = inl is
  keeps_within bytes image (Wrote a u ∷ calls) c (inr (torn, (part, left))) = inr (torn, (part, keeps_within (put a u.items bytes) torn calls c left))
  keeps_within bytes image (Synced ∷ calls) c (inl is) = inl is
  keeps_within bytes image (Synced ∷ calls) c (inr left) = inr (keeps_within bytes bytes calls c left)

  keeps_since : (t : ℕ) (bytes image : List ℕ) (calls : List Call) (c : List ℕ) → t ≤ length calls → IsLeftSince t bytes image calls c → IsLeftSince t bytes image (calls ++ call ∷ []) c
  keeps_since zero bytes image calls c le left = keeps_within bytes image calls c left
  keeps_since (suc t) bytes image [] c le left = absurd (omega arith)
  keeps_since (suc t) bytes image (Wrote a u ∷ calls) c le (torn, (part, left)) = (torn, (part, keeps_since t (put a u.items bytes) torn calls c (omega (arith, le)) left))
  keeps_since (suc t) bytes image (Synced ∷ calls) c le left = keeps_since t bytes bytes calls c (omega (arith, le)) left

  done_now : (bytes image c : List ℕ) (call : Call) → IsLeftWithin bytes image (call ∷ []) c → (c ≡ image) ⊎ IsLeft bytes image (call ∷ []) c
  done_now bytes image c (Wrote at v) left = left
  done_now bytes image c Synced left = left

  adds_within : (bytes image : List ℕ) (calls : List Call) (c : List ℕ) → IsLeftWithin bytes image (calls ++ call ∷ []) c → IsLeftWithin bytes image calls c ⊎ IsLeft bytes image (calls ++ call ∷ []) c
  adds_within bytes image [] c left = done_now bytes image c call left
  adds_within bytes image (Wrote a u ∷ calls) c (inl is) = inl (inl is)
  adds_within bytes image (Wrote a u ∷ calls) c (inr (torn, (part, left))) =
      ⊎_elim (λ was. inl (inr (torn, (part, was)))) (λ now. inr (torn, (part, now))) (adds_within (put a u.items bytes) torn calls c left)
  adds_within bytes image (Synced ∷ calls) c (inl is) = inl (inl is)
  adds_within bytes image (Synced ∷ calls) c (inr left) = ⊎_elim (λ was. inl (inr was)) (λ now. inr now) (adds_within bytes bytes calls c left)

  adds_since : (t : ℕ) (bytes image : List ℕ) (calls : List Call) (c : List ℕ) → t ≤ length calls → IsLeftSince t bytes image (calls ++ call ∷ []) c → IsLeftSince t bytes image calls c ⊎ IsLeft bytes image (calls ++ call ∷ []) c
  adds_since zero bytes image calls c le left = adds_within bytes image calls c left
  adds_since (suc t) bytes image [] c le left = absurd (omega arith)
  adds_since (suc t) bytes image (Wrote a u ∷ calls) c le (torn, (part, left)) =
      ⊎_elim (λ was. inl (torn, (part, was))) (λ now. inr (torn, (part, now))) (adds_since t (put a u.items bytes) torn calls c (omega (arith, le)) left)
  adds_since (suc t) bytes image (Synced ∷ calls) c le left = adds_since t bytes bytes calls c (omega (arith, le)) left

  pub one_call : (first : List ℕ) (calls : List Call) → Elapses (length calls) (length (calls ++ call ∷ [])) (λ t c. IsLeftSince t first first calls c) (λ t c. IsLeftSince t first first (calls ++ call ∷ []) c) (λ c. IsLeft first first (calls ++ call ∷ []) c)
  one_call first calls = record {
    later = omega (arith, length-append calls (call ∷ []));
    nothing_else = λ t c le left. adds_since t first first calls c le left;
    keeps = λ t c le left. keeps_since t first first calls c le left;
  }

pub no_call : (first : List ℕ) (calls : List Call) → Elapses (length calls) (length calls) (λ t c. IsLeftSince t first first calls c) (λ t c. IsLeftSince t first first calls c) (λ c. IsLeft first first calls c)
no_call first calls = record { later = omega arith; nothing_else = λ t c le left. inl left; keeps = λ t c le left. left }

-- ## As the file sees it

moved : (P : List ℕ → List Call → Type 0) (f g : List ℕ) (cs ds : List Call) → g ≡ f → ds ≡ cs → P f cs → P g ds
moved P f g cs ds e h p = subst (λ (x : List ℕ). P x ds) (sym e) (subst (λ (x : List Call). P f x) (sym h) p)

pub adds_time : (call : Call) (old new : Stored) → Adds call old new → Elapses (length old.calls) (length new.calls) (λ t c. IsLeftSince t old.first old.first old.calls c) (λ t c. IsLeftSince t new.first new.first new.calls c) (λ c. IsLeft new.first new.first new.calls c)
adds_time call old new a = moved (λ f cs. Elapses (length old.calls) (length cs) (λ t c. IsLeftSince t old.first old.first old.calls c) (λ t c. IsLeftSince t f f cs c) (λ c. IsLeft f f cs c)) old.first new.first (old.calls ++ call ∷ []) new.calls a.first a.calls (one_call call old.first old.calls)

pub still_time : (old new : Stored) → Still old new → Elapses (length old.calls) (length new.calls) (λ t c. IsLeftSince t old.first old.first old.calls c) (λ t c. IsLeftSince t new.first new.first new.calls c) (λ c. IsLeft new.first new.first new.calls c)
still_time old new a = moved (λ f cs. Elapses (length old.calls) (length cs) (λ t c. IsLeftSince t old.first old.first old.calls c) (λ t c. IsLeftSince t f f cs c) (λ c. IsLeft f f cs c)) old.first new.first old.calls new.calls a.first a.calls (no_call old.first old.calls)

pub still_left : (old new : Stored) → Still old new → (c : List ℕ) → IsLeft new.first new.first new.calls c → IsLeft old.first old.first old.calls c
still_left old new a c left = moved (λ f cs. IsLeft f f cs c → IsLeft old.first old.first old.calls c) old.first new.first old.calls new.calls a.first a.calls (λ l. l) left

torn_nothing : (at n : ℕ) (c : List ℕ) → Torn at n c c
torn_nothing at n c = record { front = (drop at c, sym (take-append-drop at c)); back = refl; no_shorter = omega arith; no_longer = omega arith }

pub still_torn : (old new : Stored) (at n : ℕ) → Still old new → (c : List ℕ) → IsLeft new.first new.first new.calls c → (d : List ℕ) × IsLeft old.first old.first old.calls d × Torn at n d c
still_torn old new at n a c left = (c, still_left old new a c left, torn_nothing at n c)

pub wrote_left : (old new : Stored) (at : ℕ) (v : Vec ℕ Global) (bytes : List ℕ) → v.items ≡ bytes → Adds (Wrote at v) old new → (c : List ℕ) → IsLeft new.first new.first new.calls c → (d : List ℕ) × IsLeft old.first old.first old.calls d × Torn at (length bytes) d c
wrote_left old new at v bytes is a c left =
    let mine : IsLeft old.first old.first (old.calls ++ Wrote at v ∷ []) c = moved (λ f cs. IsLeft f f cs c → IsLeft old.first old.first (old.calls ++ Wrote at v ∷ []) c) old.first new.first (old.calls ++ Wrote at v ∷ []) new.calls a.first a.calls (λ l. l) left in
    subst (λ (b : List ℕ). (d : List ℕ) × IsLeft old.first old.first old.calls d × Torn at (length b) d c) is (left_wrote old.first old.first old.calls at v c mine)

adds_content : (call : Call) (old new : Stored) → Adds call old new → content new ≡ seen old.first (old.calls ++ call ∷ [])
adds_content call old new a = ap (λ (f : List ℕ). seen f new.calls) a.first ∙ ap (λ (cs : List Call). seen old.first cs) a.calls

pub wrote_content : (old new : Stored) (at : ℕ) (v : Vec ℕ Global) (bytes : List ℕ) → v.items ≡ bytes → Adds (Wrote at v) old new → (c : List ℕ) → c ≡ content new → (d : List ℕ) × (d ≡ content old) × Written at bytes d c
wrote_content old new at v bytes is a c e = (content old, refl, λ le. e ∙ adds_content (Wrote at v) old new a ∙ seen_wrote old.first old.calls at v ∙ ap (λ (b : List ℕ). put at b (content old)) is ∙ written at bytes (content old) le)

pub synced_content : (old new : Stored) → Adds Synced old new → content new ≡ content old
synced_content old new a = adds_content Synced old new a ∙ seen_synced old.first old.calls

pub synced_left : (old new : Stored) → Adds Synced old new → (c : List ℕ) → IsLeft new.first new.first new.calls c → c ≡ content old
synced_left old new a c left =
    let mine : IsLeft old.first old.first (old.calls ++ Synced ∷ []) c = moved (λ f cs. IsLeft f f cs c → IsLeft old.first old.first (old.calls ++ Synced ∷ []) c) old.first new.first (old.calls ++ Synced ∷ []) new.calls a.first a.calls (λ l. l) left in
    left_synced old.first old.first old.calls c mine

pub synced_fewer : (old new : Stored) → Adds Synced old new → (c : List ℕ) → IsLeft new.first new.first new.calls c → IsLeft old.first old.first old.calls c
synced_fewer old new a c left = reads_left old c (synced_left old new a c left)

pub still_on : (old mid new : Stored) → Still old mid → Still mid new → Still old new
still_on old mid new a b = record { first = b.first ∙ a.first; calls = b.calls ∙ a.calls }

pub adds_on : (call : Call) (old mid new : Stored) → Still old mid → Adds call mid new → Adds call old new
adds_on call old mid new a b = record { first = b.first ∙ a.first; calls = b.calls ∙ ap (λ (cs : List Call). cs ++ call ∷ []) a.calls }
