-- A file in memory: what its writes and syncs make of it, and what a crash may leave between them.
use Rattle.std.specs.Prelude.{◌≡◌, ◌⊎◌, ◌+◌, ◌-◌, ◌≤◌, ℕ, zero, suc, List, [], ◌∷◌, ◌++◌, length, take, drop, replicate, refl}
use Rattle.std.proofs.Common.{inr, subst, sym}
use Rattle.sk_disk.specs.declared.mem_disk.Call.{Call}
use Rattle.sk_disk.specs.declared.mem_disk.Call.TheVariants.{Wrote, Synced}
use Rattle.sk_disk.specs.Images.{Narrows, Torn}

pub record Stored : Type 0 where
  -- what it held at first, all of it on the disk
  pub first : List ℕ
  -- the writes and syncs that were done
  pub calls : List Call
  -- how often a call has failed
  pub faults : ℕ

-- Bytes are put over others from that place on. Where it is behind their end, zeros stand between.
abbrev pub put : ℕ → List ℕ → List ℕ → List ℕ
put at bytes old = take at old ++ replicate (at - length old) 0 ++ bytes ++ drop (at + length bytes) old

-- what a read gives after the calls
abbrev pub seen : List ℕ → List Call → List ℕ
seen bytes [] = bytes
seen bytes (Wrote at new ∷ calls) = seen (put at new.items bytes) calls
seen bytes (Synced ∷ calls) = seen bytes calls

-- a write that a crash leaves in part, or whole
abbrev pub InPart : ℕ → List ℕ → List ℕ → List ℕ → Type 0
InPart at bytes image torn = Torn at (length bytes) image torn ⊎ (torn ≡ put at bytes image)

-- A read gives bytes, and a crash has left an image. After the calls it leaves this one: each write may be torn, and a sync leaves what a read gives.
abbrev pub IsLeft : List ℕ → List ℕ → List Call → List ℕ → Type 0
IsLeft bytes image [] c = c ≡ image
IsLeft bytes image (Wrote at new ∷ calls) c = (torn : List ℕ) × (InPart at new.items image torn × IsLeft (put at new.items bytes) torn calls c)
IsLeft bytes image (Synced ∷ calls) c = IsLeft bytes bytes calls c

abbrev pub content : Stored → List ℕ
content m = seen m.first m.calls

-- the same after some of the calls
abbrev pub IsLeftWithin : List ℕ → List ℕ → List Call → List ℕ → Type 0
IsLeftWithin bytes image [] c = c ≡ image
IsLeftWithin bytes image (Wrote at new ∷ calls) c = (c ≡ image) ⊎ ((torn : List ℕ) × (InPart at new.items image torn × IsLeftWithin (put at new.items bytes) torn calls c))
IsLeftWithin bytes image (Synced ∷ calls) c = (c ≡ image) ⊎ IsLeftWithin bytes bytes calls c

-- and after the first so many, and perhaps more
abbrev pub IsLeftSince : ℕ → List ℕ → List ℕ → List Call → List ℕ → Type 0
IsLeftSince zero bytes image calls c = IsLeftWithin bytes image calls c
IsLeftSince (suc t) bytes image [] c = c ≡ image
IsLeftSince (suc t) bytes image (Wrote at new ∷ calls) c = (torn : List ℕ) × (InPart at new.items image torn × IsLeftSince t (put at new.items bytes) torn calls c)
IsLeftSince (suc t) bytes image (Synced ∷ calls) c = IsLeftSince t bytes bytes calls c

-- one call more was done
pub record Adds (call : Call) (old new : Stored) : Type 0 where
  pub first : new.first ≡ old.first
  pub calls : new.calls ≡ old.calls ++ call ∷ []

-- nothing was done
pub record Still (old new : Stored) : Type 0 where
  pub first : new.first ≡ old.first
  pub calls : new.calls ≡ old.calls

-- ## Laws

all_done : (bytes : List ℕ) (calls : List Call) → IsLeft bytes bytes calls (seen bytes calls)
all_done bytes [] = refl
all_done bytes (Wrote at new ∷ calls) = (put at new.items bytes, (inr refl, all_done (put at new.items bytes) calls))
all_done bytes (Synced ∷ calls) = all_done bytes calls

pub reads_left : (m : Stored) → Narrows (IsLeft m.first m.first m.calls) (λ c. c ≡ content m)
reads_left m c is = subst (λ (image : List ℕ). IsLeft m.first m.first m.calls image) (sym is) (all_done m.first m.calls)

within : (bytes image : List ℕ) (calls : List Call) (c : List ℕ) → IsLeft bytes image calls c → IsLeftWithin bytes image calls c
within bytes image [] c left = left
within bytes image (Wrote at new ∷ calls) c (torn, (part, left)) = inr (torn, (part, within (put at new.items bytes) torn calls c left))
within bytes image (Synced ∷ calls) c left = inr (within bytes bytes calls c left)

since : (t : ℕ) (bytes image : List ℕ) (calls : List Call) (c : List ℕ) → IsLeft bytes image calls c → IsLeftSince t bytes image calls c
since zero bytes image calls c left = within bytes image calls c left
since (suc t) bytes image [] c left = left
since (suc t) bytes image (Wrote at new ∷ calls) c (torn, (part, left)) = (torn, (part, since t (put at new.items bytes) torn calls c left))
since (suc t) bytes image (Synced ∷ calls) c left = since t bytes bytes calls c left

pub counts_now : (m : Stored) (t : ℕ) → t ≤ length m.calls → Narrows (IsLeftSince t m.first m.first m.calls) (IsLeft m.first m.first m.calls)
counts_now m t le c left = since t m.first m.first m.calls c left

now : (bytes image : List ℕ) (calls : List Call) (c : List ℕ) → IsLeftSince (length calls) bytes image calls c → IsLeft bytes image calls c
now bytes image [] c left = left
now bytes image (Wrote at new ∷ calls) c (torn, (part, left)) = (torn, (part, now (put at new.items bytes) torn calls c left))
now bytes image (Synced ∷ calls) c left = now bytes bytes calls c left

pub only_now : (m : Stored) → Narrows (IsLeft m.first m.first m.calls) (IsLeftSince (length m.calls) m.first m.first m.calls)
only_now m c left = now m.first m.first m.calls c left
