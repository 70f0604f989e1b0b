-- Each callback that was pushed stands behind something that was fired of a batch, and of a batch each kind is fired once. So there are no more of them
-- than three for a batch. A periodic job is pushed where there is room.
use Rattle.std.specs.Prelude.{◌≡◌, ◌≤◌, ℕ, ◌+◌, List, [], ◌∷◌, Option, Some, None, Bool, true, false, cond}
use Rattle.sk_resp.specs.Spelling.{Bytes}
use Rattle.sk_batch.specs.Batched.{Batched, BatchEntry, MemberEntry, has_bid, is_there}
use Rattle.sk_batch.specs.Open.{is_settled}
use Rattle.sk_batch.specs.declared.batch.Fired.{Fired}
use Rattle.sk_batch.specs.declared.firing.Kind.{Kind}
use Rattle.sk_batch.specs.declared.firing.Kind.TheVariants.{Complete, Success, Death}
use Rattle.sk_places.specs.LiveJobs.{one_if}
use Rattle.sk_model.specs.Room.{most_pushes}

-- ## Batches in order

abbrev pub ParentThere : List BatchEntry → Option Bytes → Type 0
ParentThere batches None = Unit {0}
ParentThere batches (Some parent) = is_there parent batches ≡ true

-- no id is used twice, and each parent was made before
abbrev pub IsTree : List BatchEntry → Type 0
IsTree [] = Unit {0}
IsTree (b ∷ older) = (is_there b.1.bid older ≡ false) × ParentThere older b.1.parent × IsTree older

-- each member's batch is there
abbrev pub AtHome : List BatchEntry → List MemberEntry → Type 0
AtHome bs [] = Unit {0}
AtHome bs (m ∷ ms) = (is_there m.1.bid bs ≡ true) × AtHome bs ms

pub record Sane (s : Batched) : Type 0 where
  pub tree : IsTree s.batches
  pub homes : AtHome s.batches s.members

-- ## What was fired

abbrev pub has_kind : Kind → Fired → Bool
has_kind Complete f = f.complete
has_kind Success f = f.success
has_kind Death f = f.death

-- of the batch of this id
abbrev pub was_fired : Kind → Bytes → List BatchEntry → Bool
was_fired kind b [] = false
was_fired kind b (e ∷ es) = cond (has_bid b e) (has_kind kind e.0) (was_fired kind b es)

-- how many kinds were fired of a batch
abbrev pub kinds_fired : Fired → ℕ
kinds_fired f = one_if f.complete + one_if f.success + one_if f.death

-- and of all batches together
abbrev pub fired_count : List BatchEntry → ℕ
fired_count [] = 0
fired_count (e ∷ es) = kinds_fired e.0 + fired_count es

-- ## Callbacks

-- So many rows were pushed by the store itself: as periodic jobs no more than there is room for, and as callbacks no more than were fired. What
-- succeeded is settled, so that it won't fire again.
pub record IsCovered (inner : ℕ) (s : Batched) : Type 0 where
  pub sane : Sane s
  pub settled : (b : Bytes) → was_fired Success b s.batches ≡ true → is_settled s b ≡ true
  pub fired : inner ≤ most_pushes + fired_count s.batches
