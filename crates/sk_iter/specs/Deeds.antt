-- What a call of `iterate` does behind its GET, one deed after another: items that it runs, and saves of the next one's number.
use Rattle.std.specs.Prelude.{◌==◌, ◌+◌, ◌%◌, ◌∷◌, ◌++◌, [], ℕ, zero, suc, Bool, true, false, not, List}
use Rattle.sk_resp.specs.Spelling.{Bytes}
use Rattle.sk_worker.specs.declared.job.Outcome.TheVariants as outcome
use Rattle.sk_iter.specs.Event.{Event, ItemRun, asked, ran}
use Rattle.sk_iter.specs.Request.{set_words}
use Rattle.sk_iter.specs.declared.iter_end.IterEnd.{IterEnd}
use Rattle.sk_iter.specs.declared.iter_end.IterEnd.TheVariants.{Done, Paused, Raised}

pub data Deed : Type 0 where
  -- a request, by its words
  sends : List Bytes → Deed
  runs : ItemRun → Deed

abbrev pub deed_of : Event → Deed
deed_of (asked call) = sends call.request
deed_of (ran run) = runs run

-- ## Saves

abbrev pub saves : Bytes → ℕ → Deed
saves jid next = sends (set_words jid next)

abbrev pub save_if : Bool → Bytes → ℕ → List Deed
save_if true jid next = saves jid next ∷ []
save_if false jid next = []

-- Once so many items of a call have returned, the next one's number is saved behind the last of them, or it is the cursor that was read.
abbrev pub is_saved : ℕ → ℕ → Bool
is_saved every n = n % every == 0

-- ## Items

-- how a call goes on: the job, how often it saves, and the cursor that it read
pub record Pace : Type 0 where
  pub jid : Bytes
  pub every : ℕ
  pub cursor : ℕ

-- the item behind `n` others, which returns
abbrev pub returned_one : Pace → ℕ → List Deed
returned_one p n =
    runs (record { index = p.cursor + n; outcome = outcome.Returned }) ∷ save_if (is_saved p.every (n + 1)) p.jid (p.cursor + (n + 1))

-- the first items from the cursor on, so many, each of which returns
unfoldable pub returned : Pace → ℕ → List Deed
returned p zero = []
returned p (suc n) = returned p n ++ returned_one p n

-- the item behind `n` others, where it raises
abbrev pub raised_at : Pace → ℕ → IterEnd → List Deed
raised_at p n (Raised index it) = runs (record { index = p.cursor + n; outcome = outcome.Raised it }) ∷ []
raised_at p n Done = []
raised_at p n (Paused next) = []

-- ## The whole call

-- `n` items return, perhaps one raises, and the next number is saved where it isn't
abbrev pub whole : Pace → ℕ → IterEnd → List Deed
whole p n end = returned p n ++ raised_at p n end ++ save_if (not (is_saved p.every n)) p.jid (p.cursor + n)
