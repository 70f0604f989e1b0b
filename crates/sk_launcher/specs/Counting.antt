-- How many turns came to each answer.
use Rattle.std.specs.Prelude.{ℕ, ◌+◌, ◌-◌, ◌^◌, List, [], ◌∷◌, min}
use Rattle.sk_launcher.specs.declared.counts.Counts.{Counts}
use Rattle.sk_worker.specs.declared.turn.Turn.{Turn}
use Rattle.sk_worker.specs.declared.turn.Turn.TheVariants as turn

abbrev pub no_turns : Counts
no_turns = record { done = 0; retried = 0; buried = 0; discarded = 0 }

-- with one more turn
abbrev pub counted : Turn → Counts → Counts
counted turn.Empty c = c
counted turn.Done c = record c { done = c.done + 1 }
counted turn.Retried c = record c { retried = c.retried + 1 }
counted turn.Buried c = record c { buried = c.buried + 1 }
counted turn.Discarded c = record c { discarded = c.discarded + 1 }

-- the answers that are counted
abbrev pub sum_of : Counts → ℕ
sum_of c = c.done + c.retried + c.buried + c.discarded

-- a sum, or 2^64 - 1 where it is more
abbrev pub sum_up : ℕ → ℕ → ℕ
sum_up a b = min (a + b) (2 ^ 64 - 1)

abbrev pub plus : Counts → Counts → Counts
plus a b = record {
  done = sum_up a.done b.done;
  retried = sum_up a.retried b.retried;
  buried = sum_up a.buried b.buried;
  discarded = sum_up a.discarded b.discarded;
}

-- these counts with those of further workers
abbrev pub total_from : Counts → List Counts → Counts
total_from sum [] = sum
total_from sum (c ∷ counts) = total_from (plus sum c) counts

-- how many turns a worker took, and what came of them
pub record TallyView : Type 0 where
  pub taken : ℕ
  pub counts : Counts
