-- What is seen of the seats of one store.
use Rattle.std.specs.Prelude.{ℕ, List, Option}
use Rattle.sk_model.specs.Change.{perform}
use Rattle.sk_model.specs.Step.{cut}
use Rattle.sk_model.specs.World.{World}
use Rattle.sk_lane.specs.declared.past_seat.PastSeat.{PastSeat}

-- the store's world, where no desk has it; the number that was given last, and how many are left; and the seats that have ended, where they are told
pub record CoreSeatsView : Type 0 where
  pub world : Option World
  pub last : ℕ
  pub left : ℕ
  pub past : Option (List PastSeat)

-- the world behind the cut of a seat
abbrev pub cut_off : World → ℕ → World
cut_off w seat = perform w (cut seat).changes
