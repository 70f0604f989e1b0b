-- What a pass has, and what becomes of it.
use Rattle.std.specs.Prelude.{◌≡◌, ℕ, ◌+◌, ◌-◌, ◌*◌, ◌<◌, ◌≤◌, ◌^◌}
use Rattle.sk_desk.specs.Counts.{Counts, ShareView}

-- the number that was given last, how many are left behind it, the parts of the share, and the rows, the commands and the cuts that it counts
pub record PassView : Type 0 where
  pub given : ℕ
  pub count : ℕ
  pub parts : ℕ
  pub amount : ℕ
  pub asks : ℕ
  pub cuts : ℕ

-- the numbers, with this share
abbrev pub pass_of : ℕ → ℕ → ShareView → PassView
pass_of given count s = record { given = given; count = count; parts = s.parts; amount = s.counts.rows; asks = s.counts.asks; cuts = s.counts.cuts }

abbrev pub counts_of : PassView → Counts
counts_of p = record { rows = p.amount; asks = p.asks; cuts = p.cuts }

abbrev pub share_of : PassView → ShareView
share_of p = record { parts = p.parts; counts = counts_of p }

-- at least one part, and at least two for each number that is left
pub record HasParts (given count parts : ℕ) : Type 0 where
  pub some : 0 < parts
  pub two_each : 2 * count ≤ parts
  pub fits : given + count < 2 ^ 32

-- the parts of this share come to it, and what it counts
abbrev pub joined : PassView → ShareView → PassView
joined p s = record p { parts = p.parts + s.parts; amount = p.amount + s.counts.rows; asks = p.asks + s.counts.asks; cuts = p.cuts + s.counts.cuts }

-- the next number is given, with one part
abbrev pub seated : PassView → PassView
seated p = record p { given = p.given + 1; count = p.count - 1; parts = p.parts - 1 }

-- The next numbers went to another pass, with two parts for each and nothing counted.
pub record IsSplit (count : ℕ) (old new other : PassView) : Type 0 where
  pub other_is : other ≡ record { given = old.given; count = count; parts = 2 * count; amount = 0; asks = 0; cuts = 0 }
  pub given_is : new.given ≡ old.given + count
  pub count_is : new.count + count ≡ old.count
  pub parts_are : new.parts + 2 * count ≡ old.parts
  pub amount_is : new.amount ≡ old.amount
  pub asks_are : new.asks ≡ old.asks
  pub cuts_are : new.cuts ≡ old.cuts

-- a desk's number, and the rows and the commands that its share counts
pub record DeskView : Type 0 where
  pub seat : ℕ
  pub amount : ℕ
  pub asks : ℕ

-- what an ended desk hands back: one part, what it counted, and its cut
abbrev pub share_left : DeskView → ShareView
share_left d = record { parts = 1; counts = record { rows = d.amount; asks = d.asks; cuts = 1 } }
