-- What a hub counts: the rows that replies acknowledged, the commands that were asked, and the seats that were cut.
use Rattle.std.specs.Prelude.{◌≡◌, ◌⊎◌, ℕ, ◌+◌, List, Bool, true, false, filter, length}
use Rattle.sk_resp.specs.declared.reply.Reply.{Reply}
use Rattle.sk_resp.specs.declared.reply.Reply.TheVariants as reply
use Rattle.sk_resp.specs.declared.say.Say.TheVariants as say
use Rattle.sk_desk.specs.declared.entry.Deed.{Deed}
use Rattle.sk_desk.specs.declared.entry.Deed.TheVariants as deed
use Rattle.sk_desk.specs.declared.entry.Entry.{Entry}

-- rows that were acknowledged, commands that were asked, seats that were cut
pub record Counts : Type 0 where
  pub rows : ℕ
  pub asks : ℕ
  pub cuts : ℕ

abbrev pub nothing : Counts
nothing = record { rows = 0; asks = 0; cuts = 0 }

-- one more command, whose reply acknowledged so many rows
abbrev pub with_ask : ℕ → Counts → Counts
with_ask rows c = record c { rows = c.rows + rows; asks = c.asks + 1 }

-- one more seat that was cut
abbrev pub with_cut : Counts → Counts
with_cut c = record c { cuts = c.cuts + 1 }

-- how many parts of each ledger a share has, and what it counts
pub record ShareView : Type 0 where
  pub parts : ℕ
  pub counts : Counts

abbrev pub blank_share : ℕ → ShareView
blank_share parts = record { parts = parts; counts = nothing }

-- the parts and the counts of both
abbrev pub added : ShareView → ShareView → ShareView
added s other = record {
  parts = s.parts + other.parts;
  counts = record { rows = s.counts.rows + other.counts.rows; asks = s.counts.asks + other.counts.asks; cuts = s.counts.cuts + other.counts.cuts };
}

-- the names of a hub's ledgers
pub record Names : Type 0 where
  pub acks : ℕ
  pub asks : ℕ
  pub cuts : ℕ

-- A call counts as one that was asked; or its journal found no memory for it, and the reply says so.
abbrev pub CountsAsk : Reply → ℕ → ℕ → Type 0
CountsAsk answer before after = (after ≡ before + 1) ⊎ ((answer ≡ reply.Say say.Oom) × (after ≡ before))

-- ## The entries of a journal

abbrev pub is_ask : Deed → Bool
is_ask (deed.Ask ask) = true
is_ask deed.Cut = false

abbrev pub is_cut : Deed → Bool
is_cut (deed.Ask ask) = false
is_cut deed.Cut = true

-- So many of the entries are Asks, and so many are Cuts.
pub record HasEvents (asks cuts : ℕ) (entries : List Entry) : Type 0 where
  pub asks_are : length (filter (λ e. is_ask e.deed) entries) ≡ asks
  pub cuts_are : length (filter (λ e. is_cut e.deed) entries) ≡ cuts
