-- Where a link crashes: before each call of a turn it draws a word, as long as crashes are left, and it crashes where that is a multiple of 16.
use Rattle.std.specs.Prelude.{◌≡◌, ◌≢◌, ◌⊎◌, ◌<◌, ◌+◌, ◌-◌, ◌%◌, ◌||◌, ◌^◌, ℕ, Bool, true, false, List, Result, Ok, Err}
use Rattle.rand_pcg.specs.Lcg.{Lcg}
use Rattle.rand_pcg.specs.Pcg.{pcg32, pcg32_of_seed}
use Rattle.rand_core.specs.Pcg32Seed.{pcg32_seed}
use Rattle.sk_resp.specs.declared.reply.Reply.{Reply}
use Rattle.sk_link.specs.Call.{Call}
use Rattle.sk_link.specs.Walk.{Walk}
use Rattle.sk_link.specs.declared.link.LinkFault.{LinkFault}
use Rattle.sk_link.specs.declared.link.LinkFault.TheVariants.{Failed, Unreadable, Ended, Memory}
use Rattle.sk_lane.specs.Asks.{is_oom}
use Rattle.sk_lane.specs.declared.crashes.Crashes.{Crashes}
use Rattle.sk_lane.specs.declared.crashes.Drawing.{Drawing}

-- the next word of a generator, and the generator behind it
unfoldable pub word_of : Lcg → ℕ
word_of g = (pcg32 g).0

unfoldable pub behind_word : Lcg → Lcg
behind_word g = (pcg32 g).1

-- a worker's share of crashes, with the words of its own number
unfoldable pub first_crashes : ℕ → ℕ → ℕ → Crashes
first_crashes seed number count = record { words = pcg32_of_seed (pcg32_seed 16 ((seed + number) % 2 ^ 64)); left = count }

-- ## Before a call

-- The link has ended: it crashed, or there was no memory.
abbrev pub is_off : Drawing → Bool
is_off d = d.crashed || d.starved

-- no turn is on
abbrev pub at_rest : Crashes → Drawing
at_rest c = record { crashes = c; in_turn = false; crashed = false; starved = false }

-- a turn may begin
abbrev pub in_turn : Crashes → Drawing
in_turn c = record { crashes = c; in_turn = true; crashed = false; starved = false }

-- A word is to be drawn: a turn is on, and crashes are left.
abbrev pub MayCrash : Drawing → Type 0
MayCrash d = (d.in_turn ≡ true) × (0 < d.crashes.left)

-- a word is drawn
abbrev pub drawn : Drawing → Drawing
drawn d = record d { crashes = record d.crashes { words = behind_word d.crashes.words } }

-- a word is drawn, and the link crashes
abbrev pub crash : Drawing → Drawing
crash d = record d { crashes = record { words = behind_word d.crashes.words; left = d.crashes.left - 1 }; crashed = true }

-- A call goes on: its word is no multiple of 16, or none is to be drawn.
pub data Passes : Drawing → Drawing → Type 0 where
  drew : (a b : Drawing) → is_off a ≡ false → MayCrash a → word_of a.crashes.words % 16 ≢ 0 → b ≡ drawn a → Passes a b
  undrawn : (a b : Drawing) → is_off a ≡ false → (a.in_turn ≡ false) ⊎ (a.crashes.left ≡ 0) → b ≡ a → Passes a b

-- The link crashes: the word is a multiple of 16.
pub record Crashed (a b : Drawing) : Type 0 where
  pub on : is_off a ≡ false
  pub may : MayCrash a
  pub word : word_of a.crashes.words % 16 ≡ 0
  pub now : b ≡ crash a

-- There was no memory for the call or its reply, or the store answered `-OOM`.
pub record Starved (a b : Drawing) : Type 0 where
  pub mid : Drawing
  pub passed : Passes a mid
  pub now : b ≡ record mid { starved = true }

-- The link had ended.
pub record Rested (a b : Drawing) : Type 0 where
  pub off : is_off a ≡ true
  pub same : b ≡ a

-- what is drawn for a call of which this came
abbrev pub DrawsFor : Drawing → Result Reply LinkFault → Drawing → Type 0
DrawsFor a (Ok answer) b = Passes a b × (is_oom answer ≡ false)
DrawsFor a (Err Failed) b = Crashed a b
DrawsFor a (Err (Unreadable text)) b = ⊥
DrawsFor a (Err Ended) b = Rested a b
DrawsFor a (Err Memory) b = Starved a b

abbrev pub DrawsCall : Drawing → Call → Drawing → Type 0
DrawsCall a call b = DrawsFor a call.reply b

-- what is drawn for these calls, one after another
abbrev pub Draws : Drawing → List Call → Drawing → Type 0
Draws a calls b = Walk DrawsCall a calls b
