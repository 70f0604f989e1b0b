-- How much a turn may be: how many events it has, and how far it takes what a load holds.
use Rattle.std.proofs.Common.{◌≡◌, ◌≤◌, ◌<◌, ◌+◌, ℕ, List, [], ◌∷◌, length, refl, arith, Bool, true, false}
use Rattle.std.specs.Prelude.{nat_lt, ◌==◌, if◌then◌else◌, codes}
use Rattle.sk_resp.specs.Spelling.{Bytes}
use Rattle.sk_seats.specs.declared.phase.Phase.{Phase}
use Rattle.sk_seats.specs.declared.phase.Phase.TheVariants.{Plain, Joined}
use Rattle.sk_seats.specs.declared.work.Stage.{Stage}
use Rattle.sk_seats.specs.declared.work.Stage.TheVariants.{Held, Put, Settled}
use Rattle.sk_seats.specs.declared.work.Work.{Work}
use Rattle.sk_model.specs.Reading.{Words}
use Rattle.sk_model.specs.World.{World, phase_of}
use Rattle.sk_drill.specs.Actors.{actor_of, queue_of}
use Rattle.sk_drill.specs.Requests.{script}
use Rattle.sk_drill.specs.Load.{LoadState, Part, word, drawn, later, one, pushing, push_part, poll_part, crash_part, fail_part, held_part, stage_part, fetch_part, works_part, work_part, part_of, turn_part, batches_part, with_first, opening_part}
use Rattle.sk_drill.specs.declared.actor.Actor.{Actor}
use Rattle.sk_drill.specs.declared.actor.Actor.TheVariants.{Client, Poller, Crash, Worker}

-- seven events at most, no time, and one command of the periodic job at most
pub record IsSmall (s : LoadState) (p : Part) : Type 0 where
  pub few : length p.events ≤ 7
  pub moment : p.rest.moment ≤ s.moment
  pub crons : p.rest.crons ≤ s.crons + 1

either : (s : LoadState) (b : Bool) (p q : Part) → IsSmall s p → IsSmall s q → IsSmall s (if b then p else q)
either s true p q a b = a
either s false p q a b = b

one_small : (s : LoadState) (seat : ℕ) (words : Words) → IsSmall s (one s seat words)
one_small s seat words = record { few = omega arith; moment = omega arith; crons = omega arith }

push_small : (s : LoadState) → IsSmall s (push_part s)
unfolding push_part
push_small s = either s (nat_lt s.pushed s.jobs) (pushing (drawn s) (queue_of (word 8 s))) (record { events = []; rest = s })
    (record { few = omega arith; moment = omega arith; crons = omega arith }) (record { few = omega arith; moment = omega arith; crons = omega arith })

poll_small : (s : LoadState) → IsSmall s (poll_part s)
unfolding poll_part
poll_small s = record { few = omega arith; moment = omega arith; crons = omega arith }

crash_small : (s : LoadState) → IsSmall s (crash_part s)
unfolding crash_part
crash_small s = record { few = omega arith; moment = omega arith; crons = omega arith }

fail_small : (s : LoadState) (seat : ℕ) (text : Bytes) → IsSmall s (fail_part s seat text)
unfolding fail_part
fail_small s seat text = record { few = omega arith; moment = omega arith; crons = omega arith }

-- what is small behind a word is small before it
before_word : (s : LoadState) (p : Part) → IsSmall (drawn s) p → IsSmall s p
before_word s p small = record { few = small.few; moment = small.moment; crons = small.crons }

held_small : (s : LoadState) (seat : ℕ) (text : Bytes) → IsSmall s (held_part s seat text)
unfolding held_part
held_small s seat text =
    let n = word 8 s in
    let t = drawn s in
    before_word s _ (either t (n == 0) (one t seat (script (codes "SK.BACK") text)) _ (one_small t seat _)
    (either t (n == 1) (fail_part t seat text) (one t seat (script (codes "SK.OK") text)) (fail_small t seat text) (one_small t seat _)))

stage_small : (s : LoadState) (seat : ℕ) (text : Bytes) (stage : Stage) → IsSmall s (stage_part s seat text stage)
stage_small s seat text Held = held_small s seat text
stage_small s seat text Put = one_small s seat _
stage_small s seat text (Settled end) = one_small s seat _

fetch_small : (s : LoadState) (seat : ℕ) → IsSmall s (fetch_part s seat)
unfolding fetch_part
fetch_small s seat = before_word s _ (one_small (drawn s) seat _)

works_small : (s : LoadState) (seat : ℕ) (works : List Work) → IsSmall s (works_part s seat works)
works_small s seat [] = fetch_small s seat
works_small s seat (work ∷ works) = stage_small s seat work.payload work.stage

work_small : (s : LoadState) (seat : ℕ) (phase : Phase) → IsSmall s (work_part s seat phase)
work_small s seat Plain = one_small s seat _
work_small s seat (Joined ident works) = works_small s seat works

part_small : (a : Actor) (s : LoadState) (w : World) → IsSmall s (part_of a s w)
part_small Client s w = push_small s
part_small Poller s w = poll_small s
part_small Crash s w = crash_small s
part_small (Worker seat) s w = work_small s seat (phase_of w seat)

word_below : (n : ℕ) (s : LoadState) → 0 < n → word n s < n
unfolding word
word_below n s some = omega arith

-- A turn has seven events at most, takes less than 200 milliseconds, and sends one command of the periodic job at most.
pub record IsSmallTurn (s : LoadState) (p : Part) : Type 0 where
  pub few : length p.events ≤ 7
  pub moment : p.rest.moment ≤ s.moment + 200
  pub crons : p.rest.crons ≤ s.crons + 1

pub turn_small : (s : LoadState) (w : World) → IsSmallTurn s (turn_part s w)
unfolding turn_part
turn_small s w =
    let small = part_small (actor_of (word 8 (later s))) (drawn (later s)) w in
    let below : word 200 s < 200 = word_below 200 s (omega arith) in
    record { few = small.few; moment = omega (arith, small.moment, below); crons = small.crons }

-- The beginning has six events at most, and takes no time.
pub record IsSmallStart (s : LoadState) (p : Part) : Type 0 where
  pub few : length p.events ≤ 6
  pub moment : p.rest.moment ≡ s.moment
  pub crons : p.rest.crons ≡ s.crons

-- two events at most
record IsPair (s : LoadState) (p : Part) : Type 0 where
  few : length p.events ≤ 2
  moment : p.rest.moment ≡ s.moment
  crons : p.rest.crons ≡ s.crons

pair_of : (s : LoadState) (b : Bool) (p q : Part) → IsPair s p → IsPair s q → IsPair s (if b then p else q)
pair_of s true p q a b = a
pair_of s false p q a b = b

batches_pair : (s : LoadState) → IsPair s (batches_part s)
batches_pair s = pair_of s (nat_lt (s.pushed + 1) s.jobs) _ _ (record { few = omega arith; moment = refl; crons = refl }) (record { few = omega arith; moment = refl; crons = refl })

pub opening_small : (s : LoadState) → IsSmallStart s (opening_part s)
unfolding opening_part
opening_small s =
    let pair = batches_pair (with_first s) in
    record { few = omega (arith, pair.few); moment = pair.moment; crons = pair.crons }
