-- The seats of threads stand apart, and so do their stories.
use Rattle.std.proofs.Common.{◌≡◌, ◌<◌, ◌≤◌, ◌+◌, ◌++◌, ◌∷◌, ◌∙◌, ℕ, List, [], Option, Some, ap, append_assoc, arith, length, map, subst, sym}
use Rattle.std.specs.Prelude.{◌≢◌}
use Rattle.std.specs.List.{AllByRecursion, AllZip, flat_map}
use Rattle.sk_worker.specs.Event.{Choice}
use Rattle.sk_worker.specs.Run.{Run}
use Rattle.sk_worker.specs.Stage.{Settings}
use Rattle.sk_resp.specs.Spelling.{Bytes}
use Rattle.sk_lane.specs.Lane.{LaneTold, Task}
use Rattle.sk_lane.specs.Story.{Sitting, Stories, all_told, one_more}
use Rattle.sk_lane.specs.declared.crashes.Crashes.{Crashes}
use Rattle.sk_lane.specs.declared.past_seat.PastSeat.{PastSeat}
use Rattle.sk_lane.specs.declared.story.Story.{Story}
use Rattle.sk_drill.specs.Crews.{ApartSoFar, HaveOwnSeats, IsOneOf, StandApart}

-- ## Seats that rise

-- The seats of the stories rise, from above the first number to the other one at most.
abbrev pub Rising : ℕ → List Story → ℕ → Type 0
Rising last [] top = last ≤ top
Rising last (story ∷ stories) top = (last < story.seat) × Rising story.seat stories top

pub rising_from : (a b : ℕ) (xs : List Story) (top : ℕ) → a ≤ b → Rising b xs top → Rising a xs top
rising_from a b [] top below r = omega (arith, below, r)
rising_from a b (x ∷ xs) top below r = (omega (arith, below, r.0), r.1)

rising_to : (a : ℕ) (xs : List Story) (t u : ℕ) → t ≤ u → Rising a xs t → Rising a xs u
rising_to a [] t u below r = omega (arith, below, r)
rising_to a (x ∷ xs) t u below r = (r.0, rising_to x.seat xs t u below r.1)

rising_more : (a m t : ℕ) (xs ys : List Story) → Rising a xs m → Rising m ys t → Rising a (xs ++ ys) t
rising_more a m t [] ys r s = rising_from a m ys t r s
rising_more a m t (x ∷ xs) ys r s = (r.0, rising_more x.seat m t xs ys r.1 s)

all_above : (a seat t : ℕ) (xs : List Story) → seat ≤ a → Rising a xs t → AllByRecursion (λ other. other.seat ≢ seat) xs
all_above a seat t [] below r = tt
all_above a seat t (x ∷ xs) below r = ((λ e. omega (arith, below, r.0, e)), all_above x.seat seat t xs (omega (arith, below, r.0)) r.1)

pub own_seats : (a t : ℕ) (xs : List Story) → Rising a xs t → HaveOwnSeats xs
own_seats a t [] r = tt
own_seats a t (x ∷ xs) r = (all_above x.seat x.seat t xs (omega arith) r.1, own_seats x.seat t xs r.1)

-- ## Stories of threads

stories_rise : (thread : ℕ) (w : Settings) (OfRules : List Choice → Type 0) (c : Crashes) (todo last : ℕ) (stories : List Story) (rs : List Run) (seats_ended : List PastSeat) →
    Stories thread w OfRules c todo last stories rs seats_ended → Rising last stories (last + length stories)
stories_rise thread w OfRules c _ last _ _ _ (all_told _ _) = omega arith
stories_rise thread w OfRules c todo last _ _ _ (one_more _ now _ left _ story rest rs more calls seats_ended is next told same on) = (
  omega (arith, next),
  rising_to story.seat rest (story.seat + length rest) (last + length (story ∷ rest)) (omega (arith, next))
      (stories_rise thread w OfRules now left story.seat rest more seats_ended on),
)

-- The stories of a lane are of its seats.
pub lane_rises : (t : Task) (classes : List Bytes) (OfRules : List Choice → Type 0) (OfJobs : List Run → Type 0) (seats seats_now : Sitting) (stories : List Story) →
    LaneTold t classes OfRules OfJobs seats seats_now stories → Rising seats.last stories (seats.last + seats.left)
lane_rises t classes OfRules OfJobs seats seats_now stories lane =
    rising_to seats.last stories (seats.last + length stories) (seats.last + seats.left) (omega (arith, lane.left_is))
    (stories_rise _ _ _ _ _ _ _ _ _ lane.told)

-- The stories of all lanes.
pub lanes_rise : {S W V : Type 0} (last left : S → ℕ) (seats : W → S) (Did : W → W → Type 0) (told : W → Option V) (items : V → List Story) →
    ((a b : W) (v : V) → Did a b → told b ≡ Some v → Rising (last (seats a)) (items v) (last (seats a) + left (seats a))) →
    (top : ℕ) (ws ws2 : List W) (vs : List V) → StandApart last left top (map seats ws) → AllZip Did ws ws2 → map told ws2 ≡ map Some vs →
    (most : ℕ) × Rising top (flat_map (λ lane. lane) (map items vs)) most
lanes_rise last left seats Did told items one top [] [] [] apart z e = (top, omega arith)
lanes_rise last left seats Did told items one top [] [] (v ∷ vs) apart z e = absurd (omega (arith, ap (λ l. length l) e))
lanes_rise last left seats Did told items one top [] (b ∷ ws2) vs apart z e = absurd z
lanes_rise last left seats Did told items one top (a ∷ ws) [] vs apart z e = absurd z
lanes_rise last left seats Did told items one top (a ∷ ws) (b ∷ ws2) [] apart z e = absurd (omega (arith, ap (λ l. length l) e))
lanes_rise last left seats Did told items one top (a ∷ ws) (b ∷ ws2) (v ∷ vs) apart z e =
    let first : told b ≡ Some v = cc in
    let others : map told ws2 ≡ map Some vs = cc in
    let from = last (seats a) in
    let to = last (seats a) + left (seats a) in
    let rest = lanes_rise last left seats Did told items one to ws ws2 vs apart.1 z.1 others in (
      rest.0,
      rising_from top from (items v ++ flat_map (λ lane. lane) (map items vs)) rest.0 apart.0
          (rising_more from to rest.0 (items v) (flat_map (λ lane. lane) (map items vs)) (one a b v z.0 first) rest.1),
    )

-- All stories, where those of the first two threads are one each.
pub all_apart : {S : Type 0} (last left : S → ℕ) (a b : S) (others : List S) (x y : Story) (lanes all : List Story) → StandApart last left 0 (a ∷ b ∷ others) →
    IsOneOf (last a) (left a) x.seat → IsOneOf (last b) (left b) y.seat → (most : ℕ) → Rising (last b + left b) lanes most → all ≡ x ∷ y ∷ lanes → HaveOwnSeats all
all_apart last left a b others x y lanes all apart first second most rest is =
    subst HaveOwnSeats (sym is) (own_seats 0 most (x ∷ y ∷ lanes) (
      omega (arith, first.above),
      (omega (arith, first.most, apart.1.0, second.above), rising_from y.seat (last b + left b) lanes most second.most rest),
    ))

-- ## Seats

front_apart : {S : Type 0} (last left : S → ℕ) (top : ℕ) (xs ys : List S) → StandApart last left top (xs ++ ys) → StandApart last left top xs
front_apart last left top [] ys apart = tt
front_apart last left top (x ∷ xs) ys apart = (apart.0, front_apart last left (last x + left x) xs ys apart.1)

-- The seats that workers got stand apart as they did.
pub hired_apart : {S : Type 0} (last left : S → ℕ) (a b : S) (working ws rest : List S) → ws ++ rest ≡ working → StandApart last left 0 (a ∷ b ∷ working) →
    StandApart last left 0 (a ∷ b ∷ ws)
hired_apart last left a b working ws rest is apart =
    (apart.0, (apart.1.0, front_apart last left (last b + left b) ws rest (subst (λ l. StandApart last left (last b + left b) l) (sym is) apart.1.1)))

pub apart_none : {S : Type 0} (last left : S → ℕ) (top : ℕ) (xs : List S) → xs ≡ [] → ApartSoFar last left top xs top
apart_none last left top xs none = record { on = λ rest apart. subst (λ l. StandApart last left top (l ++ rest)) (sym none) apart }

-- One more stands above the others.
pub apart_more : {S : Type 0} (last left : S → ℕ) (top now_ next : ℕ) (xs xs2 : List S) (x : S) → ApartSoFar last left top xs now_ → last x ≡ now_ → next ≡ now_ + left x →
    xs2 ≡ xs ++ x ∷ [] → ApartSoFar last left top xs2 next
apart_more last left top now_ next xs xs2 x so is next_is xs_are = record {
  on = λ rest apart. subst (λ l. StandApart last left top l) (sym (ap (λ l. l ++ rest) xs_are ∙ append_assoc xs (x ∷ []) rest))
      (so.on (x ∷ rest) (omega (arith, is), subst (λ n. StandApart last left n rest) (omega (arith, is, next_is)) apart));
}

pub all_stand : {S : Type 0} (last left : S → ℕ) (top now_ : ℕ) (xs : List S) → ApartSoFar last left top xs now_ → StandApart last left top xs
all_stand last left top now_ xs so = front_apart last left top xs [] (so.on [] tt)

-- The seats of the first two threads, and those of the workers.
pub threads_apart : {S : Type 0} (last left : S → ℕ) (last_a left_a last_b left_b now_ : ℕ) (xs : List S) → ApartSoFar last left 2 xs now_ → last_a + left_a ≤ last_b →
    last_b + left_b ≡ 2 → (0 ≤ last_a) × ((last_a + left_a ≤ last_b) × StandApart last left (last_b + left_b) xs)
threads_apart last left last_a left_a last_b left_b now_ xs so above is =
    (omega arith, (above, subst (λ n. StandApart last left n xs) (sym is) (all_stand last left 2 now_ xs so)))
