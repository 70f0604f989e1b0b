-- What the edits of a worker's commands are in the abstract store.
use Rattle.std.proofs.Common.{◌≡◌, ℕ, ℤ, pos, List, [], ◌∷◌, refl, sym, ap, ap₂, subst, ◌∙◌, arith, Bool, true, false, not, ◌&&◌, cond, position, ok_or}
use Rattle.std.specs.Prelude.{Option, Some, None, option_map, Result, IfErr, nat_lt, length}
use Rattle.std.specs.List.{list_any, position_or_len}
use Rattle.std.proofs.lemmas.Bool.Decides.{nat_tests}
use Rattle.std.specs.Option.{is_some}
use Rattle.std.specs.Str.{bytes_eq}
use Rattle.std.proofs.lemmas.Slice.Eq.{bytes_eq-Decides}
use Rattle.sk_resp.specs.Spelling.{Bytes}
use Rattle.sk_resp.specs.declared.reply.Reply.TheVariants as reply
use Rattle.sk_resp.specs.declared.say.Say.TheVariants as say
use Rattle.sk_resp.specs.declared.refusal.Refusal.{Refusal}
use Rattle.sk_resp.specs.declared.refusal.Refusal.TheVariants.{BadPayload, OutOfTurn}
use Rattle.sk_zset.specs.Pair.{Pair}
use Rattle.sk_cmd.specs.declared.argument.Side.TheVariants.{Left, Right}
use Rattle.sk_cmd.specs.declared.argument.Scored.{Scored}
use Rattle.sk_cmd.specs.declared.argument.Scored.TheVariants.{Retry}
use Rattle.sk_payload.specs.Head.{head}
use Rattle.sk_payload.specs.declared.head.Head.{Head}
use Rattle.sk_value.specs.Answer.{one_if}
use Rattle.sk_places.specs.declared.row.Place.TheVariants.{Private, Queue, Set}
use Rattle.sk_places.specs.declared.row.Row.{Row}
use Rattle.sk_places.specs.Rows.{row_at, row_of, rows_at}
use Rattle.sk_places.specs.Placed.{Placed, moved_if, without_row}
use Rattle.sk_seats.specs.declared.phase.Phase.{Phase}
use Rattle.sk_seats.specs.declared.phase.Phase.TheVariants.{Plain, Joined}
use Rattle.sk_seats.specs.declared.work.Stage.{Stage}
use Rattle.sk_seats.specs.declared.work.Stage.TheVariants.{Held, Put, Settled}
use Rattle.sk_seats.specs.declared.work.Work.{Work}
use Rattle.sk_seats.specs.Phases.{Phases, is_plain, phase_in, releasing, staging, turned, works_of}
use Rattle.sk_seats.specs.Works.{first, is_done_as, is_held as is_held_stage, is_held_as, is_retried_as}
use Rattle.sk_model.specs.Change.{changed, freed, freed_at, freed_work}
use Rattle.sk_model.specs.Outcome.{Realizes, Outcome, refuses}
use Rattle.sk_value.specs.declared.action.Action.{Action}
use Rattle.sk_value.specs.declared.action.Action.TheVariants as action
use Rattle.sk_value.specs.declared.write_op.WriteOp.{WriteOp}
use Rattle.sk_value.specs.declared.write_op.WriteOp.TheVariants as edit
use Rattle.sk_model.specs.Seats.{fetched_from, only, released_by, releases, releases_by, where_plain, where_some}
use Rattle.sk_model.specs.Workers.{back, fetch, give, give_row, release, release_of, retry, retry_pair, work, work_as, work_edit}
use Rattle.sk_model.specs.Sets.{put_as, put_back}
use Rattle.sk_model.specs.World.{World}
use Rattle.sk_jobs.specs.Seated.{IsFound, ended_at, ended_by, ident_in}

-- a world with these rows and names, and phases of seats
abbrev pub with_seats : World → Placed → Phases → World
with_seats w p phases = record w { rows = p.rows; names = p.names; live = p.jobs.live; tally = p.jobs.totals; phases = phases }

pub still_some : {A B C : Type 0} (f : A → B) (g : C → B) (x : Option A) (y : Option C) → option_map f x ≡ option_map g y → is_some x ≡ is_some y
still_some f g x y e = grind (arith, e)

-- ## The first work that passes

any_is : (test : Work → Bool) (works : List Work) → list_any test works ≡ nat_lt (position_or_len test works) (length works)
any_is test [] = refl
any_is test (work ∷ works) = grind (arith, nat_tests, any_is test works)

pub some_passes : (test : Work → Bool) (works : List Work) (at : ℕ) → position test works ≡ Some at → list_any test works ≡ true
some_passes test works at is = by_test (nat_lt (position_or_len test works) (length works)) (any_is test works) is where
  by_test : (b : Bool) → list_any test works ≡ b → cond b (Some (position_or_len test works)) None ≡ Some at → list_any test works ≡ true
  by_test true any is = any
  by_test false any is = absurd (cc is)

pub none_passes : (test : Work → Bool) (works : List Work) → position test works ≡ None → list_any test works ≡ false
none_passes test works is = by_test (nat_lt (position_or_len test works) (length works)) (any_is test works) is where
  by_test : (b : Bool) → list_any test works ≡ b → cond b (Some (position_or_len test works)) None ≡ None → list_any test works ≡ false
  by_test true any is = absurd (cc is)
  by_test false any is = any

-- what a worker's seat is refused that has none
pub none_is : (phase : Phase) (ident : Bytes) (works : List Work) (test : Work → Bool) (found : Option ℕ) (result : Result ℕ Refusal) → phase ≡ Joined ident works → found ≡ position test works → result ≡ ok_or found OutOfTurn
    → IfErr result (λ refusal. (o : Bytes → Outcome) → where_some phase test o ≡ refuses refusal)
none_is phase ident works test found result joined is value =
    subst (λ r. IfErr r (λ refusal. (o : Bytes → Outcome) → where_some phase test o ≡ refuses refusal)) (sym value) (by_found found is) where
      by_found : (o : Option ℕ) → o ≡ position test works → IfErr (ok_or o OutOfTurn) (λ refusal. (o : Bytes → Outcome) → where_some phase test o ≡ refuses refusal)
      by_found (Some at) is = tt
      by_found None is = λ o. ap (λ ph. where_some ph test o) joined ∙ ap (λ b. cond b (o ident) (refuses OutOfTurn)) (none_passes test works (sym is))

-- what a worker's seat may do that has a work which passes
pub found_is : (phase : Phase) (test : Work → Bool) (at : ℕ) (o : Bytes → Outcome) → IsFound test phase at → where_some phase test o ≡ o (ident_in phase)
found_is Plain test at o found = absurd (grind (arith, found.is))
found_is (Joined ident works) test at o found = ap (λ b. cond b (o ident) (refuses OutOfTurn)) (some_passes test works at found.is)

-- the same of a phase that is the same
pub found_at : (phase other : Phase) (test : Work → Bool) (at : ℕ) → phase ≡ other → IsFound test phase at → IsFound test other at
found_at phase other test at same found = subst (λ ph. IsFound test ph at) same found

pub found_in : (phase : Phase) (ident : Bytes) (works : List Work) (test : Work → Bool) (at : ℕ) → phase ≡ Joined ident works → IsFound test phase at → position test works ≡ Some at
found_in phase ident works test at joined found = ap (λ ph. position test (works_of ph)) (sym joined) ∙ found.is

first_passes : (test : Work → Bool) (works : List Work) (work : Work) → first test works ≡ Some work → test work ≡ true
first_passes test [] work is = absurd (cc is)
first_passes test (other ∷ works) work is = grind (arith, is, first_passes test works work)

both : (a b : Bool) → a && b ≡ true → (a ≡ true) × (b ≡ true)
both true b e = (refl, e)
both false b e = absurd (cc e)

-- the first that is held as a text has this text
pub held_text : (text : Bytes) (works : List Work) (work : Work) → first (is_held_as text) works ≡ Some work → work.payload ≡ text
held_text text works work there = (bytes_eq-Decides work.payload text).0 (both (is_held_stage work.stage) (bytes_eq work.payload text) (first_passes (is_held_as text) works work there)).1

done_text : (text : Bytes) (work : Work) → is_done_as text work ≡ true → work.payload ≡ text
done_text text work done = (bytes_eq-Decides work.payload text).0 (both (not (is_held_stage work.stage)) (bytes_eq work.payload text) done).1

done_stage : (text : Bytes) (work : Work) → is_done_as text work ≡ true → is_held_stage work.stage ≡ false
done_stage text work done = was_not (is_held_stage work.stage) (both (not (is_held_stage work.stage)) (bytes_eq work.payload text) done).0 where
  was_not : (b : Bool) → not b ≡ true → b ≡ false
  was_not true e = absurd (cc e)
  was_not false e = refl

-- the first that is done as a text has this text
pub done_payload : (text : Bytes) (works : List Work) (work : Work) → first (is_done_as text) works ≡ Some work → work.payload ≡ text
done_payload text works work there = done_text text work (first_passes (is_done_as text) works work there)

-- what a client's seat may do
pub plain_is : (phase : Phase) (o : Outcome) → phase ≡ Plain → where_plain phase o ≡ o
plain_is phase o is = ap (λ ph. where_plain ph o) is

-- ## The release

-- the rows stay where the job of a work ends
pub rows_stay : (work : Work) (p : Placed) → (ended_by work p).rows ≡ p.rows
rows_stay work p = by_stage work.stage where
  by_stage : (stage : Stage) → (ended_at stage work.payload p).rows ≡ p.rows
  by_stage Held = refl
  by_stage Put = refl
  by_stage (Settled end) = refl

-- a work of this text, at a stage, is released
freed_is : (w : World) (p : Placed) (phases : Phases) (ident text payload : Bytes) (stage : Stage) → is_held_stage stage ≡ false → payload ≡ text
    → freed_at stage ident payload (with_seats w p phases) ≡ with_seats w (without_row Left (row_at (Private ident) text) (ended_at stage payload p)) phases
freed_is w p phases ident text payload Held held same = absurd (cc held)
freed_is w p phases ident text payload Put held same = rw same refl
freed_is w p phases ident text payload (Settled end) held same = rw same refl

pub release_comes : (w : World) (was : Bool) (p new : Placed) (phases next : Phases) (seat : ℕ) (ident text : Bytes) (works : List Work) (work : Work) (at : ℕ)
    → phase_in phases seat ≡ Joined ident works → position (is_done_as text) works ≡ Some at → first (is_done_as text) works ≡ Some work
    → was ≡ is_some (row_of text (rows_at (Private ident) p.rows)) → new ≡ without_row Left (row_at (Private ident) text) (ended_by work p) → next ≡ turned seat (releasing (is_done_as text) (phase_in phases seat)) phases
    → Realizes (with_seats w p phases) (release_of (with_seats w p phases) seat (phase_in phases seat) ident (Some text)) (one_if was) (with_seats w new next)
release_comes w was p new phases next seat ident text works work at joined found there e g h =
    subst (λ b. Realizes before (cond b (release before seat (phase_in phases seat) ident text) (refuses OutOfTurn)) (one_if was) (with_seats w new next)) (sym some) (record { reply_is = ap one_if e; new_is = new_is }) where
      before : World
      before = with_seats w p phases

      after : Phase
      after = releasing (is_done_as text) (phase_in phases seat)

      some : list_any (is_done_as text) (works_of (phase_in phases seat)) ≡ true
      some = ap (λ phase. list_any (is_done_as text) (works_of phase)) joined ∙ some_passes (is_done_as text) works at found

      done : is_done_as text work ≡ true
      done = first_passes (is_done_as text) works work there

      free : freed text before (phase_in phases seat) ≡ with_seats w (without_row Left (row_at (Private ident) text) (ended_by work p)) phases
      free = ap (freed text before) joined ∙ ap (freed_work ident before) there ∙ freed_is w p phases ident text work.payload work.stage (done_stage text work done) (done_text text work done)

      new_is : with_seats w new next ≡ (let left : World = freed text before (phase_in phases seat) in record left { phases = turned seat after left.phases })
      new_is = ap₂ (with_seats w) g h ∙ sym (ap (λ (left : World). record left { phases = turned seat after left.phases }) free)

-- a seat that has none of this text
pub none_released : (w : World) (seat : ℕ) (phase : Phase) (ident own text : Bytes) (works : List Work) → phase ≡ Joined own works → position (is_done_as text) works ≡ None → release_of w seat phase ident (Some text) ≡ refuses OutOfTurn
none_released w seat phase ident own text works joined none =
    ap (λ b. cond b (release w seat phase ident text) (refuses OutOfTurn)) (ap (λ ph. list_any (is_done_as text) (works_of ph)) joined ∙ none_passes (is_done_as text) works none)

-- ## ZADD on `retry`

-- a text that is put back leaves the seats as they are
pub put_leaves : (w : World) (set : Scored) (pair : Pair) (found : Option Row) → (changed w (put_as set pair found)).phases ≡ w.phases
put_leaves w set pair None = refl
put_leaves w set pair (Some row) = refl

pub retry_is : (w : World) (seat : ℕ) (phase : Phase) (pair : Pair) → is_plain phase ≡ false → retry w seat phase (Some pair) ≡ where_some phase (is_retried_as pair.1) (λ ident. retry_pair w seat phase pair)
retry_is w seat Plain pair kept = absurd (cc kept)
retry_is w seat (Joined ident works) pair kept = refl

pub retry_comes : (w mid : World) (fresh : Bool) (next : Phases) (seat : ℕ) (score : ℤ) (text payload : Bytes) (at : ℕ) → is_plain (phase_in w.phases seat) ≡ false → payload ≡ text → IsFound (is_retried_as payload) (phase_in w.phases seat) at
    → fresh ≡ not (is_some (row_of payload (rows_at (Set Retry) w.rows))) → mid ≡ changed w (put_back w Retry (score, payload)) → next ≡ turned seat (staging (is_retried_as payload) Put (phase_in w.phases seat)) w.phases
    → Realizes w (retry w seat (phase_in w.phases seat) (Some (score, text))) (one_if fresh) (record mid { phases = next })
retry_comes w mid fresh next seat score text payload at kept same found e f g =
    subst (λ t. Realizes w (retry w seat phase (Some (score, t))) (one_if fresh) (record mid { phases = next })) same
    (subst (λ o. Realizes w o (one_if fresh) (record mid { phases = next })) (sym (retry_is w seat phase (score, payload) kept ∙ found_is phase (is_retried_as payload) at (λ ident. retry_pair w seat phase (score, payload)) found))
    (record { reply_is = ap one_if e; new_is = ap₂ (λ (v : World) (p : Phases). record v { phases = p }) f g ∙ ap (λ p. record put { phases = turned seat after p }) (sym stays) })) where
      phase : Phase
      phase = phase_in w.phases seat

      after : Phase
      after = staging (is_retried_as payload) Put phase

      put : World
      put = changed w (put_back w Retry (score, payload))

      stays : put.phases ≡ w.phases
      stays = put_leaves w Retry (score, payload) (row_of payload (rows_at (Set Retry) w.rows))

-- ## SK.BACK

-- the process of a seat that holds a payload with this head, and its queue
abbrev pub Way : Type 0
Way = Bytes × Bytes

abbrev pub way_of : Bytes → Option Head → Option Way
way_of ident o = option_map {U = Way} (λ h. (ident, h.queue)) o

pub back_refused : (w : World) (p : Placed) (phases : Phases) (seat : ℕ) (text : Bytes) (at : ℕ) → IsFound (is_held_as text) (phase_in phases seat) at → way_of (ident_in (phase_in phases seat)) (head text) ≡ None
    → Realizes (with_seats w p phases) (back (with_seats w p phases) seat (phase_in phases seat) text) (reply.Say (say.Refused BadPayload)) (with_seats w p phases)
back_refused w p phases seat text at found none =
    subst (λ o. Realizes before o (reply.Say (say.Refused BadPayload)) before) (sym (found_is phase (is_held_as text) at (λ ident. give before seat phase ident text (head text)) found)) (by_head (head text) none) where
      before : World
      before = with_seats w p phases

      phase : Phase
      phase = phase_in phases seat

      by_head : (o : Option Head) → way_of (ident_in phase) o ≡ None → Realizes before (give before seat phase (ident_in phase) text o) (reply.Say (say.Refused BadPayload)) before
      by_head None none = record { reply_is = refl; new_is = refl }
      by_head (Some h) none = absurd (cc none)

pub back_comes : (w : World) (was : Bool) (p new : Placed) (phases next : Phases) (seat : ℕ) (text : Bytes) (at : ℕ) (way : Way) → IsFound (is_held_as text) (phase_in phases seat) at → way_of (ident_in (phase_in phases seat)) (head text) ≡ Some way
    → was ≡ is_some (row_of text (rows_at (Private way.0) p.rows)) → new ≡ moved_if Left (row_of text (rows_at (Private way.0) p.rows)) (Queue way.1) (pos 0) Right p → next ≡ turned seat (releasing (is_held_as text) (phase_in phases seat)) phases
    → Realizes (with_seats w p phases) (back (with_seats w p phases) seat (phase_in phases seat) text) (one_if was) (with_seats w new next)
back_comes w was p new phases next seat text at way found there e f g =
    subst (λ o. Realizes before o (one_if was) (with_seats w new next)) (sym (found_is phase (is_held_as text) at (λ ident. give before seat phase ident text (head text)) found)) (by_head (head text) there) where
      before : World
      before = with_seats w p phases

      phase : Phase
      phase = phase_in phases seat

      after : Phase
      after = releasing (is_held_as text) phase

      by_row : (h : Head) (o : Option Row) → was ≡ is_some o → new ≡ moved_if Left o (Queue h.queue) (pos 0) Right p → Realizes before (give_row seat after h o) (one_if was) (with_seats w new next)
      by_row h None e f = record { reply_is = ap one_if e; new_is = ap₂ (with_seats w) f g }
      by_row h (Some row) e f = record { reply_is = ap one_if e; new_is = ap₂ (with_seats w) f g }

      same_way : (h : Head) → Some (ident_in phase, h.queue) ≡ Some way → (ident_in phase, h.queue) ≡ way
      same_way h is = cc is

      by_head : (o : Option Head) → way_of (ident_in phase) o ≡ Some way → Realizes before (give before seat phase (ident_in phase) text o) (one_if was) (with_seats w new next)
      by_head None none = absurd (cc none)
      by_head (Some h) is =
          let row : Way → Option Row = λ q. row_of text (rows_at (Private q.0) p.rows) in
          by_row h (row (ident_in phase, h.queue)) (e ∙ ap (λ q. is_some (row q)) (sym (same_way h is))) (f ∙ ap (λ q. moved_if Left (row q) (Queue q.1) (pos 0) Right p) (sym (same_way h is)))

-- ## What a command on keys is

fetch_as : (w : World) (seat : ℕ) (phase : Phase) (ident queue : Bytes) (a : Action) → fetched_from ident a ≡ Some queue → work_as w seat phase ident a ≡ fetch w seat phase ident (Some queue)
fetch_as w seat phase ident queue (action.WriteOp key e) from = absurd (cc from)
fetch_as w seat phase ident queue other from = ap (fetch w seat phase ident) from

pub fetch_is : (w : World) (seat : ℕ) (phase : Phase) (ident own queue : Bytes) (works : List Work) (a : Action) → phase ≡ Joined own works → ident ≡ own → fetched_from own a ≡ Some queue → work w seat phase a ≡ fetch w seat phase ident (Some queue)
fetch_is w seat phase ident own queue works a joined same from = rw (joined, same) (fetch_as w seat (Joined own works) own queue a from)

-- a fetch is no release
pub fetch_releases : (phase : Phase) (own queue : Bytes) (works : List Work) (a : Action) → phase ≡ Joined own works → fetched_from own a ≡ Some queue → releases phase a ≡ false
fetch_releases phase own queue works a joined from = ap (λ ph. releases ph a) joined ∙ by_action a from where
  by_action : (b : Action) → fetched_from own b ≡ Some queue → releases_by own works b ≡ false
  by_action (action.WriteOp key e) from = absurd (cc from)
  by_action other from = refl

release_as : (w : World) (seat : ℕ) (phase : Phase) (ident key text : Bytes) (e : WriteOp) → released_by ident key e ≡ Some text → work_edit w seat phase ident key e ≡ release_of w seat phase ident (Some text)
release_as w seat phase ident key text (edit.Zadd pairs) from = absurd (cc from)
release_as w seat phase ident key text other from = ap (release_of w seat phase ident) from

pub release_is : (w : World) (seat : ℕ) (phase : Phase) (ident own key text : Bytes) (works : List Work) (e : WriteOp) (a : Action) → phase ≡ Joined own works → a ≡ action.WriteOp key e → ident ≡ own → released_by own key e ≡ Some text
    → work w seat phase a ≡ release_of w seat phase ident (Some text)
release_is w seat phase ident own key text works e a joined edits same from = rw (joined, edits, same) (release_as w seat (Joined own works) own key text e from)

pub put_is : (w : World) (seat : ℕ) (phase : Phase) (own key : Bytes) (works : List Work) (pairs : List Pair) (pair : Pair) (e : WriteOp) (a : Action) → phase ≡ Joined own works → a ≡ action.WriteOp key e → e ≡ edit.Zadd pairs → only pairs ≡ Some pair
    → work w seat phase a ≡ retry w seat phase (Some pair)
put_is w seat phase own key works pairs pair e a joined edits adds one = rw (joined, edits, adds) (ap (retry w seat (Joined own works)) one)
