-- The changes of the workers' commands are good.
use Rattle.std.proofs.Common.{◌≡◌, ℕ, List, [], ◌∷◌, refl, sym, ap, subst, ◌∙◌, arith, Bool, true, false, cond, ◌&&◌, length}
use Rattle.std.specs.Prelude.{pos, nat_lt, Option, Some, None}
use Rattle.std.specs.List.{list_any}
use Rattle.std.specs.Option.{is_some}
use Rattle.std.proofs.lemmas.Bool.Decides.{nat_tests}
use Rattle.sk_resp.specs.Spelling.{Bytes}
use Rattle.sk_cmd.specs.declared.argument.Side.TheVariants.{Left, Right}
use Rattle.sk_cmd.specs.declared.argument.Scored.{Scored}
use Rattle.sk_cmd.specs.declared.argument.Scored.TheVariants.{Retry, Dead}
use Rattle.sk_payload.specs.Follows.{follows}
use Rattle.sk_payload.specs.Head.{head, names}
use Rattle.sk_payload.specs.Member.{is_name}
use Rattle.sk_payload.specs.declared.head.Head.{Head}
use Rattle.sk_zset.specs.Pair.{Pair}
use Rattle.sk_value.specs.declared.action.Action.{Action}
use Rattle.sk_value.specs.declared.action.Action.TheVariants as action
use Rattle.sk_value.specs.declared.write_op.WriteOp.{WriteOp}
use Rattle.sk_value.specs.declared.write_op.WriteOp.TheVariants as edit
use Rattle.sk_places.specs.declared.row.Place.TheVariants.{Queue, Private, Set}
use Rattle.sk_places.specs.declared.row.Row.{Row}
use Rattle.sk_places.specs.Rows.{row_in, row_of, rows_at, row_at_end, take_row}
use Rattle.sk_seats.specs.declared.work.End.TheVariants.{Returned, Discarded}
use Rattle.sk_seats.specs.declared.phase.Phase.{Phase}
use Rattle.sk_seats.specs.declared.phase.Phase.TheVariants.{Plain, Joined}
use Rattle.sk_seats.specs.declared.work.End.{End}
use Rattle.sk_seats.specs.declared.work.Stage.{Stage}
use Rattle.sk_seats.specs.declared.work.Stage.TheVariants.{Held, Put, Settled}
use Rattle.sk_seats.specs.declared.work.Work.{Work}
use Rattle.sk_seats.specs.Phases.{phase_in, holding, releasing, staging, works_of}
use Rattle.sk_seats.specs.Works.{held, first, is_buried_as, is_done_as, is_held_as, is_retried_as, may_bury, most_works}
use Rattle.sk_model.specs.World.{World, phase_of}
use Rattle.sk_leases.specs.Leased.{is_alive}
use Rattle.sk_model.specs.Change.{Change, Counts, Carry, Free, Moves, Turns, carried, changed, freed, freed_at, freed_work, perform}
use Rattle.sk_model.specs.Notify.{and_notify}
use Rattle.sk_model.specs.Once.{buries, is_burial, is_of_batch}
use Rattle.sk_batch.specs.declared.event.Event.{Event}
use Rattle.sk_batch.specs.declared.event.Event.TheVariants as event
use Rattle.sk_batch.specs.declared.event.Event.TheVariants.{Died}
use Rattle.sk_counters.specs.Counters.{processed, failed}
use Rattle.sk_model.specs.Life.{IsOutranked, is_newer, outranks}
use Rattle.sk_model.specs.Outcome.{Outcome}
use Rattle.sk_model.specs.Seats.{fetched_from, only, released_by, where_plain, where_some}
use Rattle.sk_model.specs.Sets.{put_as, put_back}
use Rattle.sk_model.specs.Jobs.{moment_score}
use Rattle.sk_model.specs.Workers.{beat, join, fetch, fetch_row, listed, release, release_of, give, give_row, back, start, fail, ok, drop, retry, bury, work, work_as, work_edit}
use Rattle.sk_model.specs.Unique.{unlocks}
use Rattle.sk_payload.specs.declared.head.Until.TheVariants as until
use Rattle.sk_model.proofs.Commands.Unique.{unlocks_good}
use Rattle.sk_model.proofs.Tools.Texts.{bytes_tell}
use Rattle.sk_model.proofs.Changes.Rows.{some-put_row}
use Rattle.sk_model.proofs.Tools.RowsTaken.{end_there}
use Rattle.sk_model.proofs.Commands.Sets.{choice, row_there, row_text, text_is, buried_good}
use Rattle.sk_model.proofs.Changes.Fired.{all_quiet}
use Rattle.sk_model.proofs.Changes.Kept.{Ready}
use Rattle.sk_model.proofs.Tools.Works.{all_appended, all_staged, all_without}
use Rattle.sk_model.proofs.Changes.Jobs.{KeepsJobs, keeps_others, keeps_put, keeps_carry, keeps_turn}
use Rattle.sk_model.proofs.Changes.Notify.{notify_told}
use Rattle.sk_model.proofs.Changes.Order.{no_fires}
use Rattle.sk_model.proofs.Changes.Lawful.{Good, Told, told_append, told_behind, told_of, good_nothing, good_quiet, then_others, good_carry, good_free, good_turn, good_beats, good_counts}

-- ## In each phase

pub where_plain_good : (w : World) (phase : Phase) (o : Outcome) → Good w o.changes → Good w (where_plain phase o).changes
where_plain_good w Plain o good = good
where_plain_good w (Joined ident works) o good = good_nothing w

told_choice : (w : World) (b : Bool) (one other : Outcome) → (b ≡ true → Told w one.changes) → (b ≡ false → Told w other.changes) → Told w (cond b one other).changes
told_choice w true one other f g = f refl
told_choice w false one other f g = g refl

where_some_good : (w : World) (phase : Phase) (test : Work → Bool) (o : Bytes → Outcome) → ((ident : Bytes) → Good w (o ident).changes) → Good w (where_some phase test o).changes
where_some_good w Plain test o good = good_nothing w
where_some_good w (Joined ident works) test o good = choice w (list_any test works) _ _ (λ y. good ident) (λ n. good_nothing w)

where_some_told : (w : World) (phase : Phase) (test : Work → Bool) (o : Bytes → Outcome) → ((ident : Bytes) → Told w (o ident).changes) → Told w (where_some phase test o).changes
where_some_told w Plain test o told = told_of w [] (good_nothing w)
where_some_told w (Joined ident works) test o told = told_choice w (list_any test works) _ _ (λ y. told ident) (λ n. told_of w [] (good_nothing w))

-- ## Other works in a seat's hands

turn_good : (w : World) (seat : ℕ) (before phase : Phase) → phase_of w seat ≡ before → Ready w before phase → Good w (Turns seat phase ∷ [])
turn_good w seat before phase is ready = good_turn w seat phase (subst (λ (p : Phase). Ready w p phase) (sym is) ready)

-- a job that was just fetched
held_ready : (w : World) (payload : Bytes) (phase : Phase) → Ready w phase (holding payload phase)
held_ready w payload Plain jid all = tt
held_ready w payload (Joined ident works) jid all = all_appended (IsOutranked w jid) works (held payload) all (λ put. absurd (cc put))

-- one that the worker is done with
settled_ready : (w : World) (test : Work → Bool) (end : End) (phase : Phase) → Ready w phase (staging test (Settled end) phase)
settled_ready w test end Plain jid all = tt
settled_ready w test end (Joined ident works) jid all = all_staged (IsOutranked w jid) test (Settled end) works (λ work passes put. absurd (cc put)) all

-- one that was put back, where a newer row of its job stands
put_ready : (w : World) (test : Work → Bool) (phase : Phase) → ((work : Work) (jid : Bytes) → test work ≡ true → names work.payload jid ≡ true → outranks w work.payload jid ≡ true) → Ready w phase (staging test Put phase)
put_ready w test Plain newer jid all = tt
put_ready w test (Joined ident works) newer jid all = all_staged (IsOutranked w jid) test Put works (λ work passes put. newer work jid passes) all

-- one that the seat lets go
released_ready : (w : World) (test : Work → Bool) (phase : Phase) → Ready w phase (releasing test phase)
released_ready w test Plain jid all = tt
released_ready w test (Joined ident works) jid all = all_without (IsOutranked w jid) test works all

-- ## The process

pub beat_good : (w : World) (ident : Bytes) → Good w (beat ident).changes
beat_good w ident = choice w (is_name 255 ident) _ _ (λ y. good_beats w ident) (λ n. good_nothing w)

pub join_good : (w : World) (seat : ℕ) (ident : Bytes) → Good w (join w seat ident).changes
join_good w seat ident = choice w (is_name 255 ident && is_alive ident w.moment w.leases) _ _ (λ y. good_turn w seat (Joined ident []) (λ jid all. tt)) (λ n. good_nothing w)

-- ## A job comes, and goes

fetch_row_good : (w : World) (seat : ℕ) (phase : Phase) (ident queue : Bytes) (found : Option Row) → phase_of w seat ≡ phase → row_at_end Right (Queue queue) w.rows ≡ found → Good w (fetch_row seat phase ident found).changes
fetch_row_good w seat phase ident queue None is e = good_nothing w
fetch_row_good w seat phase ident queue (Some row) is e =
    let v : World = changed w (Moves (Carry row Right (Private ident) (pos 0) Left)) in
    then_others w (Moves (Carry row Right (Private ident) (pos 0) Left)) _
    (good_carry w row Right (Private ident) (pos 0) Left (end_there Right (Queue queue) w.rows row e) refl) (turn_good v seat phase (holding row.text phase) is (held_ready v row.text phase))

fetch_good : (w : World) (seat : ℕ) (phase : Phase) (ident : Bytes) (found : Option Bytes) → phase_of w seat ≡ phase → Good w (fetch w seat phase ident found).changes
fetch_good w seat phase ident None is = good_nothing w
fetch_good w seat phase ident (Some queue) is = choice w (nat_lt (length (works_of phase)) most_works) _ _ (λ y. fetch_row_good w seat phase ident queue _ is refl) (λ n. good_nothing w)

-- a release turns no seat by itself
freed_at_phases : (ident text : Bytes) (w : World) (stage : Stage) → (freed_at stage ident text w).phases ≡ w.phases
freed_at_phases ident text w Held = refl
freed_at_phases ident text w Put = refl
freed_at_phases ident text w (Settled end) = refl

freed_work_phases : (ident : Bytes) (w : World) (found : Option Work) → (freed_work ident w found).phases ≡ w.phases
freed_work_phases ident w None = refl
freed_work_phases ident w (Some work) = freed_at_phases ident work.payload w work.stage

freed_phases : (text : Bytes) (w : World) (phase : Phase) → (freed text w phase).phases ≡ w.phases
freed_phases text w Plain = refl
freed_phases text w (Joined ident works) = freed_work_phases ident w (first (is_done_as text) works)

release_good : (w : World) (seat : ℕ) (phase : Phase) (ident text : Bytes) → phase_of w seat ≡ phase → Good w (release w seat phase ident text).changes
release_good w seat phase ident text is =
    let v : World = changed w (Moves (Free seat text)) in
    let stays : phase_of v seat ≡ phase = ap (λ ps. phase_in ps seat) (freed_phases text w (phase_of w seat)) ∙ is in
    then_others w (Moves (Free seat text)) _ (good_free w seat text) (turn_good v seat phase (releasing (is_done_as text) phase) stays (released_ready v (is_done_as text) phase))

release_of_good : (w : World) (seat : ℕ) (phase : Phase) (ident : Bytes) (found : Option Bytes) → phase_of w seat ≡ phase → Good w (release_of w seat phase ident found).changes
release_of_good w seat phase ident None is = good_nothing w
release_of_good w seat phase ident (Some text) is = choice w (list_any (is_done_as text) (works_of phase)) _ _ (λ y. release_good w seat phase ident text is) (λ n. good_nothing w)

give_row_good : (w : World) (seat : ℕ) (phase : Phase) (ident text : Bytes) (h : Head) (found : Option Row) → phase_of w seat ≡ phase → listed w ident text ≡ found → Good w (give_row seat (releasing (is_held_as text) phase) h found).changes
give_row_good w seat phase ident text h None is e = turn_good w seat phase _ is (released_ready w (is_held_as text) phase)
give_row_good w seat phase ident text h (Some row) is e =
    let v : World = changed w (Moves (Carry row Left (Queue h.queue) (pos 0) Right)) in
    then_others w (Moves (Carry row Left (Queue h.queue) (pos 0) Right)) _
    (good_carry w row Left (Queue h.queue) (pos 0) Right (row_there text row (Private ident) w.rows e) refl) (turn_good v seat phase _ is (released_ready v (is_held_as text) phase))

give_good : (w : World) (seat : ℕ) (phase : Phase) (ident text : Bytes) (found : Option Head) → phase_of w seat ≡ phase → Good w (give w seat phase ident text found).changes
give_good w seat phase ident text None is = good_nothing w
give_good w seat phase ident text (Some h) is = give_row_good w seat phase ident text h _ is refl

pub back_good : (w : World) (seat : ℕ) (phase : Phase) (text : Bytes) → phase_of w seat ≡ phase → Good w (back w seat phase text).changes
back_good w seat phase text is = where_some_good w phase (is_held_as text) _ (λ ident. give_good w seat phase ident text (head text) is)

-- ## A job runs

pub start_good : (w : World) (phase : Phase) (text : Bytes) → Good w (start phase text).changes
start_good w phase text = where_some_good w phase (is_held_as text) _ (λ ident. unlocks_good w until.Start text)

-- what the batch is told comes after other changes
and_notify_told : (event : Event) (w : World) (text : Bytes) (changes : List Change) → (event ≡ Died → ⊥) → no_fires changes ≡ true → Good w changes → Told w (and_notify event w text changes).changes
and_notify_told event w text changes alive none one = told_behind w changes _ none one (notify_told event alive (perform w changes) text)

pub fail_told : (w : World) (phase : Phase) (text : Bytes) → Told w (fail w phase text).changes
fail_told w phase text = where_some_told w phase (is_held_as text) _
    (λ ident. and_notify_told event.Reported w text _ (λ e. cc e) refl (then_others w (Counts processed) _ (good_counts w processed) (good_counts _ failed)))

pub ok_told : (w : World) (seat : ℕ) (phase : Phase) (text : Bytes) → phase_of w seat ≡ phase → Told w (ok w seat phase text).changes
ok_told w seat phase text is = where_some_told w phase (is_held_as text) _
    (λ ident. told_append w _ (unlocks until.Success text)
    (and_notify_told event.Returned w text _ (λ e. cc e) refl
    (then_others w (Turns seat (staging (is_held_as text) (Settled Returned) phase)) _ (turn_good w seat phase _ is (settled_ready w (is_held_as text) Returned phase)) (good_counts _ processed)))
    (unlocks_good _ until.Success text))

pub drop_good : (w : World) (seat : ℕ) (phase : Phase) (text : Bytes) → phase_of w seat ≡ phase → Good w (drop seat phase text).changes
drop_good w seat phase text is = where_some_good w phase (is_held_as text) _ (λ ident. turn_good w seat phase _ is (settled_ready w (is_held_as text) Discarded phase))

-- ## A job has failed

-- what follows a payload is a newer text of its job
follows_newer : (held text jid : Bytes) → follows held text ≡ true → names held jid ≡ true → is_newer held jid text ≡ true
unfolding follows
follows_newer held text jid f named = grind (arith, f, named, nat_tests, bytes_tell)

-- the text that is put back stands
newer_stands : (w : World) (set : Scored) (pair : Pair) (found : Option Row) (held jid : Bytes) → row_of pair.1 (rows_at (Set set) w.rows) ≡ found → is_newer held jid pair.1 ≡ true → outranks (changed w (put_as set pair found)) held jid ≡ true
newer_stands w set pair None held jid e newer = some-put_row (is_newer held jid) Left (row_in set pair) w.rows ∙ grind (arith, newer)
newer_stands w set pair (Some row) held jid e newer =
    let same : pair.1 ≡ row.text = text_is pair.1 row.text (row_text pair.1 row (rows_at (Set set) w.rows) e) in
    let of_row : is_newer held jid row.text ≡ true = ap (is_newer held jid) (sym same) ∙ newer in
    some-put_row (is_newer held jid) Left (carried row (Set set) pair.0) (take_row Left row w.rows) ∙ grind (arith, of_row)

put_as_keeps : (w : World) (set : Scored) (pair : Pair) (found : Option Row) → row_of pair.1 (rows_at (Set set) w.rows) ≡ found → KeepsJobs w (put_as set pair found ∷ [])
put_as_keeps w set pair None e = keeps_put w (row_in set pair)
put_as_keeps w set pair (Some row) e = keeps_carry w row Left (Set set) pair.0 Left (row_there pair.1 row (Set set) w.rows e)

pub put_quiet : (set : Scored) (pair : Pair) (found : Option Row) (seat : ℕ) (phase : Phase) → all_quiet (put_as set pair found ∷ Turns seat phase ∷ []) ≡ true
put_quiet set pair None seat phase = refl
put_quiet set pair (Some row) seat phase = refl

pub put_burial : (pair : Pair) (found : Option Row) (seat : ℕ) (phase : Phase) → list_any is_burial (put_as Dead pair found ∷ Turns seat phase ∷ []) ≡ true
put_burial pair None seat phase = refl
put_burial pair (Some row) seat phase = refl

-- a text that goes to the set of retries isn't buried
put_alive : (w : World) (pair : Pair) (found : Option Row) (seat : ℕ) (phase : Phase) (b : Bytes) → buries b w (put_as Retry pair found ∷ Turns seat phase ∷ []) ≡ false
put_alive w pair None seat phase b = refl
put_alive w pair (Some row) seat phase b = refl

-- one that goes to the dead set is
put_dead : (w : World) (pair : Pair) (found : Option Row) (seat : ℕ) (phase : Phase) (b : Bytes) → row_of pair.1 (rows_at (Set Dead) w.rows) ≡ found → buries b w (put_as Dead pair found ∷ Turns seat phase ∷ []) ≡ is_of_batch b w.batches (head pair.1)
put_dead w pair None seat phase b e = grind arith
put_dead w pair (Some row) seat phase b e =
    let same : pair.1 ≡ row.text = text_is pair.1 row.text (row_text pair.1 row (rows_at (Set Dead) w.rows) e) in
    let of_text = ap (λ text. is_of_batch b w.batches (head text)) same in
    grind (arith, of_text)

headless : (held jid : Bytes) → is_some (head held) ≡ false → names held jid ≡ false
headless held jid none = grind (arith, none)

may_newer : (held text jid : Bytes) → may_bury held text ≡ true → names held jid ≡ true → is_newer held jid text ≡ true
may_newer held text jid may named = let f = follows_newer held text jid in let h = headless held jid in grind (arith, may, named, f, h)

put_phases : (w : World) (set : Scored) (pair : Pair) (found : Option Row) → (changed w (put_as set pair found)).phases ≡ w.phases
put_phases w set pair None = refl
put_phases w set pair (Some row) = refl

-- a text is put back that is newer than each payload for which it may be
put_keeps : (w : World) (seat : ℕ) (phase : Phase) (test : Work → Bool) (set : Scored) (pair : Pair) → phase_of w seat ≡ phase → ((work : Work) (jid : Bytes) → test work ≡ true → names work.payload jid ≡ true → is_newer work.payload jid pair.1 ≡ true)
    → KeepsJobs w (put_back w set pair ∷ Turns seat (staging test Put phase) ∷ [])
put_keeps w seat phase test set pair is newer =
    let v : World = changed w (put_back w set pair) in
    let stays : phase_of v seat ≡ phase = ap (λ ps. phase_in ps seat) (put_phases w set pair (row_of pair.1 (rows_at (Set set) w.rows))) ∙ is in
    let ready : Ready v phase (staging test Put phase) = put_ready v test phase (λ work jid passes named. newer_stands w set pair _ work.payload jid refl (newer work jid passes named)) in
    keeps_others w (put_back w set pair) (Turns seat (staging test Put phase) ∷ []) (put_as_keeps w set pair _ refl) (keeps_turn v seat (staging test Put phase) (subst (λ (p : Phase). Ready v p (staging test Put phase)) (sym stays) ready))

retried_follows : (text : Bytes) (work : Work) → is_retried_as text work ≡ true → follows work.payload text ≡ true
retried_follows text work passes = grind (arith, passes)

retry_good : (w : World) (seat : ℕ) (phase : Phase) (found : Option Pair) → phase_of w seat ≡ phase → Good w (retry w seat phase found).changes
retry_good w seat phase None is = good_nothing w
retry_good w seat phase (Some pair) is =
    let test : Work → Bool = is_retried_as pair.1 in
    choice w (list_any test (works_of phase)) _ _
    (λ y. good_quiet w _ (put_keeps w seat phase test Retry pair is (λ work jid passes named. follows_newer work.payload pair.1 jid (retried_follows pair.1 work passes) named))
    (put_quiet Retry pair _ seat (staging test Put phase)) (put_alive w pair _ seat (staging test Put phase)))
    (λ n. good_nothing w)

buried_may : (text : Bytes) (work : Work) → is_buried_as text work ≡ true → may_bury work.payload text ≡ true
buried_may text work passes = grind (arith, passes)

pub bury_good : (w : World) (seat : ℕ) (phase : Phase) (text : Bytes) → phase_of w seat ≡ phase → Good w (bury w seat phase text).changes
bury_good w seat phase text is =
    let test : Work → Bool = is_buried_as text in
    let pair : Pair = (moment_score w, text) in
    where_some_good w phase test _ (λ ident. buried_good w text _ (record {
      keeps = put_keeps w seat phase test Dead pair is (λ work jid passes named. may_newer work.payload text jid (buried_may text work passes) named);
      quiet = put_quiet Dead pair _ seat (staging test Put phase);
      burial = put_burial pair _ seat (staging test Put phase);
      member = λ b. put_dead w pair _ seat (staging test Put phase) b refl;
    }))

-- ## The table

module _ (w : World) (seat : ℕ) (phase : Phase) (ident : Bytes) (is : phase_of w seat ≡ phase) where
  work_edit_good : (key : Bytes) (e : WriteOp) → Good w (work_edit w seat phase ident key e).changes
  work_edit_good key (edit.Zadd pairs) = retry_good w seat phase (only pairs) is
  work_edit_good key (edit.Lrem count text) = release_of_good w seat phase ident (released_by ident key (edit.Lrem count text)) is
  work_edit_good key (edit.Push side texts) = good_nothing w
  work_edit_good key (edit.Incrby n) = good_nothing w
  work_edit_good key (edit.Sadd members) = good_nothing w
  work_edit_good key (edit.Srem members) = good_nothing w
  work_edit_good key (edit.Hset pairs) = good_nothing w
  work_edit_good key (edit.Hdel fields) = good_nothing w
  work_edit_good key (edit.Zrem members) = good_nothing w
  work_edit_good key (edit.Zremrangebyrank first last) = good_nothing w
  work_edit_good key (edit.Zremrangebyscore least greatest) = good_nothing w

  work_as_good : (a : Action) → Good w (work_as w seat phase ident a).changes
  work_as_good (action.WriteOp key e) = work_edit_good key e
  work_as_good (action.Move source destination from to) = fetch_good w seat phase ident (fetched_from ident (action.Move source destination from to)) is
  work_as_good action.Ping = good_nothing w
  work_as_good (action.Echo text) = good_nothing w
  work_as_good action.Quit = good_nothing w
  work_as_good (action.ReadOp key look) = good_nothing w
  work_as_good (action.Set key text options) = good_nothing w
  work_as_good (action.Expire key millis) = good_nothing w
  work_as_good (action.Give key text) = good_nothing w
  work_as_good (action.Exists keys) = good_nothing w
  work_as_good (action.Delete keys) = good_nothing w
  work_as_good action.Flush = good_nothing w

pub work_good : (w : World) (seat : ℕ) (phase : Phase) (a : Action) → phase_of w seat ≡ phase → Good w (work w seat phase a).changes
work_good w seat Plain a is = good_nothing w
work_good w seat (Joined ident works) a is = work_as_good w seat (Joined ident works) ident is a
