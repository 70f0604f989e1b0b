-- What the events of a call are, by its cursor.
use Rattle.std.proofs.Common.{◌≡◌, ◌∙◌, ◌<◌, ◌≤◌, ◌+◌, ◌^◌, ℕ, zero, suc, Bool, true, false, cond, not, List, [], ◌∷◌, ◌++◌, map, length, filter, refl, sym, ap, subst, Option, Some, None, Result, Ok, Err, arith, length-append}
use Rattle.std.proofs.lemmas.Fmt.{decimal_injective}
use Rattle.std.proofs.lemmas.List.Elements.{filter-append}
use Rattle.sk_resp.specs.Spelling.{Bytes}
use Rattle.sk_resp.specs.declared.reply.Reply.{Reply}
use Rattle.sk_resp.specs.declared.reply.Reply.TheVariants as reply
use Rattle.sk_link.specs.Asking.{is_popped}
use Rattle.sk_link.specs.Call.{answered, lost}
use Rattle.sk_link.specs.declared.link.LinkFault.{LinkFault}
use Rattle.sk_worker.specs.Run.{is_returned}
use Rattle.sk_iter.specs.Calls.{HasRead, IsCallOn, IsTold, IterCall, Reads}
use Rattle.sk_iter.specs.Cursor.{IsCursor}
use Rattle.sk_iter.specs.Deeds.{Deed, Pace, deed_of, is_saved, raised_at, returned, returned_one, runs, save_if, saves, sends, whole}
use Rattle.sk_iter.specs.Ends.{StopsAt}
use Rattle.sk_iter.specs.Event.{Event, ItemRun, asked, ran}
use Rattle.sk_iter.specs.Event.{runs as runs_of}
use Rattle.sk_iter.specs.Laws.{returned_count}
use Rattle.sk_iter.specs.Performs.{EndsAtSave, EndsIn, Front}
use Rattle.sk_iter.specs.Request.{get_words, set_words}
use Rattle.sk_iter.specs.Transcript.{IsCall, IsEnd, IsUnread, Transcript, read, unread}
use Rattle.sk_iter.specs.declared.call.Bounds.{Bounds}
use Rattle.sk_iter.specs.declared.iter_end.IterEnd.{IterEnd}
use Rattle.sk_iter.specs.declared.iter_end.IterEnd.TheVariants.{Done, Paused, Raised}
use Rattle.sk_iter.specs.declared.iter_end.IterFault.{IterFault}
use Rattle.sk_iter.specs.declared.iter_end.IterFault.TheVariants as fault
use Rattle.sk_iter.proofs.Along.{Along, along_cut, ends_along}
use Rattle.sk_iter.proofs.Performing.{runs-append}

-- ## How many items return

abbrev deed_count : List Deed → ℕ
deed_count [] = 0
deed_count (sends words ∷ ds) = deed_count ds
deed_count (runs item ∷ ds) = cond (is_returned item.outcome) (deed_count ds + 1) (deed_count ds)

count_both : (b : Bool) (m n k : ℕ) → m ≡ n + k → cond b (m + 1) m ≡ cond b (n + 1) n + k
count_both true m n k e = omega arith
count_both false m n k e = e

deed_count-append : (xs ys : List Deed) → deed_count (xs ++ ys) ≡ deed_count xs + deed_count ys
deed_count-append [] ys = omega arith
deed_count-append (sends words ∷ xs) ys = deed_count-append xs ys
deed_count-append (runs item ∷ xs) ys = count_both (is_returned item.outcome) (deed_count (xs ++ ys)) (deed_count xs) (deed_count ys) (deed_count-append xs ys)

saves_none : (b : Bool) (jid : Bytes) (next : ℕ) → deed_count (save_if b jid next) ≡ 0
saves_none true jid next = refl
saves_none false jid next = refl

raised_none : (p : Pace) (n : ℕ) (end : IterEnd) → deed_count (raised_at p n end) ≡ 0
raised_none p n Done = refl
raised_none p n (Paused next) = refl
raised_none p n (Raised index it) = refl

returned_all : (p : Pace) (n : ℕ) → deed_count (returned p n) ≡ n
unfolding returned
returned_all p zero = refl
returned_all p (suc n) =
    let one : deed_count (returned_one p n) ≡ 0 + 1 = ap (λ k. k + 1) (saves_none (is_saved p.every (n + 1)) p.jid (p.cursor + (n + 1))) in
    omega (arith, deed_count-append (returned p n) (returned_one p n), returned_all p n, one)

whole_count : (p : Pace) (n : ℕ) (end : IterEnd) → deed_count (whole p n end) ≡ n
whole_count p n end =
    omega (
      arith,
      deed_count-append (returned p n ++ raised_at p n end) (save_if (not (is_saved p.every n)) p.jid (p.cursor + n)),
      deed_count-append (returned p n) (raised_at p n end),
      returned_all p n,
      raised_none p n end,
      saves_none (not (is_saved p.every n)) p.jid (p.cursor + n),
    )

count_one : (b : Bool) (item : ItemRun) (items : List ItemRun) (n : ℕ) → length items ≡ n → length (cond b (item ∷ items) items) ≡ cond b (n + 1) n
count_one true item items n e = omega (arith, e)
count_one false item items n e = e

events_count : (es : List Event) → returned_count (runs_of es) ≡ deed_count (map deed_of es)
events_count [] = refl
events_count (asked call ∷ es) = events_count es
events_count (ran item ∷ es) = count_one (is_returned item.outcome) item (filter (λ i. is_returned i.outcome) (runs_of es)) (deed_count (map deed_of es)) (events_count es)

front_count : (es : List Event) (left deeds : List Deed) → Front es left deeds → returned_count (runs_of es) + deed_count left ≡ deed_count deeds
front_count es left deeds f = omega (arith, events_count es, deed_count-append (map deed_of es) left, ap deed_count f.are)

pub count-append : (xs ys : List ItemRun) → returned_count (xs ++ ys) ≡ returned_count xs + returned_count ys
count-append xs ys =
    ap (λ items. length items) (filter-append (λ (i : ItemRun). is_returned i.outcome) xs ys)
    ∙ length-append (filter (λ (i : ItemRun). is_returned i.outcome) xs) (filter (λ (i : ItemRun). is_returned i.outcome) ys)

events_append : (es more : List Event) → returned_count (runs_of (es ++ more)) ≡ returned_count (runs_of es) + returned_count (runs_of more)
events_append es more = ap returned_count (runs-append es more) ∙ count-append (runs_of es) (runs_of more)

save_count : (jid : Bytes) (deeds : List Deed) (es : List Event) (reply : Result Reply LinkFault) → EndsAtSave jid deeds es reply → returned_count (runs_of es) ≤ deed_count deeds
save_count jid deeds es reply s =
    omega (
      arith,
      ap (λ xs. returned_count (runs_of xs)) s.are,
      events_append s.done (asked (record { request = set_words jid s.next; reply = reply }) ∷ []),
      front_count s.done (saves jid s.next ∷ s.left) deeds s.front,
    )

ends_count : {T : Type 0} (jid : Bytes) (deeds : List Deed) (es : List Event) (result : Result T IterFault) → EndsIn jid deeds es result → returned_count (runs_of es) ≤ deed_count deeds
ends_count jid deeds es (Ok x) h = omega (arith, front_count es [] deeds h)
ends_count jid deeds es (Err (fault.Cursor r)) h = absurd h
ends_count jid deeds es (Err (fault.Link f)) h = save_count jid deeds es (Err f) h
ends_count jid deeds es (Err (fault.Refused r)) h = save_count jid deeds es (Ok r) h.0
ends_count jid deeds es (Err fault.Memory) h = omega (arith, front_count es h.0 deeds h.1)

-- a call never passes the length
stops_within : (b : Bounds) (cursor n : ℕ) (end : IterEnd) → StopsAt b cursor n end → cursor + n ≤ b.len
stops_within b cursor n Done s = omega (arith, s.0)
stops_within b cursor n (Paused next) s = omega (arith, s.0, s.1)
stops_within b cursor n (Raised index it) s = omega (arith, s.0, s.1)

-- ## Cursors

one_cursor : (len m n : ℕ) (r : Reply) → len < 2 ^ 62 → IsCursor len r m → IsCursor len r n → m ≡ n
one_cursor len m n reply.Null few a b = a ∙ sym b
one_cursor len m n (reply.Bulk text) few a b = decimal_injective m n (omega (arith, a.0, few)) (omega (arith, b.0, few)) (sym a.1 ∙ b.1)
one_cursor len m n (reply.Say s) few a b = absurd a
one_cursor len m n (reply.Simple text) few a b = absurd a
one_cursor len m n (reply.Error text) few a b = absurd a
one_cursor len m n (reply.Int z) few a b = absurd a
one_cursor len m n (reply.Array texts) few a b = absurd a
one_cursor len m n reply.NullArray few a b = absurd a

-- ## A call that has read its cursor

abbrev pub pace_at : Bytes → Bounds → ℕ → Pace
pace_at jid b cursor = record { jid = jid; every = b.every; cursor = cursor }

pub record HasGone (jid : Bytes) (b : Bounds) (events : List Event) (result : Option (Result IterEnd IterFault)) (cursor : ℕ) : Type 0 where
  pub reply : Reply
  pub behind : List Event
  pub are : events ≡ asked (answered (get_words jid) reply) ∷ behind
  pub is_cursor : IsCursor b.len reply cursor
  pub along : Along (pace_at jid b cursor) 0 0 behind
  pub within : cursor + returned_count (runs_of behind) ≤ b.len
  pub done : result ≡ Some (Ok Done) → cursor + returned_count (runs_of behind) ≡ b.len

first_reply : List Event → Option (Result Reply LinkFault)
first_reply [] = None
first_reply (asked call ∷ es) = Some call.reply
first_reply (ran item ∷ es) = None

rest_of : List Event → List Event
rest_of [] = []
rest_of (e ∷ es) = es

same_reply : (jid : Bytes) (r s : Reply) (xs ys : List Event) → asked (answered (get_words jid) r) ∷ xs ≡ asked (answered (get_words jid) s) ∷ ys → r ≡ s
unfolding first_reply
same_reply jid r s xs ys e = let f : Some (Ok r) ≡ Some (Ok s) = ap first_reply e in cc f

same_rest : (e f : Event) (xs ys : List Event) → e ∷ xs ≡ f ∷ ys → xs ≡ ys
unfolding rest_of
same_rest e f xs ys is = ap rest_of is

cursor_popped : (len n : ℕ) (r : Reply) → IsCursor len r n → is_popped r ≡ true
cursor_popped len n reply.Null is = refl
cursor_popped len n (reply.Bulk text) is = refl
cursor_popped len n (reply.Say s) is = absurd is
cursor_popped len n (reply.Simple text) is = absurd is
cursor_popped len n (reply.Error text) is = absurd is
cursor_popped len n (reply.Int z) is = absurd is
cursor_popped len n (reply.Array texts) is = absurd is
cursor_popped len n reply.NullArray is = absurd is

-- a call with a result, by the cursor that its transcript tells
gone_by : (jid : Bytes) (b : Bounds) (events : List Event) (result : Result IterEnd IterFault) → 1 ≤ b.every → (c : IsCall jid b events result) → HasGone jid b events (Some result) c.cursor
gone_by jid b events result some c = record {
  reply = c.reply;
  behind = c.behind;
  are = c.are;
  is_cursor = c.is_cursor;
  along = ends_along p c.n c.end c.behind result some c.ends;
  within = omega (arith, ends_count jid (whole p c.n c.end) c.behind result c.ends, whole_count p c.n c.end, stops_within b c.cursor c.n c.end c.stops);
  done = λ e. when_done (cc e);
} where
  p : Pace
  p = pace_at jid b c.cursor

  when_done : result ≡ Ok Done → c.cursor + returned_count (runs_of c.behind) ≡ b.len
  when_done e =
      let end_is : Done ≡ c.end = subst (λ r. IsEnd r c.end) e c.ended in
      let stops : StopsAt b c.cursor c.n Done = subst (StopsAt b c.cursor c.n) (sym end_is) c.stops in
      let front : Front c.behind [] (whole p c.n c.end) = subst (λ r. EndsIn jid (whole p c.n c.end) c.behind r) e c.ends in
      omega (arith, front_count c.behind [] (whole p c.n c.end) front, whole_count p c.n c.end, stops.0)

lost_not : (jid : Bytes) (f : LinkFault) (s : Reply) (es : List Event) → asked (lost (get_words jid) f) ∷ [] ≡ asked (answered (get_words jid) s) ∷ es → ⊥
unfolding first_reply
lost_not jid f s es e = let g : Some (Err f) ≡ Some (Ok s) = ap first_reply e in cc g

unread_not : (jid : Bytes) (b : Bounds) (events : List Event) (result : Result IterEnd IterFault) (cursor : ℕ) → IsUnread jid b events result → Reads jid b events cursor → ⊥
unread_not jid b events (Ok end) cursor u r = u
unread_not jid b events (Err (fault.Cursor reply_)) cursor u r =
    u.2 cursor (subst (λ s. IsCursor b.len s cursor) (sym (same_reply jid reply_ r.reply [] r.behind (sym u.0 ∙ r.are))) r.is_cursor)
unread_not jid b events (Err (fault.Refused reply_)) cursor u r =
    let is : is_popped reply_ ≡ true = ap is_popped (same_reply jid reply_ r.reply [] r.behind (sym u.0 ∙ r.are)) ∙ cursor_popped b.len cursor r.reply r.is_cursor in
    cc (sym is ∙ u.1)
unread_not jid b events (Err (fault.Link f)) cursor u r = lost_not jid f r.reply r.behind (sym u ∙ r.are)
unread_not jid b events (Err fault.Memory) cursor u r = let e : [] ≡ asked (answered (get_words jid) r.reply) ∷ r.behind = sym u ∙ r.are in cc e

-- a call with a result that has read this cursor
gone : (jid : Bytes) (b : Bounds) (events : List Event) (result : Result IterEnd IterFault) (cursor : ℕ) → 1 ≤ b.every → b.len < 2 ^ 62 → Transcript jid b events result →
    Reads jid b events cursor → HasGone jid b events (Some result) cursor
gone jid b events result cursor some few (unread u) r = absurd (unread_not jid b events result cursor u r)
gone jid b events result cursor some few (read c) r =
    let same : c.reply ≡ r.reply = same_reply jid c.reply r.reply c.behind r.behind (sym c.are ∙ r.are) in
    let is : c.cursor ≡ cursor = one_cursor b.len c.cursor cursor r.reply few (subst (λ s. IsCursor b.len s c.cursor) same c.is_cursor) r.is_cursor in
    subst (HasGone jid b events (Some result)) is (gone_by jid b events result some c)

reads_longer : (jid : Bytes) (b : Bounds) (events more : List Event) (cursor : ℕ) → Reads jid b events cursor → Reads jid b (events ++ more) cursor
reads_longer jid b events more cursor r = record { reply = r.reply; behind = r.behind ++ more; are = ap (λ es. es ++ more) r.are; is_cursor = r.is_cursor }

-- and one that was cut off
gone_cut : (jid : Bytes) (b : Bounds) (events more : List Event) (result : Result IterEnd IterFault) (cursor : ℕ) → Reads jid b events cursor →
    HasGone jid b (events ++ more) (Some result) cursor → HasGone jid b events None cursor
gone_cut jid b events more result cursor r h =
    let same : r.behind ++ more ≡ h.behind = same_rest (asked (answered (get_words jid) r.reply)) (asked (answered (get_words jid) h.reply)) (r.behind ++ more) h.behind
    (sym (ap (λ es. es ++ more) r.are) ∙ h.are) in
    record {
      reply = r.reply;
      behind = r.behind;
      are = r.are;
      is_cursor = r.is_cursor;
      along = along_cut (pace_at jid b cursor) 0 0 r.behind more (subst (Along (pace_at jid b cursor) 0 0) (sym same) h.along);
      within = omega (arith, h.within, ap (λ es. returned_count (runs_of es)) same, events_append r.behind more);
      done = λ e. absurd (cc e);
    }

pub read_call : (jid : Bytes) (call : IterCall) (cursor : ℕ) → IsCallOn jid call → call.cursor ≡ Some cursor → HasGone jid call.bounds call.events call.result cursor
read_call jid call cursor c is = by_result call.result c.told where
  reads : Reads jid call.bounds call.events cursor
  reads = subst (HasRead jid call.bounds call.events) is c.read

  by_result : (result : Option (Result IterEnd IterFault)) → IsTold jid call.bounds call.events result → HasGone jid call.bounds call.events result cursor
  by_result (Some result) told = gone jid call.bounds call.events result cursor c.some c.len told reads
  by_result None told = gone_cut jid call.bounds call.events told.0 told.1 cursor reads
      (gone jid call.bounds (call.events ++ told.0) told.1 cursor c.some c.len told.2 (reads_longer jid call.bounds call.events told.0 cursor reads))

-- ## A call that has read none

-- At most its GET was sent.
pub data AtMostGet (jid : Bytes) (events : List Event) : Type 0 where
  none : events ≡ [] → AtMostGet jid events
  one : (came : Result Reply LinkFault) → events ≡ asked (record { request = get_words jid; reply = came }) ∷ [] → AtMostGet jid events

unread_events : (jid : Bytes) (b : Bounds) (events : List Event) (result : Result IterEnd IterFault) → IsUnread jid b events result → AtMostGet jid events
unread_events jid b events (Ok end) u = absurd u
unread_events jid b events (Err (fault.Cursor r)) u = one (Ok r) u.0
unread_events jid b events (Err (fault.Refused r)) u = one (Ok r) u.0
unread_events jid b events (Err (fault.Link f)) u = one (Err f) u
unread_events jid b events (Err fault.Memory) u = none u

cut_get : (jid : Bytes) (events more : List Event) → AtMostGet jid (events ++ more) → AtMostGet jid events
cut_get jid [] more h = none refl
cut_get jid (e ∷ es) more (none is) = absurd (cc is)
cut_get jid (e ∷ []) more (one came is) = one came (ap (λ x. x ∷ []) (first_same e (asked (record { request = get_words jid; reply = came })) more [] is)) where
  first_same : (a c : Event) (xs ys : List Event) → a ∷ xs ≡ c ∷ ys → a ≡ c
  first_same a c xs ys f = cc f
cut_get jid (e ∷ d ∷ es) more (one came is) =
    let f : d ∷ (es ++ more) ≡ [] = same_rest e (asked (record { request = get_words jid; reply = came })) (d ∷ (es ++ more)) [] is in absurd (cc f)

pub unread_call : (jid : Bytes) (call : IterCall) → IsCallOn jid call → call.cursor ≡ None → AtMostGet jid call.events
unread_call jid call c is = by_result call.result c.told where
  never : (cursor : ℕ) → Reads jid call.bounds call.events cursor → ⊥
  never = subst (HasRead jid call.bounds call.events) is c.read

  by_call : (events more : List Event) (result : Result IterEnd IterFault) → ((cursor : ℕ) → Reads jid call.bounds events cursor → ⊥) → IsCall jid call.bounds (events ++ more) result → AtMostGet jid events
  by_call [] more result not_so h = none refl
  by_call (e ∷ es) more result not_so h = absurd (not_so h.cursor (record { reply = h.reply; behind = es; are = ap (λ x. x ∷ es) (first_is e es more h.reply h.behind h.are); is_cursor = h.is_cursor })) where
    first_is : (a : Event) (xs ys : List Event) (r : Reply) (zs : List Event) → a ∷ (xs ++ ys) ≡ asked (answered (get_words jid) r) ∷ zs → a ≡ asked (answered (get_words jid) r)
    first_is a xs ys r zs f = cc f

  by_result : (result : Option (Result IterEnd IterFault)) → IsTold jid call.bounds call.events result → AtMostGet jid call.events
  by_result (Some result) (unread u) = unread_events jid call.bounds call.events result u
  by_result (Some result) (read h) = absurd (never h.cursor (record { reply = h.reply; behind = h.behind; are = h.are; is_cursor = h.is_cursor }))
  by_result None (more, result, unread u) = cut_get jid call.events more (unread_events jid call.bounds (call.events ++ more) result u)
  by_result None (more, result, read h) = by_call call.events more result never h

-- a call that is Done has read its cursor
pub done_reads : (jid : Bytes) (call : IterCall) → IsCallOn jid call → call.result ≡ Some (Ok Done) → call.cursor ≡ None → ⊥
done_reads jid call c done is = by_told (subst (IsTold jid call.bounds call.events) done c.told) where
  never : (cursor : ℕ) → Reads jid call.bounds call.events cursor → ⊥
  never = subst (HasRead jid call.bounds call.events) is c.read

  by_told : Transcript jid call.bounds call.events (Ok Done) → ⊥
  by_told (unread u) = u
  by_told (read h) = never h.cursor (record { reply = h.reply; behind = h.behind; are = h.are; is_cursor = h.is_cursor })
