-- A whole call, by its read and what came of the rest.
use Rattle.std.proofs.Common.{◌≡◌, ◌<◌, ◌^◌, ℕ, List, [], ◌∷◌, refl, sym, subst, Option, Result, Ok, Err, arith}
use Rattle.sk_base.proofs.OutsideLaws.{takes_nothing}
use Rattle.sk_resp.specs.Spelling.{Bytes}
use Rattle.sk_link.specs.Call.{answered, lost}
use Rattle.sk_link.specs.Call.{Call as LinkCall}
use Rattle.sk_iter.specs.Ends.{StopsAt}
use Rattle.sk_iter.specs.Event.{ItemRun, asked, calls}
use Rattle.sk_iter.specs.JobRun.{no_bound}
use Rattle.sk_iter.specs.Reads.{Reads}
use Rattle.sk_iter.specs.Request.{get_words}
use Rattle.sk_iter.specs.Stages.{Goes}
use Rattle.sk_iter.specs.Transcript.{Iterates, GoesOn, Transcript, end_in, read, unread}
use Rattle.sk_iter.specs.declared.call.Bounds.{Bounds}
use Rattle.sk_iter.specs.declared.call.Call.{Call}
use Rattle.sk_iter.specs.declared.iter_end.IterEnd.{IterEnd}
use Rattle.sk_iter.specs.declared.iter_end.IterEnd.TheVariants.{Paused}
use Rattle.sk_iter.specs.declared.iter_end.IterFault.{IterFault}
use Rattle.sk_iter.specs.declared.iter_end.IterFault.TheVariants as fault
use Rattle.sk_iter.specs.declared.iteration.Iteration.{Iteration}
use Rattle.sk_iter.proofs.Performing.{More}

-- The cursor was read, and the call went on from there.
pub read_and_went : (P Q R : List LinkCall → Type 0) (a b : Option (List ItemRun)) (c : Call) (result : Result IterEnd IterFault) → More P Q R →
    Reads P c.jid.now c.bounds.len (Ok c.cursor) → Goes Q a b c result → Iterates R a b c.jid.now c.bounds result
read_and_went P Q R a b c (Ok end) more (r, carried, is) (n, stops, (events, did, ends)) = (
  asked (answered (get_words c.jid.now) r) ∷ events,
  record { link = more (answered (get_words c.jid.now) r ∷ []) (calls events) carried did.link; items = did.items },
  read (record { reply = r; cursor = c.cursor; is_cursor = is; behind = events; are = refl; n = n; end = end; stops = stops; ended = refl; ends = ends }),
)
read_and_went P Q R a b c (Err f) more (r, carried, is) (n, end, stops, (events, did, ends)) = (
  asked (answered (get_words c.jid.now) r) ∷ events,
  record { link = more (answered (get_words c.jid.now) r ∷ []) (calls events) carried did.link; items = did.items },
  read (record { reply = r; cursor = c.cursor; is_cursor = is; behind = events; are = refl; n = n; end = end; stops = stops; ended = tt; ends = ends }),
)

-- the result with the cursor that was read
abbrev pub with_cursor : ℕ → Result IterEnd IterFault → Result Iteration IterFault
with_cursor cursor (Ok end) = Ok (record { cursor = cursor; end = end })
with_cursor cursor (Err f) = Err f

-- The same, with the cursor told.
pub read_and_went_from : (P Q R : List LinkCall → Type 0) (a b : Option (List ItemRun)) (c : Call) (result : Result IterEnd IterFault) → More P Q R →
    Reads P c.jid.now c.bounds.len (Ok c.cursor) → Goes Q a b c result → GoesOn R a b c.jid.now c.bounds (with_cursor c.cursor result)
read_and_went_from P Q R a b c (Ok end) more (r, carried, is) (n, stops, (events, did, ends)) = (
  asked (answered (get_words c.jid.now) r) ∷ events,
  record { link = more (answered (get_words c.jid.now) r ∷ []) (calls events) carried did.link; items = did.items },
  (record { reply = r; cursor = c.cursor; is_cursor = is; behind = events; are = refl; n = n; end = end; stops = stops; ended = refl; ends = ends }, refl),
)
read_and_went_from P Q R a b c (Err f) more reads went = read_and_went P Q R a b c (Err f) more reads went

-- It is a call all the same.
pub without_cursor : (R : List LinkCall → Type 0) (a b : Option (List ItemRun)) (jid : Bytes) (bounds : Bounds) (result : Result Iteration IterFault) →
    GoesOn R a b jid bounds result → Iterates R a b jid bounds (end_in result)
without_cursor R a b jid bounds (Ok i) (events, did, from) = (events, did, read from.0)
without_cursor R a b jid bounds (Err f) it = it

-- No cursor was read.
pub not_read : (P : List LinkCall → Type 0) (told : Option (List ItemRun)) (jid : Bytes) (b : Bounds) (f : IterFault) → Reads P jid b.len (Err f) → Iterates P told told jid b (Err f)
not_read P told jid b (fault.Cursor r) h =
    (asked (answered (get_words jid) r) ∷ [], record { link = h.0; items = takes_nothing told }, unread (refl, h.1, h.2))
not_read P told jid b (fault.Refused r) h =
    (asked (answered (get_words jid) r) ∷ [], record { link = h.0; items = takes_nothing told }, unread (refl, h.1))
not_read P told jid b (fault.Link f) h = (asked (lost (get_words jid) f) ∷ [], record { link = h; items = takes_nothing told }, unread refl)
not_read P told jid b fault.Memory h = ([], record { link = h; items = takes_nothing told }, unread refl)

-- A call without a bound never pauses.
pub never_pauses : (P : List LinkCall → Type 0) (a b : Option (List ItemRun)) (jid : Bytes) (len every next : ℕ) (found : Result IterEnd IterFault) → len < 2 ^ 62 →
    Iterates P a b jid (record { len = len; every = every; most = no_bound }) found → found ≡ Ok (Paused next) → ⊥
never_pauses P a b jid len every next found few it is =
    by_told (subst (Transcript jid bounds it.0) is it.2) where
      bounds : Bounds
      bounds = record { len = len; every = every; most = no_bound }

      by_stop : (cursor n : ℕ) → StopsAt bounds cursor n (Paused next) → ⊥
      by_stop cursor n s = omega (arith, s.0, s.1, s.2, few)

      by_told : Transcript jid bounds it.0 (Ok (Paused next)) → ⊥
      by_told (unread u) = u
      by_told (read c) = by_stop c.cursor c.n (subst (StopsAt bounds c.cursor c.n) (sym c.ended) c.stops)
