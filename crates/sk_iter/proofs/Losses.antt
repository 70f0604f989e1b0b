-- A call of `iterate` lost a request exactly where it says so.
use Rattle.std.proofs.Common.{◌≡◌, ◌∙◌, ◌&&◌, ◌||◌, ◌++◌, ◌∷◌, [], Bool, true, false, List, refl, ap, Option, Result, Ok, Err}
use Rattle.std.specs.List.{list_all}
use Rattle.std.specs.Result.{is_err}
use Rattle.sk_resp.specs.Spelling.{Bytes}
use Rattle.sk_resp.specs.declared.reply.Reply.{Reply}
use Rattle.sk_link.specs.Call.{Call, has_lost}
use Rattle.sk_link.specs.declared.link.LinkFault.{LinkFault}
use Rattle.sk_iter.specs.Deeds.{Deed}
use Rattle.sk_iter.specs.Event.{Event, ItemRun, asked, calls, ran}
use Rattle.sk_iter.specs.Performs.{EndsAtSave, EndsIn, is_accepted, is_kept}
use Rattle.sk_iter.specs.Transcript.{IsUnread, Iterates, Transcript, is_lost, read, unread}
use Rattle.sk_iter.specs.declared.call.Bounds.{Bounds}
use Rattle.sk_iter.specs.declared.iter_end.IterEnd.{IterEnd}
use Rattle.sk_iter.specs.declared.iter_end.IterFault.{IterFault}
use Rattle.sk_iter.specs.declared.iter_end.IterFault.TheVariants as fault
use Rattle.sk_iter.proofs.Performing.{calls-append}

accepted_stays : (reply : Result Reply LinkFault) (b : Bool) → (is_accepted reply && b) ≡ true → (is_err reply ≡ false) × (b ≡ true)
accepted_stays (Ok r) b e = (refl, behind (is_accepted (Ok r)) b e) where
  behind : (a b : Bool) → (a && b) ≡ true → b ≡ true
  behind true b e = e
  behind false b e = absurd (cc e)
accepted_stays (Err f) b e = absurd (cc e)

-- what was kept was not lost
kept_none : (es : List Event) → list_all is_kept es ≡ true → has_lost (calls es) ≡ false
kept_none [] e = refl
kept_none (asked call ∷ es) e =
    let k = accepted_stays call.reply (list_all is_kept es) e in
    ap (λ b. b || has_lost (calls es)) k.0 ∙ kept_none es k.1
kept_none (ran run ∷ es) e = kept_none es e

lost_append : (xs ys : List Call) → has_lost xs ≡ false → has_lost (xs ++ ys) ≡ has_lost ys
lost_append [] ys e = refl
lost_append (call ∷ xs) ys e = by_first (is_err call.reply) e (lost_append xs ys) where
  by_first : (b : Bool) → (b || has_lost xs) ≡ false → (has_lost xs ≡ false → has_lost (xs ++ ys) ≡ has_lost ys) → (b || has_lost (xs ++ ys)) ≡ has_lost ys
  by_first true e rest = absurd (cc e)
  by_first false e rest = rest e

or-false : (b : Bool) → (b || false) ≡ b
or-false true = refl
or-false false = refl

-- a save at the end is lost where it had no reply
at_save : (jid : Bytes) (deeds : List Deed) (events : List Event) (reply : Result Reply LinkFault) → EndsAtSave jid deeds events reply → has_lost (calls events) ≡ is_err reply
at_save jid deeds events reply s =
    ap (λ es. has_lost (calls es)) s.are ∙ ap has_lost (calls-append s.done _) ∙ lost_append (calls s.done) _ (kept_none s.done s.front.kept) ∙ or-false (is_err reply)

ends_lost : (jid : Bytes) (deeds : List Deed) (events : List Event) (result : Result IterEnd IterFault) → EndsIn jid deeds events result → has_lost (calls events) ≡ is_lost result
ends_lost jid deeds events (Ok x) h = kept_none events h.kept
ends_lost jid deeds events (Err (fault.Cursor r)) h = absurd h
ends_lost jid deeds events (Err (fault.Link f)) h = at_save jid deeds events (Err f) h
ends_lost jid deeds events (Err (fault.Refused r)) h = at_save jid deeds events (Ok r) h.0
ends_lost jid deeds events (Err fault.Memory) h = kept_none events h.1.kept

unread_lost : (jid : Bytes) (b : Bounds) (events : List Event) (result : Result IterEnd IterFault) → IsUnread jid b events result → has_lost (calls events) ≡ is_lost result
unread_lost jid b events (Ok end) u = absurd u
unread_lost jid b events (Err (fault.Cursor r)) u = ap (λ es. has_lost (calls es)) u.0
unread_lost jid b events (Err (fault.Link f)) u = ap (λ es. has_lost (calls es)) u
unread_lost jid b events (Err (fault.Refused r)) u = ap (λ es. has_lost (calls es)) u.0
unread_lost jid b events (Err fault.Memory) u = ap (λ es. has_lost (calls es)) u

pub call_lost : (jid : Bytes) (b : Bounds) (events : List Event) (result : Result IterEnd IterFault) → Transcript jid b events result → has_lost (calls events) ≡ is_lost result
call_lost jid b events result (unread u) = unread_lost jid b events result u
call_lost jid b events result (read c) = ap (λ es. has_lost (calls es)) c.are ∙ ends_lost jid _ c.behind result c.ends

-- so a link has ended behind it where it had before, or lost a request
pub ended_by : (P : List Call → Type 0) (a b : Option (List ItemRun)) (jid : Bytes) (bounds : Bounds) (result : Result IterEnd IterFault) (old new : Bool) →
    ((cs : List Call) → P cs → new ≡ (old || has_lost cs)) → Iterates P a b jid bounds result → new ≡ (old || is_lost result)
ended_by P a b jid bounds result old new ends it = ends (calls it.0) it.1.link ∙ ap (λ x. old || x) (call_lost jid bounds it.0 result it.2)
