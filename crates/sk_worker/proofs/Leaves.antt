-- How leaving goes on.
use Rattle.std.proofs.Common.{◌≡◌, ◌+◌, ℕ, true, List, [], ◌∷◌, ◌++◌, map, refl, Result, Ok, Err}
use Rattle.sk_resp.specs.Spelling.{Bytes}
use Rattle.sk_resp.specs.declared.reply.Reply.{Reply}
use Rattle.sk_link.specs.Asking.{answers}
use Rattle.sk_link.specs.Call.{Call, answered}
use Rattle.sk_link.specs.Walk.{Walk}
use Rattle.sk_link.specs.declared.asking.Answer.{Answer}
use Rattle.sk_link.proofs.Walks.{walk-append}
use Rattle.sk_worker.specs.Event.{Event, asked}
use Rattle.sk_worker.specs.Leaving.{LeaveStage, LeaveLine, LeaveStep, LeaveTranscript, BackTranscript, leaving, asks, in_hand}
use Rattle.sk_worker.specs.Saying.{Says}
use Rattle.sk_worker.specs.declared.turn.WorkFault.{WorkFault}
use Rattle.sk_worker.proofs.Walks.{broken_later, unsaid}

pub leave_said : (ident : Bytes) (from : LeaveStage) (request : List Bytes) (wanted : Answer) (next : Reply → LeaveStage) (r : Reply) →
    LeaveLine ident from request wanted next → answers wanted r ≡ true → Walk (LeaveStep ident) from (asked (answered request r) ∷ []) (next r)
leave_said ident from request wanted next r line ok = (next r, asks from request wanted next r line ok, refl)

pub back_unsaid : (P : List Call → Type 0) (ident : Bytes) (from : LeaveStage) (c : Bytes) (others : List Bytes) (count : ℕ) (request : List Bytes) (wanted : Answer)
    (next : Reply → LeaveStage) (f : WorkFault) → in_hand from ≡ c ∷ others → LeaveLine ident from request wanted next → Says P request wanted (Err f) →
    (cs : List Call) × P cs × BackTranscript ident from c others count (map asked cs) (Err f)
back_unsaid P ident from c others count request wanted next f hand line s =
    let u = unsaid P (LeaveLine ident) (LeaveStep ident) (λ _. ⊥) from request wanted next f line s in (u.0, u.1, (from, u.2, hand))

pub one_after : (ident : Bytes) (from mid : LeaveStage) (c : Bytes) (others : List Bytes) (count : ℕ) (xs ys : List Event) (result : Result ℕ WorkFault) →
    Walk (LeaveStep ident) from xs mid → BackTranscript ident mid c others count ys result → BackTranscript ident from c others count (xs ++ ys) result
one_after ident from mid c others count xs ys (Ok n) p q = walk-append (LeaveStep ident) from mid (leaving others (count + n)) xs ys p q
one_after ident from mid c others count xs ys (Err f) p q =
    (q.0, broken_later (LeaveLine ident) (LeaveStep ident) (λ _. ⊥) from mid q.0 xs ys f p q.1, q.2)

pub leave_after : (ident : Bytes) (from mid : LeaveStage) (xs ys : List Event) (held : List Bytes) (result : Result ℕ WorkFault) →
    Walk (LeaveStep ident) from xs mid → LeaveTranscript ident mid ys held result → LeaveTranscript ident from (xs ++ ys) held result
leave_after ident from mid xs ys held (Ok n) p q = (walk-append (LeaveStep ident) from mid (leaving [] n) xs ys p q.0, q.1)
leave_after ident from mid xs ys held (Err f) p q =
    (q.0, broken_later (LeaveLine ident) (LeaveStep ident) (λ _. ⊥) from mid q.0 xs ys f p q.1, q.2)
