-- How walks go on, and how a fault ends them.
use Rattle.std.proofs.Common.{◌≡◌, ◌≢◌, ◌∙◌, ◌≤◌, ◌<◌, ℕ, ℤ, true, List, [], ◌∷◌, ◌++◌, map, length, get_or, drop, refl, sym, subst, ap, Result, Ok, Err, append_assoc, arith}
use Rattle.std.proofs.lemmas.Bool.{true≢false}
use Rattle.std.specs.Result.{is_err}
use Rattle.sk_resp.specs.Spelling.{Bytes}
use Rattle.sk_resp.specs.declared.reply.Reply.{Reply}
use Rattle.sk_link.specs.Call.{Call, answered, lost}
use Rattle.sk_link.specs.Asking.{answers}
use Rattle.sk_link.specs.declared.asking.Answer.{Answer}
use Rattle.sk_link.specs.declared.asking.Answer.TheVariants as answer
use Rattle.sk_link.specs.declared.link.LinkFault.{LinkFault}
use Rattle.sk_link.proofs.Walks.{walk-append}
use Rattle.sk_policy.specs.declared.decision.Decision.{Decision}
use Rattle.sk_policy.specs.declared.decision.Decision.TheVariants as decide
use Rattle.sk_worker.specs.Event.{Event, asked}
use Rattle.sk_worker.specs.Request.{release_words}
use Rattle.sk_worker.specs.Saying.{Says}
use Rattle.sk_worker.specs.Stage.{Settings, Stage, Line, Step, HasNoNext, asks, decided, over, releasing, release, AtLimit, JobTranscript}
use Rattle.sk_link.specs.Walk.{Walk}
use Rattle.sk_worker.specs.Broken.{Broken, Unanswered}
use Rattle.sk_worker.specs.declared.job.Raised.{Raised}
use Rattle.sk_worker.specs.declared.turn.Turn.{Turn}
use Rattle.sk_worker.specs.declared.turn.WorkFault.{WorkFault}
use Rattle.sk_worker.specs.declared.turn.WorkFault.TheVariants as fault

unanswered_later : {S : Type 0} (Line : S → List Bytes → Answer → (Reply → S) → Type 0) (Step : S → Event → S → Type 0) (from mid stage : S) (xs ys : List Event)
    (came : Result Reply LinkFault) → Walk Step from xs mid → Unanswered Line Step mid ys stage came → Unanswered Line Step from (xs ++ ys) stage came
unanswered_later Line Step from mid stage xs ys came p q = record {
  done = xs ++ q.done;
  walk = walk-append Step from mid stage xs q.done p q.walk;
  request = q.request;
  wanted = q.wanted;
  next = q.next;
  line = q.line;
  unwanted = q.unwanted;
  are = ap (λ ds. xs ++ ds) q.are ∙ sym (append_assoc xs q.done _);
}

-- What is broken off from a stage on is broken off from an earlier one, with the events that lead there.
pub broken_later : {S : Type 0} (Line : S → List Bytes → Answer → (Reply → S) → Type 0) (Step : S → Event → S → Type 0) (Limit : S → Type 0)
    (from mid stage : S) (xs ys : List Event) (f : WorkFault) → Walk Step from xs mid → Broken Line Step Limit mid ys stage f → Broken Line Step Limit from (xs ++ ys) stage f
broken_later Line Step Limit from mid stage xs ys (fault.Link l) p q = unanswered_later Line Step from mid stage xs ys (Err l) p q
broken_later Line Step Limit from mid stage xs ys (fault.Refused r) p q = unanswered_later Line Step from mid stage xs ys (Ok r) p q
broken_later Line Step Limit from mid stage xs ys fault.GenLimit p q = (walk-append Step from mid stage xs ys p q.0, q.1)
broken_later Line Step Limit from mid stage xs ys fault.Ended p q = absurd q
broken_later Line Step Limit from mid stage xs ys fault.Memory p q = walk-append Step from mid stage xs ys p q

-- A request of a line that has no answer as wanted breaks off there.
pub unsaid : {S : Type 0} (P : List Call → Type 0) (Line : S → List Bytes → Answer → (Reply → S) → Type 0) (Step : S → Event → S → Type 0) (Limit : S → Type 0)
    (from : S) (request : List Bytes) (wanted : Answer) (next : Reply → S) (f : WorkFault) →
    Line from request wanted next → Says P request wanted (Err f) → (cs : List Call) × P cs × Broken Line Step Limit from (map asked cs) from f
unsaid P Line Step Limit from request wanted next (fault.Link l) line s =
    (lost request l ∷ [], s, record { done = []; walk = refl; request = request; wanted = wanted; next = next; line = line; unwanted = tt; are = refl })
unsaid P Line Step Limit from request wanted next (fault.Refused r) line s =
    (answered request r ∷ [], s.0, record { done = []; walk = refl; request = request; wanted = wanted; next = next; line = line; unwanted = s.1; are = refl })
unsaid P Line Step Limit from request wanted next fault.GenLimit line s = absurd s
unsaid P Line Step Limit from request wanted next fault.Ended line s = absurd s
unsaid P Line Step Limit from request wanted next fault.Memory line s = ([], s, refl)

-- ## One job

-- A request of a line, answered as wanted, leads on.
pub said : (w : Settings) (from : Stage) (request : List Bytes) (wanted : Answer) (next : Reply → Stage) (r : Reply) →
    Line w from request wanted next → answers wanted r ≡ true → Walk (Step w) from (asked (answered request r) ∷ []) (next r)
said w from request wanted next r line ok = (next r, asks from request wanted next r line ok, refl)

pub job_unsaid : (P : List Call → Type 0) (w : Settings) (from : Stage) (request : List Bytes) (wanted : Answer) (next : Reply → Stage) (f : WorkFault) →
    Line w from request wanted next → Says P request wanted (Err f) → (cs : List Call) × P cs × JobTranscript w from (map asked cs) (Err f)
job_unsaid P w from request wanted next f line s = let u = unsaid P (Line w) (Step w) AtLimit from request wanted next f line s in (u.0, u.1, (from, u.2))

pub job_later : (w : Settings) (from mid : Stage) (xs ys : List Event) (result : Result Turn WorkFault) →
    Walk (Step w) from xs mid → JobTranscript w mid ys result → JobTranscript w from (xs ++ ys) result
job_later w from mid xs ys (Ok t) p q = walk-append (Step w) from mid (over t) xs ys p q
job_later w from mid xs ys (Err f) p q = (q.0, broken_later (Line w) (Step w) AtLimit from mid q.0 xs ys f p q.1)

pub released : (w : Settings) (ident c : Bytes) (t : Turn) → w.ident ≡ ident → Line w (releasing c t) (release_words ident c) answer.Number (λ _. over t)
released w ident c t e = subst (λ i. Line w (releasing c t) (release_words i c) answer.Number (λ _. over t)) e (release c t)

pub bury_is_kept : (d : Decision) → d ≡ decide.Bury → d ≢ decide.Discard
bury_is_kept d is = subst (λ e. e ≢ decide.Discard) (sym is) (λ same. cc same)

pub retry_is_kept : (d : Decision) (score : ℤ) → d ≡ decide.Retry score → d ≢ decide.Discard
retry_is_kept d score is = subst (λ e. e ≢ decide.Discard) (sym is) (λ same. cc same)

-- A job that can't fail once more stays where it is.
pub no_next : (P : List Call → Type 0) (w : Settings) (c : Bytes) (r : Raised) (now : ℕ) (d : Decision) (f : WorkFault) → d ≢ decide.Discard → HasNoNext c f → P [] →
    (cs : List Call) × P cs × JobTranscript w (decided c r now d) (map asked cs) (Err f)
no_next P w c r now d (fault.Link l) kept none p = absurd none
no_next P w c r now d (fault.Refused reply) kept none p = absurd none
no_next P w c r now d fault.GenLimit kept none p = ([], p, (decided c r now d, (refl, (kept, none))))
no_next P w c r now d fault.Ended kept none p = absurd none
no_next P w c r now d fault.Memory kept none p = ([], p, (decided c r now d, refl))

-- ## The oldest job

pub first_of : (xs : List Bytes) (x : Bytes) → 1 ≤ length xs → x ≡ get_or xs 0 x → xs ≡ x ∷ drop 1 xs
first_of [] x some is = let no : ⊥ = omega (arith, some) in absurd no
first_of (y ∷ xs) x some is = ap (λ z. z ∷ xs) (sym is)

pub none_held : (xs : List Bytes) (n : ℕ) → n ≡ length xs → (0 < n → ⊥) → xs ≡ []
none_held [] n e none = refl
none_held (x ∷ xs) n e none = absurd (none (omega (arith, e)))

pub ok_no_err : {T E : Type 0} (x : T) (e : E) → Ok x ≡ Err e → ⊥
ok_no_err x e same = true≢false (sym (ap is_err same))
