-- How a turn of a poller goes on, event by event, and how it ends.
use Rattle.std.proofs.Common.{◌≡◌, ◌∙◌, ◌≤◌, ◌<◌, ◌+◌, ◌*◌, ◌^◌, ◌||◌, ℕ, Bool, true, false, List, [], ◌∷◌, ◌++◌, length, refl, sym, subst, ap, Option, Some, None, Result, Ok, Err, arith, option_map, if◌then◌else◌}
use Rattle.std.specs.Prelude.{ok_or}
use Rattle.std.specs.Result.{IsErr, IsErrAnd, is_err}
use Rattle.sk_base.specs.Yields.{Yields, YieldsAll}
use Rattle.sk_resp.specs.Spelling.{Bytes}
use Rattle.sk_resp.specs.declared.reply.Reply.{Reply}
use Rattle.sk_link.proofs.Walks.{walk-append}
use Rattle.sk_link.specs.Asking.{is_okay}
use Rattle.sk_link.specs.Call.{Call, answered, has_lost, lost}
use Rattle.sk_link.specs.Report.{report_of}
use Rattle.sk_link.specs.Walk.{Walk}
use Rattle.sk_link.specs.declared.link.LinkFault.{LinkFault}
use Rattle.sk_link.specs.declared.report.Report.{Report}
use Rattle.sk_poller.proofs.Reports.{reported}
use Rattle.sk_poller.specs.Counts.{nothing, add_due, add_rescued, add_pushed}
use Rattle.sk_poller.specs.Event.{Event, asked, read, slot, drew, calls, moments, words}
use Rattle.sk_poller.specs.Loop.{Remaining, job_text}
use Rattle.sk_poller.specs.Passed.{is_passed, lead_of}
use Rattle.sk_poller.specs.Stage.{Watch, Step, reads, asks, looks, draws, after, request_at, resting, next_loop, Ends, PollTranscript, Parts, PollTurn, Answers, HasRoom, is_lost}
use Rattle.sk_poller.specs.declared.poller.Loop.{Loop}
use Rattle.sk_poller.specs.declared.report.PollFault.{PollFault}
use Rattle.sk_poller.specs.declared.report.PollFault.TheVariants as fault
use Rattle.sk_poller.specs.declared.report.PollReport.{PollReport}
use Rattle.sk_poller.specs.declared.stage.Stage.{Stage}
use Rattle.sk_poller.specs.declared.stage.Stage.TheVariants.{Resting, Beating, Scheduled, Retries, Rescuing, Leading, Looking, Due, Pushing, Over}

-- ## What events are to each object

pub calls-append : (xs ys : List Event) → calls (xs ++ ys) ≡ calls xs ++ calls ys
calls-append [] ys = refl
calls-append (read now_ ∷ xs) ys = calls-append xs ys
calls-append (asked call ∷ xs) ys = ap (λ cs. call ∷ cs) (calls-append xs ys)
calls-append (slot last ∷ xs) ys = calls-append xs ys
calls-append (drew first second ∷ xs) ys = calls-append xs ys

pub moments-append : (xs ys : List Event) → moments (xs ++ ys) ≡ moments xs ++ moments ys
moments-append [] ys = refl
moments-append (read now_ ∷ xs) ys = ap (λ ms. now_ ∷ ms) (moments-append xs ys)
moments-append (asked call ∷ xs) ys = moments-append xs ys
moments-append (slot last ∷ xs) ys = moments-append xs ys
moments-append (drew first second ∷ xs) ys = moments-append xs ys

words-append : (xs ys : List Event) → words (xs ++ ys) ≡ words xs ++ words ys
words-append [] ys = refl
words-append (read now_ ∷ xs) ys = words-append xs ys
words-append (asked call ∷ xs) ys = words-append xs ys
words-append (slot last ∷ xs) ys = words-append xs ys
words-append (drew first second ∷ xs) ys = ap (λ ws. first ∷ second ∷ ws) (words-append xs ys)

yields-append : (before : Option (ℕ → ℕ)) (xs : List ℕ) (mid : Option (ℕ → ℕ)) (ys : List ℕ) (after_ : Option (ℕ → ℕ)) →
    YieldsAll before xs mid → YieldsAll mid ys after_ → YieldsAll before (xs ++ ys) after_
yields-append before [] mid ys after_ p q = subst (λ m. YieldsAll m ys after_) p q
yields-append before (x ∷ xs) mid ys after_ p q = (p.0, p.1, yields-append p.0 xs mid ys after_ p.2 q)

-- What link, clock and dice did for these events.
pub record Met (Carried : List Call → Type 0) (k k' d d' : Option (ℕ → ℕ)) (events : List Event) : Type 0 where
  pub link : Carried (calls events)
  pub clock : YieldsAll k (moments events) k'
  pub dice : YieldsAll d (words events) d'

pub met_more : {P P' P'' : List Call → Type 0} {k k' k'' d d' d'' : Option (ℕ → ℕ)} (xs ys : List Event) →
    ((cs ds : List Call) → P cs → P' ds → P'' (cs ++ ds)) → Met P k k' d d' xs → Met P' k' k'' d' d'' ys → Met P'' k k'' d d'' (xs ++ ys)
met_more {P} {P'} {P''} {k} {k'} {k''} {d} {d'} {d''} xs ys more p q = record {
  link = subst P'' (sym (calls-append xs ys)) (more (calls xs) (calls ys) p.link q.link);
  clock = subst (λ ms. YieldsAll k ms k'') (sym (moments-append xs ys)) (yields-append k (moments xs) k' (moments ys) k'' p.clock q.clock);
  dice = subst (λ ws. YieldsAll d ws d'') (sym (words-append xs ys)) (yields-append d (words xs) d' (words ys) d'' p.dice q.dice);
}

-- ## Replies that lead on

if_some : {A : Type 0} (b : Bool) (x y : A) → (if b then Some x else None) ≡ Some y → (b ≡ true) × (y ≡ x)
if_some true x y e = let f : Some x ≡ Some y = e in (refl, cc)
if_some false x y e = let f : None ≡ Some y = e in absurd (cc f)

mapped : {A B : Type 0} (f : A → B) (o : Option A) (y : B) → option_map f o ≡ Some y → (a : A) × (o ≡ Some a) × (y ≡ f a)
mapped f None y e = let g : None ≡ Some y = e in absurd (cc g)
mapped f (Some a) y e = let g : Some (f a) ≡ Some y = e in (a, refl, cc)

-- Where a reply leads, by the stage that it is a reply to.
pub data Leads (w : Watch) : Stage → Reply → Stage → Type 0 where
  beat : (now_ : ℕ) (r : Reply) → is_okay r ≡ true → Leads w (Beating now_) r (Scheduled now_ nothing)
  promote : (now_ : ℕ) (n : PollReport) (r : Reply) (report : Report) → report_of r ≡ Some report → Leads w (Scheduled now_ n) r (Retries now_ (add_due n report))
  retry : (now_ : ℕ) (n : PollReport) (r : Reply) (report : Report) → report_of r ≡ Some report → Leads w (Retries now_ n) r (Rescuing now_ (add_due n report))
  rescue : (now_ : ℕ) (n : PollReport) (r : Reply) (report : Report) → report_of r ≡ Some report → Leads w (Rescuing now_ n) r (Leading now_ (add_rescued n report))
  lead : (now_ : ℕ) (n : PollReport) (r : Reply) → lead_of r ≡ Some true → Leads w (Leading now_ n) r (next_loop now_ w.loops n)
  follow : (now_ : ℕ) (n : PollReport) (r : Reply) → lead_of r ≡ Some false → Leads w (Leading now_ n) r (Over n)
  push : (now_ last : ℕ) (job : Bytes) (loops : Remaining) (n : PollReport) (r : Reply) → is_okay r ≡ true →
      Leads w (Pushing now_ last job loops n) r (next_loop now_ loops.rest (add_pushed n))
  pass : (now_ last : ℕ) (job : Bytes) (loops : Remaining) (n : PollReport) (r : Reply) → is_okay r ≡ false → is_passed r ≡ true →
      Leads w (Pushing now_ last job loops n) r (next_loop now_ loops.rest n)

lead_leads : (w : Watch) (now_ : ℕ) (n : PollReport) (r : Reply) (leads : Bool) → lead_of r ≡ Some leads →
    Leads w (Leading now_ n) r (if leads then next_loop now_ w.loops n else Over n)
lead_leads w now_ n r true e = lead now_ n r e
lead_leads w now_ n r false e = follow now_ n r e

push_leads : (w : Watch) (now_ last : ℕ) (job : Bytes) (loops : Remaining) (n : PollReport) (r : Reply) (next : Stage) (okay passed : Bool) →
    is_okay r ≡ okay → is_passed r ≡ passed →
    (if okay then Some (next_loop now_ loops.rest (add_pushed n)) else if passed then Some (next_loop now_ loops.rest n) else None) ≡ Some next →
    Leads w (Pushing now_ last job loops n) r next
push_leads w now_ last job loops n r next true passed is is' e =
    let f : Some (next_loop now_ loops.rest (add_pushed n)) ≡ Some next = e in
    let same : next_loop now_ loops.rest (add_pushed n) ≡ next = cc f in
    subst (λ s. Leads w (Pushing now_ last job loops n) r s) same (push now_ last job loops n r is)
push_leads w now_ last job loops n r next false true is is' e =
    let f : Some (next_loop now_ loops.rest n) ≡ Some next = e in
    let same : next_loop now_ loops.rest n ≡ next = cc f in
    subst (λ s. Leads w (Pushing now_ last job loops n) r s) same (pass now_ last job loops n r is is')
push_leads w now_ last job loops n r next false false is is' e = let f : None ≡ Some next = e in absurd (cc f)

pub leads_on : (w : Watch) (from next : Stage) (r : Reply) → after w.loops from r ≡ Some next → Leads w from r next
leads_on w Resting next r e = let f : None ≡ Some next = e in absurd (cc f)
leads_on w (Beating now_) next r e =
    let h = if_some (is_okay r) (Scheduled now_ nothing) next e in
    subst (λ s. Leads w (Beating now_) r s) (sym h.1) (beat now_ r h.0)
leads_on w (Scheduled now_ n) next r e =
    let m = mapped (λ (report : Report). Retries now_ (add_due n report)) (report_of r) next e in
    subst (λ s. Leads w (Scheduled now_ n) r s) (sym m.2) (promote now_ n r m.0 m.1)
leads_on w (Retries now_ n) next r e =
    let m = mapped (λ (report : Report). Rescuing now_ (add_due n report)) (report_of r) next e in
    subst (λ s. Leads w (Retries now_ n) r s) (sym m.2) (retry now_ n r m.0 m.1)
leads_on w (Rescuing now_ n) next r e =
    let m = mapped (λ (report : Report). Leading now_ (add_rescued n report)) (report_of r) next e in
    subst (λ s. Leads w (Rescuing now_ n) r s) (sym m.2) (rescue now_ n r m.0 m.1)
leads_on w (Leading now_ n) next r e =
    let m = mapped (λ (leads : Bool). if leads then next_loop now_ w.loops n else Over n) (lead_of r) next e in
    subst (λ s. Leads w (Leading now_ n) r s) (sym m.2) (lead_leads w now_ n r m.0 m.1)
leads_on w (Looking now_ loops n) next r e = let f : None ≡ Some next = e in absurd (cc f)
leads_on w (Due now_ last loops n) next r e = let f : None ≡ Some next = e in absurd (cc f)
leads_on w (Pushing now_ last job loops n) next r e = push_leads w now_ last job loops n r next (is_okay r) (is_passed r) refl refl e
leads_on w (Over n) next r e = let f : None ≡ Some next = e in absurd (cc f)

-- ## Measures and bounds

-- how many events are left at most, where there are so many loops
abbrev pub left : ℕ → Stage → ℕ
left most Resting = 3 * most + 6
left most (Beating now_) = 3 * most + 5
left most (Scheduled now_ n) = 3 * most + 4
left most (Retries now_ n) = 3 * most + 3
left most (Rescuing now_ n) = 3 * most + 2
left most (Leading now_ n) = 3 * most + 1
left most (Looking now_ loops n) = 3 * length loops.rest + 3
left most (Due now_ last loops n) = 3 * length loops.rest + 2
left most (Pushing now_ last job loops n) = 3 * length loops.rest + 1
left most (Over n) = 0

next_left : (most now_ : ℕ) (loops : List Loop) (n : PollReport) → left most (next_loop now_ loops n) ≤ 3 * length loops
next_left most now_ [] n = omega arith
next_left most now_ (l ∷ loops) n = omega arith

after_left : (w : Watch) (from next : Stage) (r : Reply) → Leads w from r next → left (length w.loops) next < left (length w.loops) from
after_left w from next r (beat now_ r' okay) = omega arith
after_left w from next r (promote now_ n r' report is) = omega arith
after_left w from next r (retry now_ n r' report is) = omega arith
after_left w from next r (rescue now_ n r' report is) = omega arith
after_left w from next r (lead now_ n r' is) = let h = next_left (length w.loops) now_ w.loops n in omega (arith, h)
after_left w from next r (follow now_ n r' is) = omega arith
after_left w from next r (push now_ last job loops n r' is) = let h = next_left (length w.loops) now_ loops.rest (add_pushed n) in omega (arith, h)
after_left w from next r (pass now_ last job loops n r' is is') = let h = next_left (length w.loops) now_ loops.rest n in omega (arith, h)

pub step_left : (w : Watch) (from to : Stage) (event : Event) → Step w from event to → left (length w.loops) to < left (length w.loops) from
step_left w from to event (reads now_) = omega arith
step_left w from to event (asks from' next request r is leads) = after_left w from' next r (leads_on w from' next r leads)
step_left w from to event (looks now_ loops n None is) = let h = next_left (length w.loops) now_ loops.rest n in omega (arith, h)
step_left w from to event (looks now_ loops n (Some last) is) = omega arith
step_left w from to event (draws now_ last loops n first second) = omega arith

next_room : (now_ : ℕ) (loops : List Loop) (n : PollReport) → n.pushed + length loops < 2 ^ 64 → HasRoom (next_loop now_ loops n)
next_room now_ [] n room = tt
next_room now_ (l ∷ loops) n room = omega (arith, room)

after_room : (w : Watch) (from next : Stage) (r : Reply) → length w.loops < 2 ^ 64 → Leads w from r next → HasRoom from → HasRoom next
after_room w from next r few (beat now_ r' okay) room = refl
after_room w from next r few (promote now_ n r' report is) room =
    let h = reported r' report is in
    let none : n ≡ nothing = room in
    let promoted : n.promoted ≡ 0 = ap (λ m. m.promoted) none in
    let buried : n.buried ≡ 0 = ap (λ m. m.buried) none in
    (omega (arith, h.0, promoted), omega (arith, h.1, buried), ap (λ m. m.rescued) none, ap (λ m. m.pushed) none)
after_room w from next r few (retry now_ n r' report is) room = let h = reported r' report is in (omega (arith, h.1, room.1), room.2, room.3)
after_room w from next r few (rescue now_ n r' report is) room = room.2
after_room w from next r few (lead now_ n r' is) room = next_room now_ w.loops n (omega (arith, few, room))
after_room w from next r few (follow now_ n r' is) room = tt
after_room w from next r few (push now_ last job loops n r' is) room = next_room now_ loops.rest (add_pushed n) (omega (arith, room))
after_room w from next r few (pass now_ last job loops n r' is is') room = next_room now_ loops.rest n (omega (arith, room))

pub step_room : (w : Watch) (from to : Stage) (event : Event) → length w.loops < 2 ^ 64 → Step w from event to → HasRoom from → HasRoom to
step_room w from to event few (reads now_) room = tt
step_room w from to event few (asks from' next request r is leads) room = after_room w from' next r few (leads_on w from' next r leads) room
step_room w from to event few (looks now_ loops n None is) room = next_room now_ loops.rest n (omega (arith, room))
step_room w from to event few (looks now_ loops n (Some last) is) room = room
step_room w from to event few (draws now_ last loops n first second) room = room

-- ## So far

-- what a turn has done when it comes to a stage
pub record SoFar (Carried : List Call → Type 0) (k k' d d' : Option (ℕ → ℕ)) (w : Watch) (stage : Stage) : Type 0 where
  pub events : List Event
  pub met : Met Carried k k' d d' events
  pub walk : Walk (Step w) resting events stage
  pub room : HasRoom stage

pub at_stage : {P : List Call → Type 0} {k k' d d' : Option (ℕ → ℕ)} {w : Watch} {from stage : Stage} → from ≡ stage → SoFar P k k' d d' w from → SoFar P k k' d d' w stage
at_stage {P} {k} {k'} {d} {d'} {w} is so_far = subst (λ s. SoFar P k k' d d' w s) is so_far

pub begun : {P : List Call → Type 0} (w : Watch) (k d : Option (ℕ → ℕ)) → P [] → SoFar P k k d d w resting
begun w k d none = record { events = []; met = record { link = none; clock = refl; dice = refl }; walk = refl; room = tt }

one_more : {P P' P'' : List Call → Type 0} {k k' k'' d d' d'' : Option (ℕ → ℕ)} (w : Watch) (from to : Stage) (event : Event) →
    length w.loops < 2 ^ 64 → ((cs ds : List Call) → P cs → P' ds → P'' (cs ++ ds)) → SoFar P k k' d d' w from →
    Met P' k' k'' d' d'' (event ∷ []) → Step w from event to → SoFar P'' k k'' d d'' w to
one_more w from to event few more so_far met step = record {
  events = so_far.events ++ event ∷ [];
  met = met_more so_far.events (event ∷ []) more so_far.met met;
  walk = walk-append (Step w) resting from to so_far.events (event ∷ []) so_far.walk (to, step, refl);
  room = step_room w from to event few step so_far.room;
}

append-none : {A : Type 0} (xs : List A) → xs ++ [] ≡ xs
append-none [] = refl
append-none (x ∷ xs) = ap (λ ys. x ∷ ys) (append-none xs)

-- no call more
without_calls : (P : List Call → Type 0) (cs ds : List Call) → P cs → ds ≡ [] → P (cs ++ ds)
without_calls P cs ds p e = subst (λ es. P (cs ++ es)) (sym e) (subst P (sym (append-none cs)) p)

pub after_read : {P : List Call → Type 0} {k k' k'' d d' : Option (ℕ → ℕ)} (w : Watch) (now_ : ℕ) → length w.loops < 2 ^ 64 →
    SoFar P k k' d d' w Resting → Yields k' now_ k'' → SoFar P k k'' d d' w (Beating now_)
after_read {P} w now_ few so_far yields =
    one_more {P' = λ ds. ds ≡ []} w Resting (Beating now_) (read now_) few (without_calls P) so_far
    (record { link = refl; clock = (_, yields, refl); dice = refl }) (reads now_)

pub after_look : {P : List Call → Type 0} {k k' d d' : Option (ℕ → ℕ)} (w : Watch) (from to : Stage) → length w.loops < 2 ^ 64 →
    SoFar P k k' d d' w from → (last : Option ℕ) × Step w from (slot last) to → SoFar P k k' d d' w to
after_look {P} w from to few so_far (last, step) =
    one_more {P' = λ ds. ds ≡ []} w from to (slot last) few (without_calls P) so_far (record { link = refl; clock = refl; dice = refl }) step

pub after_draw : {P : List Call → Type 0} {k k' d d' d'' : Option (ℕ → ℕ)} (w : Watch) (now_ last : ℕ) (loops : Remaining) (n : PollReport) (first second : ℕ) →
    length w.loops < 2 ^ 64 → SoFar P k k' d d' w (Due now_ last loops n) → YieldsAll d' (first ∷ second ∷ []) d'' →
    SoFar P k k' d d'' w (Pushing now_ last (job_text loops.first first second now_) loops n)
after_draw {P} w now_ last loops n first second few so_far yields =
    one_more {P' = λ ds. ds ≡ []} w (Due now_ last loops n) (Pushing now_ last (job_text loops.first first second now_) loops n) (drew first second) few (without_calls P)
    so_far (record { link = refl; clock = refl; dice = yields }) (draws now_ last loops n first second)

pub after_answer : {P P' P'' : List Call → Type 0} {k k' d d' : Option (ℕ → ℕ)} (w : Watch) (from to : Stage) → length w.loops < 2 ^ 64 →
    ((cs ds : List Call) → P cs → P' ds → P'' (cs ++ ds)) → SoFar P k k' d d' w from → Answers P' w from (Ok to) → SoFar P'' k k' d d' w to
after_answer w from to few more so_far (request, r, step, carried) =
    one_more w from to (asked (answered request r)) few more so_far (record { link = carried; clock = refl; dice = refl }) step

-- What came of the request, where it was answered.
pub answer : (P : List Call → Type 0) (w : Watch) (from : Stage) (request : List Bytes) (r : Reply) (next : Option Stage) → request_at w.ident from ≡ Some request →
    after w.loops from r ≡ next → P (answered request r ∷ []) → Answers P w from (ok_or next (fault.Refused r))
answer P w from request r (Some next) is leads carried = (request, r, asks from next request r is leads, carried)
answer P w from request r None is nowhere carried = (request, is, nowhere, carried)

-- ## How it ends

pub whole : {P : List Call → Type 0} {k k' d d' : Option (ℕ → ℕ)} (w : Watch) (n : PollReport) → SoFar P k k' d d' w (Over n) → PollTurn P k k' d d' w (Ok n)
whole w n so_far = record { events = so_far.events; parts = record { link = so_far.met.link; clock = so_far.met.clock; dice = so_far.met.dice }; told = so_far.walk }

pub without_memory : {P : List Call → Type 0} {k k' d d' : Option (ℕ → ℕ)} (w : Watch) (stage : Stage) → SoFar P k k' d d' w stage → PollTurn P k k' d d' w (Err fault.Memory)
without_memory w stage so_far = record {
  events = so_far.events;
  parts = record { link = so_far.met.link; clock = so_far.met.clock; dice = so_far.met.dice };
  told = (stage, so_far.walk);
}

-- the last request, and what came of it
last_call : {P P' P'' : List Call → Type 0} {k k' d d' : Option (ℕ → ℕ)} (w : Watch) (from : Stage) (call : Call) →
    ((cs ds : List Call) → P cs → P' ds → P'' (cs ++ ds)) → (so_far : SoFar P k k' d d' w from) → P' (call ∷ []) →
    Parts P'' (λ ms. YieldsAll k ms k') (λ ws. YieldsAll d ws d') (so_far.events ++ asked call ∷ [])
last_call {P} {P'} {P''} {k} {k'} {d} {d'} w from call more so_far carried =
    let last : Met P' k' k' d' d' (asked call ∷ []) = record { link = carried; clock = refl; dice = refl } in
    let met = met_more {P'' = P''} so_far.events (asked call ∷ []) more so_far.met last in
    record { link = met.link; clock = met.clock; dice = met.dice }

pub broken_off : {P P' P'' : List Call → Type 0} {k k' d d' : Option (ℕ → ℕ)} (w : Watch) (from : Stage) (f : PollFault) →
    ((cs ds : List Call) → P cs → P' ds → P'' (cs ++ ds)) → SoFar P k k' d d' w from → Answers P' w from (Err f) → PollTurn P'' k k' d d' w (Err f)
broken_off w from (fault.Link f) more so_far (request, is, carried) = record {
  events = so_far.events ++ asked (lost request f) ∷ [];
  parts = last_call w from (lost request f) more so_far carried;
  told = record { done = so_far.events; stage = from; walk = so_far.walk; request = request; asks_it = is; refused = tt; are = refl };
}
broken_off w from (fault.Refused r) more so_far (request, is, nowhere, carried) = record {
  events = so_far.events ++ asked (answered request r) ∷ [];
  parts = last_call w from (answered request r) more so_far carried;
  told = record { done = so_far.events; stage = from; walk = so_far.walk; request = request; asks_it = is; refused = nowhere; are = refl };
}
broken_off {P} {P'} {P''} w from fault.Memory more so_far carried = record {
  events = so_far.events;
  parts = record {
    link = subst P'' (append-none (calls so_far.events)) (more (calls so_far.events) [] so_far.met.link carried);
    clock = so_far.met.clock;
    dice = so_far.met.dice;
  };
  told = (from, so_far.walk);
}

-- the fault that a `?` hands on
pub handed_on : {A E : Type 0} (result : Result A E) (Q : E → Type 0) → IsErr result → IsErrAnd result Q → (e : E) × (result ≡ Err e) × Q e
handed_on (Ok x) Q is gives = let f : false ≡ true = is in absurd (cc f)
handed_on (Err e) Q is gives = (e, refl, gives)

-- ## Lost requests

or_assoc : (a b c : Bool) → (a || (b || c)) ≡ ((a || b) || c)
or_assoc true b c = refl
or_assoc false b c = refl

lost-append : (xs ys : List Call) → has_lost (xs ++ ys) ≡ (has_lost xs || has_lost ys)
lost-append [] ys = refl
lost-append (call ∷ xs) ys = ap (λ b. is_err call.reply || b) (lost-append xs ys) ∙ or_assoc (is_err call.reply) (has_lost xs) (has_lost ys)

step_loses : (w : Watch) (from to : Stage) (event : Event) → Step w from event to → has_lost (calls (event ∷ [])) ≡ false
step_loses w from to event (reads now_) = refl
step_loses w from to event (asks from' next request r is leads) = refl
step_loses w from to event (looks now_ loops n last is) = refl
step_loses w from to event (draws now_ last loops n first second) = refl

walk_loses : (w : Watch) (from to : Stage) (events : List Event) → Walk (Step w) from events to → has_lost (calls events) ≡ false
walk_loses w from to [] walk = refl
walk_loses w from to (event ∷ events) (next, step, walk) =
    ap has_lost (calls-append (event ∷ []) events) ∙ lost-append (calls (event ∷ [])) (calls events)
    ∙ cc (step_loses w from next event step, walk_loses w next to events walk)

or_false : (b : Bool) → (b || false) ≡ b
or_false true = refl
or_false false = refl

ends_lost : (w : Watch) (from : Stage) (events : List Event) (reply : Result Reply LinkFault) → Ends w from events reply → has_lost (calls events) ≡ is_err reply
ends_lost w from events reply ends =
    let call : Call = record { request = ends.request; reply = reply } in
    ap (λ es. has_lost (calls es)) ends.are ∙ ap has_lost (calls-append ends.done (asked call ∷ [])) ∙ lost-append (calls ends.done) (call ∷ [])
    ∙ ap (λ b. b || (is_err reply || false)) (walk_loses w from ends.stage ends.done ends.walk) ∙ or_false (is_err reply)

pub turn_loses : (w : Watch) (from : Stage) (events : List Event) (result : Result PollReport PollFault) → PollTranscript w from events result →
    has_lost (calls events) ≡ is_lost result
turn_loses w from events (Ok n) told = walk_loses w from (Over n) events told
turn_loses w from events (Err (fault.Link f)) told = ends_lost w from events (Err f) told
turn_loses w from events (Err (fault.Refused r)) told = ends_lost w from events (Ok r) told
turn_loses w from events (Err fault.Memory) (stage, walk) = walk_loses w from stage events walk

pub has_ended_by : {P : List Call → Type 0} {k k' d d' : Option (ℕ → ℕ)} (w : Watch) (result : Result PollReport PollFault) (ended ended_now : Bool) →
    ((cs : List Call) → P cs → ended_now ≡ (ended || has_lost cs)) → PollTurn P k k' d d' w result → ended_now ≡ (ended || is_lost result)
has_ended_by w result ended ended_now ends turn =
    ends (calls turn.events) turn.parts.link ∙ ap (λ b. ended || b) (turn_loses w resting turn.events result turn.told)
