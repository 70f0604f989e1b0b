-- What a drill's tally counts, by the stories of its threads.
use denote.Param.Members.{Mut}
use Rattle.std.proofs.Common.{◌≡◌, ◌≤◌, ◌+◌, ◌∷◌, ◌∙◌, ◌==◌, ℕ, Bool, true, false, cond, List, [], Option, Some, None, IsSome, Ok, Err, ap, arith, flat_map, length, map, refl, subst, sym, unwrap_or, if◌then◌else◌}
use Rattle.std.specs.List.{AllByRecursion}
use Rattle.sk_resp.specs.Kind.{kind_text}
use Rattle.sk_resp.specs.Refusal.{refusal_text}
use Rattle.sk_resp.specs.Reply.{fault_text, say_text, wire}
use Rattle.sk_resp.specs.Spelling.{Bytes, bulk, header, line}
use Rattle.sk_resp.specs.declared.kind.Kind.{Kind}
use Rattle.sk_resp.specs.declared.kind.Kind.TheVariants as kind
use Rattle.sk_resp.specs.declared.refusal.Refusal.{Refusal}
use Rattle.sk_resp.specs.declared.refusal.Refusal.TheVariants as refusal
use Rattle.sk_resp.specs.declared.reply.Reply.{Reply}
use Rattle.sk_resp.specs.declared.reply.Reply.TheVariants as reply
use Rattle.sk_resp.specs.declared.say.Say.{Say}
use Rattle.sk_resp.specs.declared.say.Say.TheVariants as say
use Rattle.sk_resp.specs.declared.wire_fault.WireFault.{WireFault}
use Rattle.sk_resp.specs.declared.wire_fault.WireFault.TheVariants as fault
use Rattle.sk_cmd.specs.Fault.{fault_say}
use Rattle.sk_cmd.specs.Reading.{Read}
use Rattle.sk_cmd.specs.Table.{IsRead}
use Rattle.sk_cmd.specs.declared.command.Command.{Command}
use Rattle.sk_model.specs.Acked.{where_number}
use Rattle.sk_model.specs.Causes.{CausesFrom, HaveCauses}
use Rattle.sk_model.specs.Change.{perform}
use Rattle.sk_model.specs.Event.{Event, Happens, ResultsIn, Run, Step, after, world_after}
use Rattle.sk_model.specs.Outcome.{Outcome}
use Rattle.sk_model.specs.Reading.{Words}
use Rattle.sk_model.specs.World.{World}
use Rattle.sk_model.proofs.Theorems.Acknowledged.{acked}
use Rattle.sk_compare.specs.Alike.{Alike, noted, told, told_by, with_deed}
use Rattle.sk_compare.specs.Exchange.{Exchange, exchange_of}
use Rattle.sk_desk.specs.Journal.{IsJournal, KeepsReply, Records, RecordsAll, event_of}
use Rattle.sk_desk.specs.Log.{IsText}
use Rattle.sk_desk.specs.declared.entry.Deed.{Deed}
use Rattle.sk_desk.specs.declared.entry.Deed.TheVariants as deed
use Rattle.sk_desk.specs.declared.entry.Entry.{Entry}
use Rattle.sk_lane.specs.declared.story.Story.{Story}
use Rattle.sk_policy.specs.declared.delay.DelayRule.{DelayRule}
use Rattle.sk_status.specs.declared.tally.Tally.{Tally}
use Rattle.sk_worker.specs.Run.{Run as RunTold}
use Rattle.sk_worker.specs.declared.registry.Registry.{Registry}
use Rattle.sk_drill.specs.Crews.{AreStories, HaveOwnSeats}
use Rattle.sk_drill.specs.Drilled.{CountsAs, EndsAs, shipped}
use Rattle.sk_drill.specs.declared.drill_end.DrillEnd.{DrillEnd}
use Rattle.sk_drill.specs.declared.drill_end.DrillEnd.TheVariants as end
use Rattle.sk_drill.specs.declared.plan.Plan.{Plan}
use Rattle.sk_drill.specs.Telling.{numbers, pushes_from}
use Rattle.sk_drill.proofs.Asked.{IsTold, StoryAsks, all_asks}
use Rattle.sk_drill.proofs.Each.{all_append, all_told, own_told}
use Rattle.sk_drill.proofs.Ending.{told_none}
use Rattle.sk_drill.proofs.Inner.{HasNoBatch, inner_stays}
use Rattle.sk_drill.proofs.Commands.{ReadPushes, none, one}

-- ## Texts of numbers

-- one, where the text is that of a number
abbrev numbers_in : Bytes → ℕ
numbers_in [] = 0
numbers_in (byte ∷ bytes) = cond (byte == 58) 1 0

kind_no : (k : Kind) → numbers_in (line (kind_text k)) ≡ 0
kind_no kind.Absent = refl
kind_no kind.String = refl
kind_no kind.List = refl
kind_no kind.Set = refl
kind_no kind.Hash = refl
kind_no kind.Sorted = refl

refusal_no : (r : Refusal) → numbers_in (line (refusal_text r)) ≡ 0
refusal_no refusal.ManagedKey = refl
refusal_no refusal.NotWorker = refl
refusal_no refusal.OutOfTurn = refl
refusal_no refusal.HandsFull = refl
refusal_no refusal.NoProcess = refl
refusal_no refusal.NoBatch = refl
refusal_no refusal.Settled = refl
refusal_no refusal.RepeatedJid = refl
refusal_no refusal.BadPayload = refl
refusal_no refusal.NotLeader = refl
refusal_no refusal.SlotDone = refl
refusal_no refusal.Full = refl
refusal_no refusal.RepeatedBid = refl
refusal_no refusal.SlotTime = refl

fault_no : (f : WireFault) → numbers_in (line (fault_text f)) ≡ 0
fault_no fault.MultiLength = refl
fault_no fault.BulkLength = refl
fault_no (fault.NoDollar byte) = refl
fault_no fault.Quote = refl
fault_no fault.InlineLong = refl
fault_no fault.Limit = refl
fault_no fault.Memory = refl

say_no : (s : Say) → numbers_in (line (say_text s)) ≡ 0
say_no say.Ok = refl
say_no say.Pong = refl
say_no (say.Kind k) = kind_no k
say_no say.Unknown = refl
say_no (say.Arity name) = refl
say_no say.NotInt = refl
say_no say.NotScore = refl
say_no say.BadBound = refl
say_no say.Syntax = refl
say_no say.WrongType = refl
say_no say.Overflow = refl
say_no say.BadExpire = refl
say_no (say.Refused r) = refusal_no r
say_no say.Oom = refl
say_no (say.Protocol f) = fault_no f

number_wire : (answer : Reply) → numbers_in (wire answer) ≡ where_number answer 1
unfolding bulk header
number_wire (reply.Say s) = say_no s
number_wire (reply.Simple text) = refl
number_wire (reply.Error text) = refl
number_wire (reply.Int n) = refl
number_wire (reply.Bulk bytes) = refl
number_wire reply.Null = refl
number_wire (reply.Array texts) = refl
number_wire reply.NullArray = refl

-- ## Exchanges

abbrev number_told : Exchange → ℕ
number_told x = numbers_in (unwrap_or x.reply [])

-- how many of them were answered by a number
abbrev numbers_told : List Exchange → ℕ
numbers_told [] = 0
numbers_told (x ∷ xs) = number_told x + numbers_told xs

number_kept : (answer : Reply) (text : Option Bytes) → IsText answer text → IsSome text → numbers_in (unwrap_or text []) ≡ where_number answer 1
number_kept answer (Some t) is some = ap (λ s. numbers_in s) is ∙ number_wire answer
number_kept answer None is some = absurd (cc some)

-- how many rows an ask of this seat pushes, by its reply: that of the seat p one where it is a number, another none
abbrev count_at : ℕ → ℕ → Reply → ℕ
count_at p s = cond (s == p) one none

abbrev OnAsk : (Exchange → Type 0) → Deed → Type 0
OnAsk P (deed.Ask ask) = P (exchange_of ask)
OnAsk P deed.Cut = Unit {0}

abbrev EntryTold : ℕ → Entry → Type 0
EntryTold p e = OnAsk (IsTold (count_at p e.seat)) e.deed

-- what a deed adds to the numbers that are told of a seat, where it is of that seat
abbrev gained_by : Bool → Deed → ℕ
gained_by own (deed.Ask ask) = cond own (number_told (exchange_of ask)) 0
gained_by own deed.Cut = 0

abbrev gained : ℕ → ℕ → Deed → ℕ
gained p s d = gained_by (s == p) d

-- ## One event

pub record Gains (w : World) (o : Outcome) (n : ℕ) : Type 0 where
  pub outside : (perform w o.changes).tally.outside ≡ w.tally.outside + n
  pub inner : (perform w o.changes).tally.inner ≡ w.tally.inner
  pub no_batch : HasNoBatch (perform w o.changes)

by_read : (w : World) (seat now : ℕ) (words : Words) (event : Event) (count : Reply → ℕ) → ((s : Say) → count (reply.Say s) ≡ 0) → (r : Read Command) (o : Outcome) →
    IsRead words r → ResultsIn w seat now r o → ReadPushes words count → HaveCauses w event false [] w o.changes → HasNoBatch w → Gains w o (count o.reply)
by_read w seat now words event count says (Ok c) o read may pushes causes nothing =
    let a = acked w seat now c o may in
    let p = pushes c read in
    let stays = inner_stays w event o.changes causes (p.ordinary w seat now o may) nothing in
    record { outside = a.after_is ∙ ap (λ n. w.tally.outside + n) (p.acks o.reply a.added a.acks); inner = stays.0; no_batch = stays.1 }
by_read w seat now words event count says (Err f) o read may pushes causes nothing =
    subst (λ (u : Outcome). Gains w u (count u.reply)) (sym may)
    (record { outside = omega (arith, says (fault_say f)); inner = refl; no_batch = nothing })

says_none : (b : Bool) (s : Say) → cond b one none (reply.Say s) ≡ 0
says_none true s = refl
says_none false s = refl

number_of : (b : Bool) (answer : Reply) (n : ℕ) → n ≡ where_number answer 1 → cond b one none answer ≡ cond b n 0
number_of true answer n is = sym is
number_of false answer n is = refl

on_deed : (p seat : ℕ) (d : Deed) (w : World) (o : Outcome) → Happens w (event_of seat d) o → KeepsReply d o.reply → OnAsk (IsTold (count_at p seat)) d →
    HaveCauses w (event_of seat d) false [] w o.changes → HasNoBatch w → Gains w o (gained p seat d)
on_deed p seat (deed.Ask ask) w o happens keeps told causes nothing =
    subst (Gains w o) (number_of (seat == p) o.reply (number_told (exchange_of ask)) (number_kept o.reply ask.reply keeps told.answered))
    (by_read w seat ask.now ask.request (event_of seat (deed.Ask ask)) (count_at p seat) (says_none (seat == p)) happens.0 o happens.1 happens.2 told.pushes causes nothing)
on_deed p seat deed.Cut w o happens keeps told causes nothing =
    subst (λ (u : Outcome). Gains w u 0) (sym happens) (record { outside = omega arith; inner = refl; no_batch = nothing })

on_step : (p : ℕ) (e : Entry) (step : Step) (w : World) → Happens w step.event step.outcome → Records e step → EntryTold p e →
    HaveCauses w step.event false [] w step.outcome.changes → HasNoBatch w → Gains w step.outcome (gained p e.seat e.deed)
on_step p e step w happens records told causes nothing = on_deed p e.seat e.deed w step.outcome (subst (λ v. Happens w v step.outcome) records.event_is happens) records.reply told
    (subst (λ v. HaveCauses w v false [] w step.outcome.changes) records.event_is causes) nothing

-- ## A whole journal

deed_told : (own : Bool) (d : Deed) (xs : List Exchange) → numbers_told (if own then with_deed d xs else xs) ≡ gained_by own d + numbers_told xs
deed_told true (deed.Ask ask) xs = refl
deed_told true deed.Cut xs = omega arith
deed_told false (deed.Ask ask) xs = omega arith
deed_told false deed.Cut xs = omega arith

-- From a world without a batch: what its tally counts behind the entries.
counted : (p : ℕ) (entries : List Entry) (steps : List Step) (w : World) → RecordsAll entries steps → Run w steps → CausesFrom w steps →
    AllByRecursion (EntryTold p) entries → HasNoBatch w →
    ((world_after w steps).tally.outside ≡ w.tally.outside + numbers_told (noted entries p)) × ((world_after w steps).tally.inner ≡ w.tally.inner)
counted p [] [] w records run causes told nothing = (omega arith, refl)
counted p [] (step ∷ steps) w records run causes told nothing = absurd records
counted p (e ∷ entries) [] w records run causes told nothing = absurd records
counted p (e ∷ entries) (step ∷ steps) w records run causes told nothing =
    let here = on_step p e step w run.0 records.0 told.0 causes.0 nothing in
    let rest = counted p entries steps (after w step) records.1 run.1 causes.1 told.1 here.no_batch in
    (omega (arith, here.outside, rest.0, deed_told (e.seat == p) e.deed (noted entries p)), rest.1 ∙ here.inner)

-- ## Each entry is told

own_seat : (k : ℕ) → (k == k) ≡ true
own_seat k = grind arith

head_told : (Own : ℕ → Exchange → Type 0) (e : Entry) (entries : List Entry) → AllByRecursion (Own e.seat) (noted (e ∷ entries) e.seat) → OnAsk (Own e.seat) e.deed
head_told Own e entries h =
    by_deed e.deed (noted entries e.seat) (subst (λ b. AllByRecursion (Own e.seat) (if b then with_deed e.deed (noted entries e.seat) else noted entries e.seat)) (own_seat e.seat) h)
  where
    by_deed : (d : Deed) (xs : List Exchange) → AllByRecursion (Own e.seat) (with_deed d xs) → OnAsk (Own e.seat) d
    by_deed (deed.Ask ask) xs h = h.0
    by_deed deed.Cut xs h = tt

tail_told : (P : Exchange → Type 0) (own : Bool) (d : Deed) (xs : List Exchange) → AllByRecursion P (if own then with_deed d xs else xs) → AllByRecursion P xs
tail_told P true (deed.Ask ask) xs h = h.1
tail_told P true deed.Cut xs h = h
tail_told P false d xs h = h

-- What holds of all that is noted of each seat holds of the entries.
all_entries : (Own : ℕ → Exchange → Type 0) (entries : List Entry) → ((s : ℕ) → AllByRecursion (Own s) (noted entries s)) → AllByRecursion (λ e. OnAsk (Own e.seat) e.deed) entries
all_entries Own [] each = tt
all_entries Own (e ∷ entries) each = (
  head_told Own e entries (each e.seat),
  all_entries Own entries (λ s. tail_told (Own s) (e.seat == s) e.deed (noted entries s) (each s)),
)

same_seat : (k s : ℕ) → (k == s) ≡ true → k ≡ s
same_seat k s e = grind (arith, e)

-- The first of these stories pushes a job by each ask, and the others push nothing.
told_at : (first : Story) (rest : List Story) (s : ℕ) (own : Bool) → (s == first.seat) ≡ own → HaveOwnSeats (first ∷ rest) → StoryAsks one first → AllByRecursion (StoryAsks none) rest →
    AllByRecursion (IsTold (cond own one none)) (told (first ∷ rest) s)
told_at first rest s true is apart pushing others =
    let same : s ≡ first.seat = same_seat s first.seat is in
    let alone : told rest s ≡ [] = ap (λ k. told rest k) same ∙ told_none rest first.seat apart.0 in
    all_append (IsTold one) (told_by s first) (told rest s) (own_told (IsTold one) (first.seat == s) (map exchange_of first.asks.items) pushing)
    (subst (AllByRecursion (IsTold one)) (sym alone) tt)
told_at first rest s false is apart pushing others =
    let other : (first.seat == s) ≡ false = grind (arith, is) in
    let nothing : told_by s first ≡ [] = ap (λ b. if b then map exchange_of first.asks.items else []) other in
    all_append (IsTold none) (told_by s first) (told rest s) (subst (AllByRecursion (IsTold none)) (sym nothing) tt) (all_told (IsTold none) rest s others)

numbers_pushed : (k : ℕ) (answers : List Reply) → numbers_told (pushes_from k answers) ≡ numbers answers
numbers_pushed k [] = refl
numbers_pushed k (answer ∷ answers) = omega (arith, number_wire answer, numbers_pushed (k + 1) answers, one_number answer answers) where
  one_number : (answer : Reply) (answers : List Reply) → numbers (answer ∷ answers) ≡ where_number answer 1 + numbers answers
  one_number (reply.Int n) answers = omega arith
  one_number (reply.Say s) answers = omega arith
  one_number (reply.Simple text) answers = omega arith
  one_number (reply.Error text) answers = omega arith
  one_number (reply.Bulk bytes) answers = omega arith
  one_number reply.Null answers = omega arith
  one_number (reply.Array texts) answers = omega arith
  one_number reply.NullArray answers = omega arith

-- The last world of the journal counts each push that was answered by a number, and no push of the store's own.
pub journal_counts : (first : Story) (rest : List Story) (answers : List Reply) (entries : List Entry) (w : World) → IsJournal shipped entries w →
    Alike (told (first ∷ rest)) (noted entries) → HaveOwnSeats (first ∷ rest) → StoryAsks one first → AllByRecursion (StoryAsks none) rest →
    noted entries first.seat ≡ pushes_from 1 answers → (w.tally.outside ≡ numbers answers) × (w.tally.inner ≡ 0)
journal_counts first rest answers entries w journal alike apart pushing others own =
    let p = first.seat in
    let each : (s : ℕ) → AllByRecursion (IsTold (count_at p s)) (noted entries s) =
    λ s. subst (AllByRecursion (IsTold (count_at p s))) (alike.each s) (told_at first rest s (s == p) refl apart pushing others) in
    let all = counted p entries journal.steps _ journal.records journal.leads.run (journal.reliable [] (record { run = tt; new_is = refl })).moves_have_causes (all_entries (λ s. IsTold (count_at p s)) entries each) refl in (
      omega (arith, ap (λ (v : World). v.tally.outside) journal.leads.new_is, all.0, ap (λ xs. numbers_told xs) own, numbers_pushed 1 answers),
      ap (λ (v : World). v.tally.inner) journal.leads.new_is ∙ all.1,
    )

-- ## How a drill ends

module _ {Job Rule : Type 0} {OfJob : Job → Type 0} {OfRule : Rule → Type 0} {Delays : Mut ((rule : Rule) × OfRule rule) (ℕ × Unit {0}) ℕ} where
  pub counts_as : (runs : (job : Job) × OfJob job → Option (List RunTold)) (plan : Plan) (workers : ℕ) (rules : List (DelayRule Rule OfRule Delays))
      (teams teams_now : List (Registry Job Rule OfJob OfRule Delays)) (stories : List Story) (are : AreStories runs plan workers rules teams teams_now stories) (how : DrillEnd) →
      workers ≤ length teams_now → EndsAs stories how → CountsAs are.pushed.pushed.answers how
  counts_as runs plan workers rules teams teams_now stories are (end.Alike d) few ends =
      let asks = all_asks runs plan workers rules teams teams_now stories are few in
      let rest = are.polling ∷ flat_map (λ lane. lane) are.lanes in
      let own = subst (AllByRecursion (λ story. noted ends.log.entries story.seat ≡ map exchange_of story.asks.items)) are.are ends.by_seat.own in
      let counts = journal_counts are.pushing rest are.pushed.pushed.answers ends.log.entries ends.world ends.journal
      (subst (λ l. Alike (told l) (noted ends.log.entries)) are.are ends.alike) (subst HaveOwnSeats are.are are.apart) asks.0 asks.1 (own.0 ∙ are.pushed.pushed.are) in
      record { outside_is = ap (λ (t : Tally). t.outside) ends.tally_is ∙ counts.0; inner_is = ap (λ (t : Tally). t.inner) ends.tally_is ∙ counts.1 }
  counts_as runs plan workers rules teams teams_now stories are (end.Differs seat place told_ noted_) few ends = tt
  counts_as runs plan workers rules teams teams_now stories are end.Memory few ends = tt
