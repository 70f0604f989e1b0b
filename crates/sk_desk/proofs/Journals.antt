-- What a command and a cut keep of what stands behind the lock.
use Rattle.std.proofs.Common.{◌≡◌, ◌≤◌, ◌+◌, ◌-◌, ◌∙◌, ℕ, List, [], ◌∷◌, ◌++◌, length, length-append, refl, sym, ap, subst, inl, inr, arith}
use Rattle.std.specs.Prelude.{◌||◌, Bool, true, false, Option, Some, None, Ok, IfSome, IsSome, filter, is_none}
use Rattle.std.proofs.lemmas.List.{append-nil}
use Rattle.std.proofs.lemmas.List.Elements.{filter-append}
use Rattle.sk_resp.specs.Spelling.{Bytes}
use Rattle.sk_resp.specs.declared.reply.Reply.{Reply}
use Rattle.sk_cmd.specs.Table.{IsRead}
use Rattle.sk_cmd.specs.declared.command.Command.{Command}
use Rattle.sk_model.specs.Acked.{Acknowledges, Acks}
use Rattle.sk_model.specs.Change.{perform}
use Rattle.sk_model.specs.Event.{Happens, Reaches, Step}
use Rattle.sk_model.specs.Outcome.{Realizes, Outcome}
use Rattle.sk_model.specs.Reading.{Words}
use Rattle.sk_model.specs.Step.{MayComeTo, cut}
use Rattle.sk_model.specs.World.{World, first}
use Rattle.sk_model.specs.Reliable.{IsReliable}
use Rattle.sk_model.proofs.Theorems.Acknowledged.{acked, starved_acks_none}
use Rattle.sk_model.proofs.Theorems.Reliable.{reliable}
use Rattle.sk_model.proofs.Theorems.Runs.{leads_on}
use Rattle.sk_model.proofs.Theorems.Starving.{limits_kept}
use Rattle.sk_desk.specs.declared.entry.Deed.{Deed}
use Rattle.sk_desk.specs.declared.entry.Deed.TheVariants as deed
use Rattle.sk_desk.specs.declared.entry.Entry.{Entry}
use Rattle.sk_desk.specs.Counts.{Counts, CountsAsk, HasEvents, ShareView, is_ask, is_cut, nothing, with_ask}
use Rattle.sk_desk.specs.Journal.{IsJournal, KeepsReply, Records, RecordsAll, event_of}
use Rattle.sk_desk.specs.Log.{AllAnswered, HasReply, IsClosed, IsOpen, IsText, Log, Notes, Prepares, Writes, ask_entry, cut_entry, empty, lacks_reply, with_entry, with_note, with_waiting}
use Rattle.sk_desk.specs.Writing.{IsKeptUp, Spelling, Writing, WritesCut, nothing_written}
use Rattle.sk_desk.proofs.Writings.{cut_written, written_first}
use Rattle.sk_desk.specs.State.{Asked, Asks, IsConsistent, IsKept, IsLogged, Quits, StateView}

-- ## What a book logs

-- a book that is a journal has no entry that waits
pub logged_closed : (log : Option Log) (start w : World) → IfSome log (IsLogged start w) → IsClosed log
logged_closed None start w logged = tt
logged_closed (Some log) start w logged = logged.closed

-- once an entry is prepared it waits
pub opened : (log after : Option Log) (e : Entry) → Writes log (with_waiting e) after → IsOpen after
opened None after e is = subst IsOpen (sym is) tt
opened (Some log) after e (inl is) = subst IsOpen (sym is) (e, refl)
opened (Some log) after e (inr (many, is)) = subst IsOpen (sym is) tt

-- prepared, and then noted, an entry is entered
pub noted_after : (log mid after : Option Log) (seat now : ℕ) (words : Words) (text : Option Bytes) → IsClosed log → Writes log (with_waiting (ask_entry seat now words None)) mid → Writes mid (with_note text) after
    → Writes log (with_entry (ask_entry seat now words text)) after
noted_after None mid after seat now words text none is then_ = subst (λ m. Writes m (with_note text) after) is then_
noted_after (Some log) mid after seat now words text none (inl is) then_ = by_note (subst (λ m. Writes m (with_note text) after) is then_) where
  by_note : Writes (Some (with_waiting (ask_entry seat now words None) log)) (with_note text) after → Writes (Some log) (with_entry (ask_entry seat now words text)) after
  by_note (inl got) = inl (got ∙ ap (λ waiting. Some (record (with_entry (ask_entry seat now words text) log) { waiting = waiting })) (sym none))
  by_note (inr got) = inr got
noted_after (Some log) mid after seat now words text none (inr (many, is)) then_ = inr (many, subst (λ m. Writes m (with_note text) after) is then_)

-- ## Each Ask has its reply

has_text : {T : Type 0} (text : Option T) → is_none text ≡ false → IsSome text
has_text (Some t) has = refl
has_text None has = absurd (cc has)

has_reply : (d : Deed) → lacks_reply d ≡ false → HasReply d
has_reply (deed.Ask ask) has = has_text ask.reply has
has_reply deed.Cut has = tt

answered-append : (entries : List Entry) (e : Entry) → AllAnswered entries → HasReply e.deed → AllAnswered (entries ++ e ∷ [])
answered-append [] e all one = (one, tt)
answered-append (x ∷ entries) e all one = (all.0, answered-append entries e all.1 one)

neither : (a b : Bool) → (a || b) ≡ false → (a ≡ false) × (b ≡ false)
neither true b is = absurd (cc is)
neither false b is = (refl, is)

-- also with one more entry, where memory was never wanting
answered_on : (log : Log) (e : Entry) → (log.starved ≡ false → AllAnswered log.entries) → (lacks_reply e.deed || log.starved) ≡ false → AllAnswered (log.entries ++ e ∷ [])
answered_on log e answered is =
    let both = neither (lacks_reply e.deed) log.starved is in
    answered-append log.entries e (answered both.1) (has_reply e.deed both.0)

-- ## A journal goes on

records-append : (entries : List Entry) (steps : List Step) (e : Entry) (step : Step) → RecordsAll entries steps → Records e step → RecordsAll (entries ++ e ∷ []) (steps ++ step ∷ [])
records-append [] [] e step all one = (one, tt)
records-append (x ∷ entries) (s ∷ steps) e step all one = (all.0, records-append entries steps e step all.1 one)
records-append [] (s ∷ steps) e step all one = absurd all
records-append (x ∷ entries) [] e step all one = absurd all

-- an event that is recorded, and leads to a world
record Recorded (w : World) (e : Entry) (v : World) : Type 0 where
  outcome : Outcome
  happens : Happens w (event_of e.seat e.deed) outcome
  new_is : v ≡ perform w outcome.changes
  reply : KeepsReply e.deed outcome.reply

journal_on : (start : World) (entries : List Entry) (w v : World) (e : Entry) → IsJournal start entries w → Recorded w e v → IsJournal start (entries ++ e ∷ []) v
journal_on start entries w v e journal r =
    let step : Step = record { event = event_of e.seat e.deed; outcome = r.outcome } in
    let one : Reaches w (step ∷ []) v = record { run = (r.happens, tt); new_is = r.new_is } in
    let leads : Reaches start (journal.steps ++ step ∷ []) v = leads_on start w v journal.steps (step ∷ []) journal.leads one in
    record {
      steps = journal.steps ++ step ∷ [];
      records = records-append entries journal.steps e step journal.records (record { event_is = refl; reply = r.reply });
      leads = leads;
      reliable = λ before led. reliable start.limits (before ++ (journal.steps ++ step ∷ [])) (leads_on (first start.limits) start v before (journal.steps ++ step ∷ []) led leads).run;
    }

logged_on : (start : World) (log after : Option Log) (w v : World) (e : Entry) → IfSome log (IsLogged start w) → Recorded w e v → Writes log (with_entry e) after → IfSome after (IsLogged start v)
logged_on start None after w v e logged r is = subst (λ l. IfSome l (IsLogged start v)) (sym is) tt
logged_on start (Some log) after w v e logged r (inl is) =
    subst (λ l. IfSome l (IsLogged start v)) (sym is) (record { closed = logged.closed; answered = answered_on log e logged.answered; journal = journal_on start log.entries w v e logged.journal r })
logged_on start (Some log) after w v e logged r (inr (many, is)) = subst (λ l. IfSome l (IsLogged start v)) (sym is) tt

-- a book that tells no log has none afterwards
unlogged_on : (start : World) (log after : Option Log) (w : World) (e : Entry) → log ≡ None → Writes log (with_entry e) after → IfSome after (IsLogged start w)
unlogged_on start None after w e none is = subst (λ l. IfSome l (IsLogged start w)) (sym is) tt
unlogged_on start (Some log) after w e none is = absurd (cc none)

-- ## Its entries are counted

none_more : {a b : ℕ} → a ≡ b → a ≡ b + 0
none_more is = omega (arith, is)

-- one more entry is one more where it passes
counted_on : (passes : Deed → Bool) (entries : List Entry) (e : Entry) → length (filter (λ x. passes x.deed) (entries ++ e ∷ [])) ≡ length (filter (λ x. passes x.deed) entries) + length (filter (λ x. passes x.deed) (e ∷ []))
counted_on passes entries e = ap length (filter-append (λ x. passes x.deed) entries (e ∷ [])) ∙ length-append (filter (λ x. passes x.deed) entries) (filter (λ x. passes x.deed) (e ∷ []))

events_on : (log after : Option Log) (e : Entry) (c c' : Counts) → IfSome log (λ l. HasEvents c.asks c.cuts l.entries) → Writes log (with_entry e) after → c'.asks ≡ c.asks + length (filter (λ x. is_ask x.deed) (e ∷ []))
    → c'.cuts ≡ c.cuts + length (filter (λ x. is_cut x.deed) (e ∷ [])) → IfSome after (λ l. HasEvents c'.asks c'.cuts l.entries)
events_on None after e c c' has is asks cuts = subst (λ o. IfSome o (λ l. HasEvents c'.asks c'.cuts l.entries)) (sym is) tt
events_on (Some log) after e c c' has (inl is) asks cuts = subst (λ o. IfSome o (λ l. HasEvents c'.asks c'.cuts l.entries)) (sym is) (record {
  asks_are = counted_on is_ask log.entries e ∙ ap (λ n. n + length (filter (λ x. is_ask x.deed) (e ∷ []))) has.asks_are ∙ sym asks;
  cuts_are = counted_on is_cut log.entries e ∙ ap (λ n. n + length (filter (λ x. is_cut x.deed) (e ∷ []))) has.cuts_are ∙ sym cuts;
})
events_on (Some log) after e c c' has (inr (many, is)) asks cuts = subst (λ o. IfSome o (λ l. HasEvents c'.asks c'.cuts l.entries)) (sym is) tt

-- ## The start

journal_first : (start : World) → IsJournal start [] start
journal_first start = record {
  steps = [];
  records = tt;
  leads = record { run = tt; new_is = refl };
  reliable = λ before led. subst (λ (steps : List Step). IsReliable start.limits steps) (sym (append-nil before)) (reliable start.limits before led.run);
}

logged_first : (start : World) (log : Option Log) → IfSome log (λ l. l ≡ empty) → IfSome log (IsLogged start start)
logged_first start None none = tt
logged_first start (Some log) none = subst (IsLogged start start) (sym none) (record { closed = refl; answered = λ is. tt; journal = journal_first start })

events_first : (log : Option Log) (total : Counts) → total ≡ nothing → IfSome log (λ l. l ≡ empty) → IfSome log (λ l. HasEvents total.asks total.cuts l.entries)
events_first None total zero_ none = tt
events_first (Some log) total zero_ none = record {
  asks_are = ap (λ (l : Log). length (filter (λ (e : Entry). is_ask e.deed) l.entries)) none ∙ sym (ap (λ (c : Counts). c.asks) zero_);
  cuts_are = ap (λ (l : Log). length (filter (λ (e : Entry). is_cut e.deed) l.entries)) none ∙ sym (ap (λ (c : Counts). c.cuts) zero_);
}

pub kept_first : (spells : Spelling) (log : Option Log) (writing : Option Writing) (w start : World) (total : Counts) → w ≡ start → total ≡ nothing → IfSome log (λ l. l ≡ empty) → IfSome writing (λ t. t ≡ nothing_written)
    → IsKept spells start (record { world = w; log = log; writing = writing; total = total })
kept_first spells log writing w start total is zero_ none unwritten = subst (λ (u : World). IsKept spells start (record { world = u; log = log; writing = writing; total = total })) (sym is) (record {
  limits_are = refl;
  consistent = record { counted = omega (arith, ap (λ (c : Counts). c.rows) zero_); logged = logged_first start log none; events = events_first log total zero_ none };
  kept_up = written_first spells start writing unwritten;
})

-- ## A command

-- what a command comes to
abbrev pub Stepped : World → ℕ → ℕ → Command → Reply → World → Type 0
Stepped old seat now c answer new = (o : Outcome) × MayComeTo old seat now c o × Realizes old o answer new

-- its reply acknowledges the rows that the tally grew by
acknowledged : (old new : World) (seat now : ℕ) (c : Command) (answer : Reply) → Stepped old seat now c answer new → Acknowledges c answer old.tally.outside new.tally.outside
acknowledged old new seat now c answer (o, steps, comes) =
    let counts : Acknowledges c o.reply old.tally.outside (perform old o.changes).tally.outside = acked old seat now c o steps in
    record {
      added = counts.added;
      acks = subst (λ r. Acks c r counts.added) (sym comes.reply_is) counts.acks;
      after_is = ap (λ (w : World). w.tally.outside) comes.new_is ∙ counts.after_is;
    }

-- which never falls
pub grew : (old new : World) (seat now : ℕ) (c : Command) (answer : Reply) → Stepped old seat now c answer new → old.tally.outside ≤ new.tally.outside
grew old new seat now c answer step = omega (arith, (acknowledged old new seat now c answer step).after_is)

-- so does a desk's count, that of the rows which were pushed since some moment
pub desk_acknowledged : (old new : World) (seat now : ℕ) (c : Command) (answer : Reply) (before : ℕ) → before ≤ old.tally.outside → Stepped old seat now c answer new → Acknowledges c answer (old.tally.outside - before) (new.tally.outside - before)
desk_acknowledged old new seat now c answer before early step =
    let counts : Acknowledges c answer old.tally.outside new.tally.outside = acknowledged old new seat now c answer step in
    record { added = counts.added; acks = counts.acks; after_is = omega (arith, early, counts.after_is) }

-- what `State::ask` comes to, where the tally grew by so many
pub asks : (start : World) (old new : StateView) (mid : Option Log) (seat now : ℕ) (words : Words) (c : Command) (answer : Reply) (mine mine' : ShareView) (rows : ℕ) → IsConsistent start old → Stepped old.world seat now c answer new.world
    → Prepares seat now words old.log mid → Notes answer mid new.log → rows ≡ new.world.tally.outside - old.world.tally.outside → new.total ≡ with_ask rows old.total → mine' ≡ record mine { counts = with_ask rows mine.counts } → Asked old new seat now words c answer mine mine'
asks start old new mid seat now words c answer mine mine' rows consistent step prepares (text, is_text, notes) is total share =
    let counts : Acknowledges c answer old.world.tally.outside new.world.tally.outside = acknowledged old.world new.world seat now c answer step in
    let same : counts.added ≡ rows = omega (arith, is, counts.after_is) in
    record {
      outcome = step.0;
      steps = step.1;
      comes = step.2;
      acked = record { added = rows; acks = subst (λ n. Acks c answer n) same counts.acks; after_is = ap (λ (s : ShareView). s.counts.rows) share };
      mine_is = share;
      total_is = total;
      text = text;
      is_text = is_text;
      entered = noted_after old.log mid new.log seat now words text (logged_closed old.log start old.world consistent.logged) prepares notes;
    }

-- either way the share grew by what the reply acknowledges
pub ask_acknowledged : (old new : StateView) (seat now : ℕ) (words : Words) (c : Command) (answer : Reply) (mine mine' : ShareView) → Asks old new seat now words c answer mine mine' → Acknowledges c answer mine.counts.rows mine'.counts.rows
ask_acknowledged old new seat now words c answer mine mine' (inl asked) = asked.acked
ask_acknowledged old new seat now words c answer mine mine' (inr unasked) =
    record { added = 0; acks = subst (λ r. Acks c r 0) (sym unasked.says) (starved_acks_none c); after_is = omega (arith, ap (λ (s : ShareView). s.counts.rows) unasked.mine_same) }

-- by one command, or by none where the reply says that memory was wanting
pub ask_counted : (old new : StateView) (seat now : ℕ) (words : Words) (c : Command) (answer : Reply) (mine mine' : ShareView) → Asks old new seat now words c answer mine mine' → CountsAsk answer mine.counts.asks mine'.counts.asks
ask_counted old new seat now words c answer mine mine' (inl asked) = inl (ap (λ (s : ShareView). s.counts.asks) asked.mine_is)
ask_counted old new seat now words c answer mine mine' (inr unasked) = inr (unasked.says, ap (λ (s : ShareView). s.counts.asks) unasked.mine_same)

-- and by no cut
pub ask_cuts_none : (old new : StateView) (seat now : ℕ) (words : Words) (c : Command) (answer : Reply) (mine mine' : ShareView) → Asks old new seat now words c answer mine mine' → mine'.counts.cuts ≡ mine.counts.cuts
ask_cuts_none old new seat now words c answer mine mine' (inl asked) = ap (λ (s : ShareView). s.counts.cuts) asked.mine_is
ask_cuts_none old new seat now words c answer mine mine' (inr unasked) = ap (λ (s : ShareView). s.counts.cuts) unasked.mine_same

-- what a command leaves is consistent again, whether its book wants the words, or tells no log
asked_logged : (wants : Bool) (start : World) (old new : StateView) (seat now : ℕ) (words : Words) (c : Command) (answer : Reply) (mine mine' : ShareView) → IfSome old.log (IsLogged start old.world) → (wants ≡ true → IsRead words (Ok c)) → (wants ≡ false → old.log ≡ None)
    → Asked old new seat now words c answer mine mine' → IfSome new.log (IsLogged start new.world)
asked_logged true start old new seat now words c answer mine mine' logged is_read untold asked =
    logged_on start old.log new.log old.world new.world (ask_entry seat now words asked.text) logged
    (record { outcome = asked.outcome; happens = (Ok c, is_read refl, asked.steps); new_is = asked.comes.new_is; reply = subst (λ r. IsText r asked.text) asked.comes.reply_is asked.is_text }) asked.entered
asked_logged false start old new seat now words c answer mine mine' logged is_read untold asked = unlogged_on start old.log new.log new.world (ask_entry seat now words asked.text) (untold refl) asked.entered

pub asked_kept : (wants : Bool) (spells : Spelling) (start : World) (old new : StateView) (seat now : ℕ) (words : Words) (c : Command) (answer : Reply) (mine mine' : ShareView) → IsKept spells start old → (wants ≡ true → IsRead words (Ok c)) → (wants ≡ false → old.log ≡ None)
    → Asked old new seat now words c answer mine mine' → new.total.rows + start.tally.outside ≡ new.world.tally.outside → IfSome new.writing (IsKeptUp spells start new.world) → IsKept spells start new
asked_kept wants spells start old new seat now words c answer mine mine' kept is_read untold asked count written = record {
  limits_are = ap (λ (w : World). w.limits) asked.comes.new_is ∙ limits_kept old.world asked.outcome.changes ∙ kept.limits_are;
  consistent = record {
    counted = count;
    logged = asked_logged wants start old new seat now words c answer mine mine' kept.consistent.logged is_read untold asked;
    events = events_on old.log new.log (ask_entry seat now words asked.text) old.total new.total kept.consistent.events asked.entered (ap (λ (t : Counts). t.asks) asked.total_is) (none_more (ap (λ (t : Counts). t.cuts) asked.total_is));
  };
  kept_up = written;
}

-- ## A cut

pub cut_kept : (spells : Spelling) (start : World) (old new : StateView) (seat : ℕ) → IsKept spells start old → Quits old new seat → WritesCut spells seat old.writing new.writing → IsKept spells start new
cut_kept spells start old new seat kept quits writes = record {
  limits_are = ap (λ (w : World). w.limits) quits.world_is ∙ limits_kept old.world (cut seat).changes ∙ kept.limits_are;
  consistent = record {
    counted = ap (λ (t : Counts). t.rows + start.tally.outside) quits.total_is ∙ kept.consistent.counted ∙ sym (ap (λ (w : World). w.tally.outside) quits.world_is);
    logged = logged_on start old.log new.log old.world new.world (cut_entry seat) kept.consistent.logged (record { outcome = cut seat; happens = refl; new_is = quits.world_is; reply = tt }) quits.entered;
    events = events_on old.log new.log (cut_entry seat) old.total new.total kept.consistent.events quits.entered (none_more (ap (λ (t : Counts). t.asks) quits.total_is)) (ap (λ (t : Counts). t.cuts) quits.total_is);
  };
  kept_up = cut_written spells start old.world new.world seat old.writing new.writing quits.world_is kept.kept_up writes;
}
