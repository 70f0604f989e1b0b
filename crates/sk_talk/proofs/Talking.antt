-- What comes of pieces of a stream, one after another.
use Rattle.std.proofs.Common.{◌≡◌, ℕ, List, [], ◌∷◌, ◌++◌, true, false, Option, Some, None, refl, sym, ap, ◌∙◌, subst, append_assoc, append-nil, take, length, inl, inr, Result, Ok, Err}
use Rattle.std.specs.Prelude.{OnOk, IfErr, map}
use Rattle.std.proofs.lemmas.List.{map-append}
use Rattle.std.proofs.Math.Seq.{take-append_seam}
use Rattle.sk_base.specs.Outside.{Gives, Takes, TakesFront, IsFront}
use Rattle.sk_base.proofs.OutsideLaws.{takes_more, takes_nothing}
use Rattle.sk_resp.specs.Spelling.{Bytes, joined}
use Rattle.sk_resp.specs.Request.{Command}
use Rattle.sk_resp.specs.Stream.{Opens, Reads, Stops as ReaderStops}
use Rattle.sk_resp.specs.Reply.{wire}
use Rattle.sk_resp.specs.declared.wire_fault.WireFault.{WireFault}
use Rattle.sk_resp.specs.declared.reply.Reply.{Reply}
use Rattle.sk_resp.proofs.Readings.{faulty_on}
use Rattle.sk_resp.proofs.Fewer.{opens_on, opens_fewer}
use Rattle.sk_talk.specs.declared.talk_end.Stop.{Stop}
use Rattle.sk_talk.specs.declared.talk_end.Stop.TheVariants as stop
use Rattle.sk_talk.specs.declared.talk_end.TalkEnd.{TalkEnd}
use Rattle.sk_talk.specs.declared.talk_end.TalkEnd.TheVariants.{Ended, Quit, Shutdown, Lost, Wire, Cut, ReadFault, WriteFault, Memory, Budget}
use Rattle.sk_talk.specs.Talk.{DoesAll, AnswersAll, Refuses, Due, DueFront, IsAtEnd, IsHeard, Ends, LosesLast, Stops, refusal}
use Rattle.sk_talk.specs.Driving.{AnsweredSome, IsWriteStop, IsPieceEnd, EndsAt, AnswersFront, Stopped, StopsAt, StopsReply, end_at, is_lost}
use Rattle.sk_talk.proofs.Doing.{does_nothing, does_one, does_on}

joined-append : (xs ys : List Bytes) → joined (xs ++ ys) ≡ joined xs ++ joined ys
joined-append [] ys = refl
joined-append (x ∷ xs) ys = ap (λ z. x ++ z) (joined-append xs ys) ∙ sym (append_assoc x (joined xs) (joined ys))

-- the texts of replies, and of one more
pub texts_more : (replies : List Reply) (reply : Reply) → joined (map wire (replies ++ reply ∷ [])) ≡ joined (map wire replies) ++ wire reply
texts_more replies reply =
    ap joined (map-append wire replies (reply ∷ [])) ∙ joined-append (map wire replies) (wire reply ∷ []) ∙ ap (λ z. joined (map wire replies) ++ z) (append-nil (wire reply))

-- A front of one reply, behind those before it, is a front of all.
pub front_among : (all done rest : List Reply) (reply : Reply) (front : Bytes) → all ≡ done ++ reply ∷ rest → IsFront front (wire reply) → IsFront (joined (map wire done) ++ front) (joined (map wire all))
front_among all done rest reply front is f = (
  f.0 ++ joined (map wire rest),
  ap (λ z. joined (map wire z)) is ∙ ap joined (map-append wire done (reply ∷ rest)) ∙ joined-append (map wire done) (wire reply ∷ map wire rest)
      ∙ ap (λ z. joined (map wire done) ++ (z ++ joined (map wire rest))) f.1 ∙ ap (λ z. joined (map wire done) ++ z) (append_assoc front f.0 (joined (map wire rest)))
      ∙ sym (append_assoc (joined (map wire done)) front (f.0 ++ joined (map wire rest))),
)

-- A reply that failed, in the words of a command.
heard : (ends : Option Stop) → is_lost ends ≡ false → IsHeard ends
heard ends kept = λ lost. cc (kept, ap is_lost lost)

pub kept : (ends : Option Stop) → IsHeard ends → is_lost ends ≡ false
kept None h = refl
kept (Some stop.Quit) h = refl
kept (Some stop.Shutdown) h = refl
kept (Some stop.Lost) h = absurd (h refl)

pub failed_reply : (end : TalkEnd) (ends : Option Stop) (text : Bytes) (before after : Option Bytes) → is_lost ends ≡ false → IsWriteStop end → TakesFront before text after → (sent : Bytes) × StopsReply end ends text sent × Takes before sent after
failed_reply WriteFault ends text before after kept stop t = (t.0, (t.1, heard ends kept), t.2)
failed_reply Memory ends text before after kept stop t = (t.0, (t.1, heard ends kept), t.2)
failed_reply Ended ends text before after kept stop t = absurd stop
failed_reply Quit ends text before after kept stop t = absurd stop
failed_reply Shutdown ends text before after kept stop t = absurd stop
failed_reply Lost ends text before after kept stop t = absurd stop
failed_reply Wire ends text before after kept stop t = absurd stop
failed_reply Cut ends text before after kept stop t = absurd stop
failed_reply ReadFault ends text before after kept stop t = absurd stop
failed_reply Budget ends text before after kept stop t = absurd stop

-- The reply to a command that stops the talk.
stopping_reply : (ends : Stop) (text : Bytes) → is_lost (Some ends) ≡ false → StopsReply (end_at ends) (Some ends) text text
stopping_reply stop.Quit text kept = (refl, refl)
stopping_reply stop.Shutdown text kept = (refl, refl)
stopping_reply stop.Lost text kept = absurd (cc kept)

pub stopped_reply : (end : TalkEnd) (ends : Option Stop) (s : Stop) (text : Bytes) → is_lost ends ≡ false → end ≡ end_at s → ends ≡ Some s → StopsReply end ends text text
stopped_reply end ends s text kept e is =
    subst (λ z. StopsReply z ends text text) (sym e) (subst (λ z. StopsReply (end_at s) z text text) (sym is) (stopping_reply s text (sym (ap is_lost is) ∙ kept)))

-- A command that lost its reply.
pub lost_reply : (ends : Option Stop) (text : Bytes) → is_lost ends ≡ true → StopsReply Lost ends text []
lost_reply None text lost = absurd (cc lost)
lost_reply (Some stop.Quit) text lost = absurd (cc lost)
lost_reply (Some stop.Shutdown) text lost = absurd (cc lost)
lost_reply (Some stop.Lost) text lost = (refl, refl)

-- the first commands of all
first_ones : (all done rest : List Command) → all ≡ done ++ rest → done ≡ take (length done) all
first_ones all done rest is = sym (ap (take (length done)) is ∙ take-append_seam done rest)

front_on : (before written whole : Bytes) → IsFront written whole → IsFront (before ++ written) (before ++ whole)
front_on before written whole f = (f.0, ap (λ z. before ++ z) f.1 ∙ sym (append_assoc before written f.0))

-- A source that had nothing left has nothing left after a read of nothing.
pub nothing_left : (before after : Option Bytes) → Gives before [] after → IsAtEnd before → IsAtEnd after
nothing_left None after gives at = rw gives tt
nothing_left (Some bytes) after gives at = rw gives.2 (sym gives.1 ∙ at)

-- What was added stands at the front of the stream, whatever the reader answered.
pub fed_opens : (r : Result (Unit {0}) WireFault) (old new : Option WireFault) (bytes rest : Bytes) (was now : List Command) → old ≡ None
    → OnOk r ((old ≡ None) × (new ≡ None) × ((added : List Command) × (now ≡ was ++ added) × Reads bytes added rest))
    → IfErr r (λ fault. old ≡ None → (added : List Command) × (now ≡ was ++ added) × ReaderStops bytes added fault)
    → (added : List Command) × (now ≡ was ++ added) × ((rest' : Bytes) × Opens bytes added rest')
fed_opens (Ok u) old new bytes rest was now sound ok err = (ok.2.0, ok.2.1, (rest, ok.2.2.opens))
fed_opens (Err f) old new bytes rest was now sound ok err = let e = err sound in (e.0, e.1, (e.2.rest, e.2.opens))

-- what was added to nothing
pub all_added : (was now added : List Command) → now ≡ was ++ added → was ≡ [] → now ≡ added
all_added was now added is none = rw none at is

module _ {S : Type 0} (does : S → Command → Reply → Option Stop → S → Type 0) where
  -- ## Served

  serves_text : (stop : Option Stop) (old new : S) (commands : List Command) (replies : List Reply) (written : Bytes) → DoesAll does old commands replies new stop → written ≡ joined (map wire replies) → AnswersAll (DoesAll does) stop old commands new written
  serves_text stop old new commands replies written did text = record { replies = replies; answers = did; text = text }

  pub serves_nothing : (s : S) → AnswersAll (DoesAll does) None s [] s []
  serves_nothing s = serves_text None s s [] [] [] (does_nothing does s) refl

  pub serves_on : (stop : Option Stop) (old mid new : S) (commands others : List Command) (written more : Bytes) → AnswersAll (DoesAll does) None old commands mid written → AnswersAll (DoesAll does) stop mid others new more
      → AnswersAll (DoesAll does) stop old (commands ++ others) new (written ++ more)
  serves_on stop old mid new commands others written more s t =
      serves_text stop old new (commands ++ others) (s.replies ++ t.replies) (written ++ more) (does_on does old mid new commands others s.replies t.replies stop s.answers t.answers)
      (ap (λ z. z ++ more) s.text ∙ ap (λ z. joined (map wire s.replies) ++ z) t.text ∙ sym (joined-append (map wire s.replies) (map wire t.replies)) ∙ ap joined (sym (map-append wire s.replies t.replies)))

  serves_one : (stop : Option Stop) (old new : S) (words : Command) (reply : Reply) → does old words reply stop new → AnswersAll (DoesAll does) stop old (words ∷ []) new (wire reply)
  serves_one stop old new words reply did = serves_text stop old new (words ∷ []) (reply ∷ []) (wire reply) (does_one does old new words reply stop did) (sym (append-nil (wire reply)))

  -- one more command
  pub serves_more : (stop : Option Stop) (old mid new : S) (commands : List Command) (written : Bytes) (words : Command) (reply : Reply) → AnswersAll (DoesAll does) None old commands mid written → does mid words reply stop new
      → AnswersAll (DoesAll does) stop old (commands ++ words ∷ []) new (written ++ wire reply)
  serves_more stop old mid new commands written words reply s did =
      serves_on stop old mid new commands (words ∷ []) written (wire reply) s (serves_one stop mid new words reply did)

  -- ## Where a command is the last

  -- one more command, of whose reply some was written
  front_more : (ends : Option Stop) (old mid new : S) (commands : List Command) (written front : Bytes) (words : Command) (reply : Reply) → AnswersAll (DoesAll does) None old commands mid written → does mid words reply ends new
      → IsFront front (wire reply) × IsHeard ends → AnswersFront does old (commands ++ words ∷ []) new (written ++ front)
  front_more ends old mid new commands written front words reply s did f =
      (ends, (written ++ wire reply, serves_more ends old mid new commands written words reply s did, (f.0.0, ap (λ z. written ++ z) f.0.1 ∙ sym (append_assoc written front f.0.0)), f.1))

  -- one more command, that stops the talk
  whole_more : (ends x : Option Stop) (old mid new : S) (commands : List Command) (written sent : Bytes) (words : Command) (reply : Reply) → AnswersAll (DoesAll does) None old commands mid written
      → does mid words reply ends new → ends ≡ x → sent ≡ wire reply → AnswersAll (DoesAll does) x old (commands ++ words ∷ []) new (written ++ sent)
  whole_more ends x old mid new commands written sent words reply s did is sent_is =
      subst (λ z. AnswersAll (DoesAll does) x old (commands ++ words ∷ []) new (written ++ z)) (sym sent_is)
      (serves_more x old mid new commands written words reply s (subst (λ e. does mid words reply e new) is did))

  -- one more command, which lost its reply
  lost_more : (ends : Option Stop) (old mid new : S) (commands : List Command) (written sent : Bytes) (words : Command) (reply : Reply) → AnswersAll (DoesAll does) None old commands mid written
      → does mid words reply ends new → ends ≡ Some stop.Lost → sent ≡ [] → LosesLast (DoesAll does) old (commands ++ words ∷ []) new (written ++ sent)
  lost_more ends old mid new commands written sent words reply s did is none = record {
    replies = s.replies;
    last = reply;
    answers = does_on does old mid new commands (words ∷ []) s.replies (reply ∷ []) (Some stop.Lost) s.answers (does_one does mid new words reply (Some stop.Lost) (subst (λ e. does mid words reply e new) is did));
    text = ap (λ z. written ++ z) none ∙ append-nil written ∙ s.text;
  }

  -- one more command, at which the talk ends
  stops_more : (end : TalkEnd) (ends : Option Stop) (old mid new : S) (commands : List Command) (written sent : Bytes) (words : Command) (reply : Reply) → AnswersAll (DoesAll does) None old commands mid written
      → does mid words reply ends new → StopsReply end ends (wire reply) sent → StopsAt does end old (commands ++ words ∷ []) new (written ++ sent)
  stops_more Quit ends old mid new commands written sent words reply s did stops = whole_more ends (Some stop.Quit) old mid new commands written sent words reply s did stops.0 stops.1
  stops_more Shutdown ends old mid new commands written sent words reply s did stops = whole_more ends (Some stop.Shutdown) old mid new commands written sent words reply s did stops.0 stops.1
  stops_more Lost ends old mid new commands written sent words reply s did stops = lost_more ends old mid new commands written sent words reply s did stops.0 stops.1
  stops_more WriteFault ends old mid new commands written sent words reply s did stops = front_more ends old mid new commands written sent words reply s did stops
  stops_more Memory ends old mid new commands written sent words reply s did stops = front_more ends old mid new commands written sent words reply s did stops
  stops_more Ended ends old mid new commands written sent words reply s did stops = absurd stops
  stops_more Wire ends old mid new commands written sent words reply s did stops = absurd stops
  stops_more Cut ends old mid new commands written sent words reply s did stops = absurd stops
  stops_more ReadFault ends old mid new commands written sent words reply s did stops = absurd stops
  stops_more Budget ends old mid new commands written sent words reply s did stops = absurd stops

  -- one more of them, at which the talk ends
  pub stops_among : (end : TalkEnd) (ends : Option Stop) (old mid new : S) (all done rest : List Command) (written sent : Bytes) (words : Command) (reply : Reply) → all ≡ done ++ words ∷ rest
      → AnswersAll (DoesAll does) None old done mid written → does mid words reply ends new → StopsReply end ends (wire reply) sent → StopsAt does end old (take (length (done ++ words ∷ [])) all) new (written ++ sent)
  stops_among end ends old mid new all done rest written sent words reply is s did stops =
      subst (λ commands. StopsAt does end old commands new (written ++ sent)) (first_ones all (done ++ words ∷ []) rest (is ∙ sym (append_assoc done (words ∷ []) rest)))
      (stops_more end ends old mid new done written sent words reply s did stops)

  -- ## A series of commands

  pub none_done : (s : S) (commands : List Command) (taken : Option Bytes) → AnsweredSome does s commands s commands (Ok tt) taken taken
  none_done s commands taken = record {
    done = [];
    replies = [];
    ends = None;
    front = refl;
    did = does_nothing does s;
    heard = λ lost. cc lost;
    sent = (refl, takes_nothing taken);
    stopped = tt;
  }

  -- a series more, none of which stops the talk
  pub serves_series : (ends : Option Stop) (old mid new : S) (commands more : List Command) (written : Bytes) (replies : List Reply) → AnswersAll (DoesAll does) None old commands mid written → DoesAll does mid more replies new ends → ends ≡ None
      → AnswersAll (DoesAll does) None old (commands ++ more) new (written ++ joined (map wire replies))
  serves_series ends old mid new commands more written replies s did is =
      serves_on None old mid new commands more written (joined (map wire replies)) s (serves_text None mid new more replies (joined (map wire replies)) (subst (λ e. DoesAll does mid more replies new e) is did) refl)

  whole_series : (ends x : Option Stop) (old mid new : S) (commands more : List Command) (written sent : Bytes) (replies : List Reply) → AnswersAll (DoesAll does) None old commands mid written → DoesAll does mid more replies new ends
      → ends ≡ x → sent ≡ joined (map wire replies) → AnswersAll (DoesAll does) x old (commands ++ more) new (written ++ sent)
  whole_series ends x old mid new commands more written sent replies s did is text =
      serves_on x old mid new commands more written sent s (serves_text x mid new more replies sent (subst (λ e. DoesAll does mid more replies new e) is did) text)

  front_series : (ends : Option Stop) (old mid new : S) (commands more : List Command) (written sent : Bytes) (replies : List Reply) → AnswersAll (DoesAll does) None old commands mid written → DoesAll does mid more replies new ends
      → IsFront sent (joined (map wire replies)) × IsHeard ends → AnswersFront does old (commands ++ more) new (written ++ sent)
  front_series ends old mid new commands more written sent replies s did f =
      let text = joined (map wire replies) in
      (ends, (written ++ text, whole_series ends ends old mid new commands more written text replies s did refl refl, front_on written sent text f.0, f.1))

  -- a series more, at whose last the talk ends, or at a reply of it that failed
  stops_series : (end : TalkEnd) (ends : Option Stop) (old mid new : S) (commands more : List Command) (written sent : Bytes) (replies : List Reply) → AnswersAll (DoesAll does) None old commands mid written → DoesAll does mid more replies new ends
      → IsHeard ends → StopsReply end ends (joined (map wire replies)) sent → StopsAt does end old (commands ++ more) new (written ++ sent)
  stops_series Quit ends old mid new commands more written sent replies s did h stops = whole_series ends (Some stop.Quit) old mid new commands more written sent replies s did stops.0 stops.1
  stops_series Shutdown ends old mid new commands more written sent replies s did h stops = whole_series ends (Some stop.Shutdown) old mid new commands more written sent replies s did stops.0 stops.1
  stops_series Lost ends old mid new commands more written sent replies s did h stops = absurd (h stops.0)
  stops_series WriteFault ends old mid new commands more written sent replies s did h stops = front_series ends old mid new commands more written sent replies s did stops
  stops_series Memory ends old mid new commands more written sent replies s did h stops = front_series ends old mid new commands more written sent replies s did stops
  stops_series Ended ends old mid new commands more written sent replies s did h stops = absurd stops
  stops_series Wire ends old mid new commands more written sent replies s did h stops = absurd stops
  stops_series Cut ends old mid new commands more written sent replies s did h stops = absurd stops
  stops_series ReadFault ends old mid new commands more written sent replies s did h stops = absurd stops
  stops_series Budget ends old mid new commands more written sent replies s did h stops = absurd stops

  pub stops_in_series : (end : TalkEnd) (ends : Option Stop) (old mid new : S) (all done more rest : List Command) (written sent : Bytes) (replies : List Reply) → all ≡ done ++ (more ++ rest)
      → AnswersAll (DoesAll does) None old done mid written → DoesAll does mid more replies new ends → IsHeard ends → StopsReply end ends (joined (map wire replies)) sent → StopsAt does end old (take (length (done ++ more)) all) new (written ++ sent)
  stops_in_series end ends old mid new all done more rest written sent replies is s did h stops =
      subst (λ commands. StopsAt does end old commands new (written ++ sent)) (first_ones all (done ++ more) rest (is ∙ sym (append_assoc done more rest)))
      (stops_series end ends old mid new done more written sent replies s did h stops)

  -- ## Due

  refuses_on : (old mid new : S) (commands others : List Command) (fault : WireFault) (before written : Bytes) → AnswersAll (DoesAll does) None old commands mid before → Refuses (DoesAll does) mid others fault new written
      → Refuses (DoesAll does) old (commands ++ others) fault new (before ++ written)
  refuses_on old mid new commands others fault before written s r =
      (before ++ r.0, serves_on None old mid new commands others before r.0 s r.1, ap (λ z. before ++ z) r.2 ∙ sym (append_assoc before r.0 (refusal fault)))

  due_on : (old mid new : S) (bytes piece rest : Bytes) (commands : List Command) (before whole : Bytes) → Reads bytes commands rest → AnswersAll (DoesAll does) None old commands mid before → Due (DoesAll does) mid (rest ++ piece) new whole
      → Due (DoesAll does) old (bytes ++ piece) new (before ++ whole)
  due_on old mid new bytes piece rest commands before whole reads s (inl d) =
      inl (commands ++ d.0, (d.1.0, (d.1.1.0, opens_on bytes piece rest d.1.0 commands d.0 reads.opens d.1.1.1, serves_on d.1.1.0 old mid new commands d.0 before whole s d.1.1.2, d.1.1.3)))
  due_on old mid new bytes piece rest commands before whole reads s (inr d) =
      inr (commands ++ d.0, (d.1.0, faulty_on bytes piece rest commands d.0 d.1.0 reads d.1.1, refuses_on old mid new commands d.0 d.1.0 before whole s d.1.2))

  due_front_on : (old mid new : S) (bytes piece rest : Bytes) (commands : List Command) (before written : Bytes) → Reads bytes commands rest → AnswersAll (DoesAll does) None old commands mid before
      → DueFront (DoesAll does) mid (rest ++ piece) new written → DueFront (DoesAll does) old (bytes ++ piece) new (before ++ written)
  due_front_on old mid new bytes piece rest commands before written reads s d = (before ++ d.0, due_on old mid new bytes piece rest commands before d.0 reads s d.1, front_on before written d.0 d.2)

  stops_on : (ends : Stop) (old mid new : S) (bytes piece rest : Bytes) (commands : List Command) (before written : Bytes) → Reads bytes commands rest → AnswersAll (DoesAll does) None old commands mid before
      → Stops (DoesAll does) mid ends (rest ++ piece) new written → Stops (DoesAll does) old ends (bytes ++ piece) new (before ++ written)
  stops_on ends old mid new bytes piece rest commands before written reads s q =
      (commands ++ q.0, (q.1.0, opens_on bytes piece rest q.1.0 commands q.0 reads.opens q.1.1, serves_on (Some ends) old mid new commands q.0 before written s q.1.2))

  loses_on : (old mid new : S) (commands others : List Command) (before written : Bytes) → AnswersAll (DoesAll does) None old commands mid before → LosesLast (DoesAll does) mid others new written
      → LosesLast (DoesAll does) old (commands ++ others) new (before ++ written)
  loses_on old mid new commands others before written s l = record {
    replies = s.replies ++ l.replies;
    last = l.last;
    answers = subst (λ replies. DoesAll does old (commands ++ others) replies new (Some stop.Lost)) (sym (append_assoc s.replies l.replies (l.last ∷ [])))
        (does_on does old mid new commands others s.replies (l.replies ++ l.last ∷ []) (Some stop.Lost) s.answers l.answers);
    text = ap (λ z. z ++ written) s.text ∙ ap (λ z. joined (map wire s.replies) ++ z) l.text ∙ sym (joined-append (map wire s.replies) (map wire l.replies)) ∙ ap joined (sym (map-append wire s.replies l.replies));
  }

  -- What a piece brings to an end, for the whole stream.
  pub ends_on : (old mid new : S) (end : TalkEnd) (bytes piece rest : Bytes) (commands : List Command) (before written : Bytes) (left : Option Bytes) → IsPieceEnd end → Reads bytes commands rest → AnswersAll (DoesAll does) None old commands mid before
      → Ends (DoesAll does) mid end (rest ++ piece) left new written → Ends (DoesAll does) old end (bytes ++ piece) left new (before ++ written)
  ends_on old mid new Quit bytes piece rest commands before written left stops reads s e = stops_on stop.Quit old mid new bytes piece rest commands before written reads s e
  ends_on old mid new Shutdown bytes piece rest commands before written left stops reads s e = stops_on stop.Shutdown old mid new bytes piece rest commands before written reads s e
  ends_on old mid new Lost bytes piece rest commands before written left stops reads s e =
      (commands ++ e.0, (e.1.0, opens_on bytes piece rest e.1.0 commands e.0 reads.opens e.1.1, loses_on old mid new commands e.0 before written s e.1.2))
  ends_on old mid new Wire bytes piece rest commands before written left stops reads s e =
      (commands ++ e.0, (e.1.0, faulty_on bytes piece rest commands e.0 e.1.0 reads e.1.1, refuses_on old mid new commands e.0 e.1.0 before written s e.1.2))
  ends_on old mid new WriteFault bytes piece rest commands before written left stops reads s e = due_front_on old mid new bytes piece rest commands before written reads s e
  ends_on old mid new Memory bytes piece rest commands before written left stops reads s e = due_front_on old mid new bytes piece rest commands before written reads s e
  ends_on old mid new Ended bytes piece rest commands before written left stops reads s e = absurd stops
  ends_on old mid new Cut bytes piece rest commands before written left stops reads s e = absurd stops
  ends_on old mid new ReadFault bytes piece rest commands before written left stops reads s e = absurd stops
  ends_on old mid new Budget bytes piece rest commands before written left stops reads s e = absurd stops

  -- What the end of input brings.
  pub ends_at : (old new : S) (end : TalkEnd) (bytes rest : Bytes) (commands : List Command) (written : Bytes) (left : Option Bytes) → EndsAt end rest → Reads bytes commands rest → AnswersAll (DoesAll does) None old commands new written → IsAtEnd left
      → Ends (DoesAll does) old end bytes left new written
  ends_at old new Ended bytes rest commands written left at reads s none = (commands, subst (λ z. Reads bytes commands z) at reads, s, none)
  ends_at old new Cut bytes rest commands written left at reads s none = (commands, (rest, at, reads, s, none))
  ends_at old new Quit bytes rest commands written left at reads s none = absurd at
  ends_at old new Shutdown bytes rest commands written left at reads s none = absurd at
  ends_at old new Lost bytes rest commands written left at reads s none = absurd at
  ends_at old new Wire bytes rest commands written left at reads s none = absurd at
  ends_at old new ReadFault bytes rest commands written left at reads s none = absurd at
  ends_at old new WriteFault bytes rest commands written left at reads s none = absurd at
  ends_at old new Memory bytes rest commands written left at reads s none = absurd at
  ends_at old new Budget bytes rest commands written left at reads s none = absurd at

  -- ## A piece

  due_some : (old new : S) (bytes more : Bytes) (commands : List Command) (written : Bytes) → Opens bytes commands more → AnswersFront does old commands new written → DueFront (DoesAll does) old bytes new written
  due_some old new bytes more commands written opens s = (s.1.0, inl (commands, (more, (s.0, opens, s.1.1, s.1.3))), s.1.2)

  among : (old new : S) (end : TalkEnd) (bytes more : Bytes) (commands : List Command) (written : Bytes) → Opens bytes commands more → StopsAt does end old commands new written
      → IsPieceEnd end × ((left : Option Bytes) → Ends (DoesAll does) old end bytes left new written)
  among old new Quit bytes more commands written opens stops = (tt, λ left. (commands, (more, opens, stops)))
  among old new Shutdown bytes more commands written opens stops = (tt, λ left. (commands, (more, opens, stops)))
  among old new Lost bytes more commands written opens stops = (tt, λ left. (commands, (more, opens, stops)))
  among old new WriteFault bytes more commands written opens stops = (tt, λ left. due_some old new bytes more commands written opens stops)
  among old new Memory bytes more commands written opens stops = (tt, λ left. due_some old new bytes more commands written opens stops)
  among old new Ended bytes more commands written opens stops = absurd stops
  among old new Wire bytes more commands written opens stops = absurd stops
  among old new Cut bytes more commands written opens stops = absurd stops
  among old new ReadFault bytes more commands written opens stops = absurd stops
  among old new Budget bytes more commands written opens stops = absurd stops

  -- What the last of the commands that were done brings.
  pub ends_among : (old new : S) (end : TalkEnd) (bytes rest : Bytes) (commands : List Command) (count : ℕ) (written : Bytes) → Opens bytes commands rest → StopsAt does end old (take count commands) new written
      → IsPieceEnd end × ((left : Option Bytes) → Ends (DoesAll does) old end bytes left new written)
  ends_among old new end bytes rest commands count written opens stops =
      let fewer = opens_fewer bytes commands rest count opens in among old new end bytes fewer.0 (take count commands) written fewer.1 stops

  -- What a fault of the reader brings.
  pub ends_fault : (old new : S) (fault : WireFault) (end : TalkEnd) (bytes : Bytes) (commands : List Command) (first mid last : Option Bytes) (served : Bytes) → ReaderStops bytes commands fault → AnswersAll (DoesAll does) None old commands new served
      → Takes first served mid → Stopped fault end mid last → IsPieceEnd end × ((written : Bytes) × Takes first written last × ((left : Option Bytes) → Ends (DoesAll does) old end bytes left new written))
  ends_fault old new fault end bytes commands first mid last served stops s took (inl m) =
      subst (λ end. IsPieceEnd end × ((written : Bytes) × Takes first written last × ((left : Option Bytes) → Ends (DoesAll does) old end bytes left new written))) (sym m.1) (
        tt,
        (
          served,
          subst (λ z. Takes first z last) (append-nil served) (takes_more first served mid [] last took m.2),
          λ left. (served, inl (commands, (stops.rest, (None, stops.opens, s, λ lost. cc lost))), ([], sym (append-nil served))),
        ),
      )
  ends_fault old new fault Wire bytes commands first mid last served stops s took (inr m) = (
    tt,
    (
      served ++ refusal fault,
      takes_more first served mid (refusal fault) last took m.1,
      λ left. (commands, (fault, stops.faulty m.0, (served, s, refl))),
    ),
  )
  ends_fault old new fault WriteFault bytes commands first mid last served stops s took (inr m) = (
    tt,
    (
      served ++ m.1.0,
      takes_more first served mid m.1.0 last took m.1.2,
      λ left. (served ++ refusal fault, inr (commands, (fault, stops.faulty m.0, (served, s, refl))), front_on served m.1.0 (refusal fault) m.1.1),
    ),
  )
  ends_fault old new fault Memory bytes commands first mid last served stops s took (inr m) = (
    tt,
    (
      served ++ m.1.0,
      takes_more first served mid m.1.0 last took m.1.2,
      λ left. (served ++ refusal fault, inr (commands, (fault, stops.faulty m.0, (served, s, refl))), front_on served m.1.0 (refusal fault) m.1.1),
    ),
  )
  ends_fault old new fault Ended bytes commands first mid last served stops s took (inr m) = absurd m.1
  ends_fault old new fault Quit bytes commands first mid last served stops s took (inr m) = absurd m.1
  ends_fault old new fault Shutdown bytes commands first mid last served stops s took (inr m) = absurd m.1
  ends_fault old new fault Lost bytes commands first mid last served stops s took (inr m) = absurd m.1
  ends_fault old new fault Cut bytes commands first mid last served stops s took (inr m) = absurd m.1
  ends_fault old new fault ReadFault bytes commands first mid last served stops s took (inr m) = absurd m.1
  ends_fault old new fault Budget bytes commands first mid last served stops s took (inr m) = absurd m.1
