-- A talk over one relation, told over another that follows from it.
use Rattle.std.proofs.Common.{List, [], ◌∷◌, ◌++◌, Option, None, Some, inl, inr}
use Rattle.sk_resp.specs.Spelling.{Bytes}
use Rattle.sk_resp.specs.Request.{Command}
use Rattle.sk_resp.specs.declared.reply.Reply.{Reply}
use Rattle.sk_talk.specs.declared.talk_end.Stop.{Stop}
use Rattle.sk_talk.specs.declared.talk_end.Stop.TheVariants as stop
use Rattle.sk_talk.specs.declared.talk_end.TalkEnd.{TalkEnd}
use Rattle.sk_talk.specs.declared.talk_end.TalkEnd.TheVariants.{Ended, Quit, Shutdown, Lost, Wire, Cut, ReadFault, WriteFault, Memory, Budget}
use Rattle.sk_talk.specs.Talk.{AnswersAll, Due, DueFront, Ends}

module _ {S U : Type 0} (A : S → List Command → List Reply → S → Option Stop → Type 0) (B : U → List Command → List Reply → U → Option Stop → Type 0) (old new : S) (old' new' : U)
    (follows : (commands : List Command) (replies : List Reply) (stop : Option Stop) → A old commands replies new stop → B old' commands replies new' stop) where
  serves_map : (stop : Option Stop) (commands : List Command) (written : Bytes) → AnswersAll A stop old commands new written → AnswersAll B stop old' commands new' written
  serves_map stop commands written s = record { replies = s.replies; answers = follows commands s.replies stop s.answers; text = s.text }

  due_map : (bytes whole : Bytes) → Due A old bytes new whole → Due B old' bytes new' whole
  due_map bytes whole (inl d) = inl (d.0, (d.1.0, (d.1.1.0, d.1.1.1, serves_map d.1.1.0 d.0 whole d.1.1.2, d.1.1.3)))
  due_map bytes whole (inr d) = inr (d.0, (d.1.0, d.1.1, (d.1.2.0, serves_map None d.0 d.1.2.0 d.1.2.1, d.1.2.2)))

  due_front_map : (bytes written : Bytes) → DueFront A old bytes new written → DueFront B old' bytes new' written
  due_front_map bytes written d = (d.0, due_map bytes d.0 d.1, d.2)

  pub ends_map : (end : TalkEnd) (bytes : Bytes) (left : Option Bytes) (written : Bytes) → Ends A old end bytes left new written → Ends B old' end bytes left new' written
  ends_map Ended bytes left written e = (e.0, e.1, serves_map None e.0 written e.2, e.3)
  ends_map Quit bytes left written e = (e.0, (e.1.0, e.1.1, serves_map (Some stop.Quit) e.0 written e.1.2))
  ends_map Shutdown bytes left written e = (e.0, (e.1.0, e.1.1, serves_map (Some stop.Shutdown) e.0 written e.1.2))
  ends_map Lost bytes left written e =
      let l = e.1.2 in (e.0, (e.1.0, e.1.1, record { replies = l.replies; last = l.last; answers = follows e.0 (l.replies ++ l.last ∷ []) (Some stop.Lost) l.answers; text = l.text }))
  ends_map Cut bytes left written e = (e.0, (e.1.0, e.1.1, e.1.2, serves_map None e.0 written e.1.3, e.1.4))
  ends_map Wire bytes left written e = (e.0, (e.1.0, e.1.1, (e.1.2.0, serves_map None e.0 e.1.2.0 e.1.2.1, e.1.2.2)))
  ends_map ReadFault bytes left written e = (e.0, (e.1.0, e.1.1, serves_map None e.0 written e.1.2))
  ends_map Budget bytes left written e = (e.0, (e.1.0, e.1.1, serves_map None e.0 written e.1.2, e.1.3))
  ends_map WriteFault bytes left written e = due_front_map bytes written e
  ends_map Memory bytes left written e = due_front_map bytes written e

-- ## What the commands came to, whatever the end

some_served : {S : Type 0} (A : S → List Command → List Reply → S → Option Stop → Type 0) (stop : Option Stop) (old : S) (commands : List Command) (new : S) (written : Bytes) → AnswersAll A stop old commands new written
    → (commands : List Command) × ((replies : List Reply) × ((ends : Option Stop) × A old commands replies new ends))
some_served A stop old commands new written s = (commands, (s.replies, (stop, s.answers)))

some_due : {S : Type 0} (A : S → List Command → List Reply → S → Option Stop → Type 0) (old new : S) (bytes whole : Bytes) → Due A old bytes new whole
    → (commands : List Command) × ((replies : List Reply) × ((ends : Option Stop) × A old commands replies new ends))
some_due A old new bytes whole (inl d) = some_served A d.1.1.0 old d.0 new whole d.1.1.2
some_due A old new bytes whole (inr d) = some_served A None old d.0 new d.1.2.0 d.1.2.1

pub some_of : {S : Type 0} (A : S → List Command → List Reply → S → Option Stop → Type 0) (old new : S) (end : TalkEnd) (bytes : Bytes) (left : Option Bytes) (written : Bytes) → Ends A old end bytes left new written
    → (commands : List Command) × ((replies : List Reply) × ((ends : Option Stop) × A old commands replies new ends))
some_of A old new Ended bytes left written e = some_served A None old e.0 new written e.2
some_of A old new Quit bytes left written e = some_served A (Some stop.Quit) old e.0 new written e.1.2
some_of A old new Shutdown bytes left written e = some_served A (Some stop.Shutdown) old e.0 new written e.1.2
some_of A old new Lost bytes left written e = let l = e.1.2 in (e.0, (l.replies ++ l.last ∷ [], (Some stop.Lost, l.answers)))
some_of A old new Cut bytes left written e = some_served A None old e.0 new written e.1.3
some_of A old new Wire bytes left written e = some_served A None old e.0 new e.1.2.0 e.1.2.1
some_of A old new ReadFault bytes left written e = some_served A None old e.0 new written e.1.2
some_of A old new Budget bytes left written e = some_served A None old e.0 new written e.1.2
some_of A old new WriteFault bytes left written e = some_due A old new bytes e.0 e.1
some_of A old new Memory bytes left written e = some_due A old new bytes e.0 e.1
