-- How a run over a door is told by its parts.
use Rattle.std.proofs.Common.{◌≡◌, false, List, [], ◌∷◌, Result, Ok, Err, subst, sym}
use Rattle.std.specs.Prelude.{IfOk}
use Rattle.sk_base.specs.Outside.{Rose}
use Rattle.sk_edge.specs.Collected.{Keeps, MakesRoom}
use Rattle.sk_edge.specs.Doors.{GivesFirst}
use Rattle.sk_link.specs.Call.{Call}
use Rattle.sk_link.specs.Wire.{WireState}
use Rattle.sk_link.specs.declared.link.LinkFault.{LinkFault}
use Rattle.sk_resp.specs.Spelling.{Bytes}
use Rattle.sk_resp.specs.declared.reply.Reply.{Reply}
use Rattle.sk_worker.specs.declared.job.Outcome.{Outcome}
use Rattle.sk_relay.specs.Relaying.{DoorTells, RunsBy, asked, closed, outcome_by, unreachable}

module _ {Conn E : Type 0} (before : DoorTells Conn) (Carries : WireState Conn → WireState Conn → List Call → Type 0) (request : List Bytes) where
  -- the door gave no connection
  pub nobody : (after : DoorTells Conn) (r : Result Outcome E) → Rose before.faults after.faults → IfOk r (λ o. o ≡ unreachable) →
      IfOk r (RunsBy before after Carries request)
  nobody after (Ok o) rose is = subst (λ x. RunsBy before after Carries request x) (sym is) (closed rose)
  nobody after (Err e) rose is = tt

  -- the request was carried over a connection, which was left to the door
  pub carried : (mid after : DoorTells Conn) (conn conn' : Conn) (first end : WireState Conn) (sent : List Bytes) (came : Result Reply LinkFault)
      (r : Result Outcome E) → GivesFirst before.dialled conn mid.dialled → MakesRoom before.kept 1 mid.kept →
      first ≡ record { conn = conn; pending = []; ended = false } → sent ≡ request →
      Carries first end (record { request = sent; reply = came } ∷ []) → conn' ≡ end.conn → Keeps mid.kept (conn' ∷ []) after.kept →
      after.dialled ≡ mid.dialled → IfOk r (λ o. o ≡ outcome_by came) → IfOk r (RunsBy before after Carries request)
  carried mid after conn conn' first end sent came (Err e) given made fresh asks carries same left told is = tt
  carried mid after conn conn' first end sent came (Ok o) given made fresh asks carries same left told is =
      subst (λ x. RunsBy before after Carries request x) (sym is) (asked conn end came
      (record {
        given = subst (λ conns. GivesFirst before.dialled conn conns) (sym told) given;
        room = mid.kept;
        made = made;
        left = subst (λ c. Keeps mid.kept (c ∷ []) after.kept) same left;
      })
      (subst (λ s. Carries s end (record { request = request; reply = came } ∷ [])) fresh (subst (λ words. Carries first end (record { request = words; reply = came } ∷ [])) asks carries)))
