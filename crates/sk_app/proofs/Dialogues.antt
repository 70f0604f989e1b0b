-- Dialogues with the store.
use Rattle.std.proofs.Common.{◌≡◌, [], ◌∷◌, Result, Ok, Err, inl, inr, refl, subst, sym, ◌⊎◌}
use Rattle.std.specs.Result.{IsErrAnd}
use Rattle.sk_base.specs.Outside.{Rose}
use Rattle.sk_resp.specs.Spelling.{Bytes}
use Rattle.sk_edge.specs.Collected.{Keeps, MakesRoom}
use Rattle.sk_edge.specs.Doors.{GivesFirst}
use Rattle.sk_edge.specs.declared.door.DoorFault.{DoorFault}
use Rattle.sk_edge.specs.declared.door.DoorFault.TheVariants as door
use Rattle.sk_link.specs.Wire.{WireState}
use Rattle.sk_app.specs.Dialogue.{Dialogue, DoorTells, closed, fresh, held, starved}
use Rattle.sk_app.specs.Failures.{by_door}
use Rattle.sk_app.specs.declared.failure.Failure.{Failure}
use Rattle.sk_app.specs.declared.failure.Failure.TheVariants.{Memory}

-- the door gave no connection
pub no_connection : {Conn : Type 0} (before after : DoorTells Conn) (Says : WireState Conn → WireState Conn → Result Bytes Failure → Type 0) (f : DoorFault) (r : Result Bytes Failure)
    → IsErrAnd r (λ e. e ≡ by_door f) → (f ≡ door.Failed → Rose before.faults after.faults) → Dialogue before after Says r
no_connection before after Says f (Ok output) h cause = absurd h
no_connection before after Says door.Failed (Err e) h cause = subst (λ x. Dialogue before after Says (Err x)) (sym h) (closed (cause refl))
no_connection before after Says door.Memory (Err e) h cause = subst (λ x. Dialogue before after Says (Err x)) (sym h) starved

-- something was said over a link, or there was no memory, and the connection was left
pub spoken : {Conn : Type 0} (before mid after : DoorTells Conn) (Says : WireState Conn → WireState Conn → Result Bytes Failure → Type 0) (conn conn' : Conn) (first link : WireState Conn) (r : Result Bytes Failure)
    → GivesFirst before.dialled conn mid.dialled → MakesRoom before.kept 1 mid.kept → first ≡ fresh conn → (r ≡ Err Memory) ⊎ Says first link r
    → conn' ≡ link.conn → Keeps mid.kept (conn' ∷ []) after.kept → after.dialled ≡ mid.dialled → Dialogue before after Says r
spoken before mid after Says conn conn' first link r given made is (inl e) same left told = subst (λ x. Dialogue before after Says x) (sym e) starved
spoken before mid after Says conn conn' first link r given made is (inr said) same left told =
    held conn link r
    (record {
      given = subst (λ conns. GivesFirst before.dialled conn conns) (sym told) given;
      room = mid.kept;
      made = made;
      left = subst (λ c. Keeps mid.kept (c ∷ []) after.kept) same left;
    })
    (subst (λ l. Says l link r) is said)
