-- Which commands a body is read as.
use Rattle.std.proofs.Common.{arith, ◌≡◌, [], ◌∷◌, ◌++◌, ap, sym, ◌∙◌, subst, append-nil}
use Rattle.std.specs.Prelude.{codes}
use Rattle.std.specs.Fmt.{decimal}
use Rattle.std.proofs.lemmas.Fmt.{decimal_injective}
use Rattle.sk_resp.specs.Request.{Command, IsCommand, array}
use Rattle.sk_resp.specs.Stream.{Reads}
use Rattle.sk_resp.proofs.Fewer.{reads_nothing}
use Rattle.sk_resp.proofs.Readings.{command_then, reads-once}
use Rattle.sk_model.specs.Event.{Event, Ask, Cut}
use Rattle.sk_aof.specs.Bodies.{HasNumbers, MayStand, OneEvent, body_of, commands_of, numbered}
use Rattle.sk_aof.proofs.Sizes.{is_numbered}

-- one command, and nothing behind it
reads_one : (words : Command) → IsCommand words → Reads (array words) (words ∷ []) []
reads_one words is = subst (λ bytes. Reads bytes (words ∷ []) []) (append-nil (array words)) (command_then words [] [] [] is reads_nothing)

pub reads_body : (event : Event) → MayStand event → Reads (body_of event) (commands_of event) []
reads_body (Ask seat now words) may =
    let seat_is = is_numbered (codes "SK.AS") seat (omega arith) (omega (arith, may.0.0)) in
    let now_is = is_numbered (codes "SK.NOW") now (omega arith) (omega (arith, may.0.1)) in
    command_then (codes "SK.AS" ∷ decimal seat ∷ []) (numbered (codes "SK.NOW") now ++ array words) [] ((codes "SK.NOW" ∷ decimal now ∷ []) ∷ words ∷ []) seat_is
    (command_then (codes "SK.NOW" ∷ decimal now ∷ []) (array words) [] (words ∷ []) now_is (reads_one words may.1))
reads_body (Cut seat) may = reads_one (codes "SK.CUT" ∷ decimal seat ∷ []) (is_numbered (codes "SK.CUT") seat (omega arith) (omega (arith, may)))

pub same_event : (event other : Event) → HasNumbers event → HasNumbers other → commands_of event ≡ commands_of other → event ≡ other
same_event (Ask seat now words) (Ask seat' now' words') may may' same =
    ap (λ z. Ask z now words) (decimal_injective seat seat' (omega (arith, may.0)) (omega (arith, may'.0)) (cc same))
    ∙ ap (λ z. Ask seat' z words) (decimal_injective now now' (omega (arith, may.1)) (omega (arith, may'.1)) (cc same))
    ∙ ap (λ z. Ask seat' now' z) (cc same)
same_event (Ask seat now words) (Cut seat') may may' same = absurd (cc same)
same_event (Cut seat) (Ask seat' now' words') may may' same = absurd (cc same)
same_event (Cut seat) (Cut seat') may may' same = ap Cut (decimal_injective seat seat' (omega (arith, may)) (omega (arith, may')) (cc same))

pub numbers_of : (event : Event) → MayStand event → HasNumbers event
numbers_of (Ask seat now words) may = may.0
numbers_of (Cut seat) may = may

pub one_event : OneEvent
one_event event other may may' same =
    let as_read = subst (λ body. Reads body (commands_of other) []) (sym same) (reads_body other may') in
    same_event event other (numbers_of event may) (numbers_of other may') (reads-once (body_of event) (commands_of event) (commands_of other) [] [] (reads_body event may) as_read).0
