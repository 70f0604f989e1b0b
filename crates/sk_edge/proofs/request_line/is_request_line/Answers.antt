use Rattle.sk_edge.specs.RequestLine.{Bytes, IsBeforeVersion}
use Rattle.sk_edge.proofs.Requests.{request_if}
use Rattle.sk_edge.proofs.request_line.is_request_line.Goals as goal

pub returns-in-Some : goal.returns-in-Some
returns-in-Some c =
    let before : IsBeforeVersion c.args.text.now c.in-Some.front.now = c.in-Some.ensures in
    rw c.is_some.ensures (request_if c.args.text.now c.in-Some.front.now c.find.result before c.find.ensures)

pub returns-in-None : goal.returns-in-None
returns-in-None c =
    let none : (front : Bytes) → IsBeforeVersion c.args.text.now front → ⊥ = c.in-None.ensures in
    (λ t. cc, λ r. absurd (none _ r.is))
