use Rattle.std.proofs.Common.{◌++◌, sym, ap, ◌∙◌}
use Rattle.sk_resp.specs.Spelling.{Bytes, joined}
use Rattle.sk_status.specs.Page.{first_lines, last_lines, queue_lines}
use Rattle.sk_status.proofs.Joined.{joined_three}
use Rattle.sk_status.proofs.numbers.page.Goals as goal

pub returns : goal.returns
returns c =
    let n = c.args.n.now in
    let first = c.in_ok-write_first.ensures ∙ ap (λ (o : Bytes). o ++ joined (first_lines n)) c.new-out.ensures.items in
    let queues = c.in_ok-write_queues.ensures ∙ ap (λ (o : Bytes). o ++ joined (queue_lines n.queues)) first in
    c.in_ok-write_last.ensures ∙ ap (λ (o : Bytes). o ++ joined (last_lines n)) queues ∙ sym (joined_three (first_lines n) (queue_lines n.queues) (last_lines n))
