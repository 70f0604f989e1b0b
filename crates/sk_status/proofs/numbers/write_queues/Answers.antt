use Rattle.std.proofs.Common.{◌≡◌, ◌+◌, ℕ, List, [], ◌∷◌, ◌++◌, take, sym, ap, ◌∙◌, append_assoc}
use Rattle.std.proofs.lemmas.List.{take_more}
use Rattle.sk_resp.specs.Spelling.{Bytes, joined}
use Rattle.sk_status.specs.Page.{queue_line, queue_lines}
use Rattle.sk_status.proofs.Joined.{queues_more}
use Rattle.sk_status.proofs.numbers.write_queues.Goals as goal

pub loop-name-preserved : goal.loop-name-preserved
loop-name-preserved c =
    let i = c.loop-name.name-index in
    let xs = c.list-name-items.result.now in
    let x = c.loop-name-item.result in
    let before = c.args.out.now.items in
    let more : take (i + 1) xs ≡ take i xs ++ x ∷ [] = take_more xs i x c.loop-name-test.true ∙ ap (λ (y : Bytes × ℕ). take i xs ++ y ∷ []) (sym c.loop-name-item.is) in
    let wrote : c.write_queue.new.out.items ≡ c.loop-name.out.items ++ queue_line x = c.in_ok-write_queue.ensures ∙ ap (λ (name : Bytes). c.loop-name.out.items ++ queue_line (name, x.1)) c.text.ensures in
    wrote ∙ ap (λ (o : Bytes). o ++ queue_line x) c.loop-name.invariant ∙ append_assoc before (joined (queue_lines (take i xs))) (queue_line x)
    ∙ ap (λ (t : Bytes). before ++ t) (sym (queues_more (take i xs) x) ∙ ap (λ (ys : List (Bytes × ℕ)). joined (queue_lines ys)) (sym more))
