-- Texts that are joined part by part.
use Rattle.std.proofs.Common.{◌≡◌, ℕ, List, [], ◌∷◌, ◌++◌, sym, ap, ◌∙◌, append_assoc}
use Rattle.std.proofs.lemmas.List.{append-nil}
use Rattle.sk_resp.specs.Spelling.{Bytes, joined}
use Rattle.sk_resp.proofs.ReplyOpens.{joined-append}
use Rattle.sk_status.specs.Page.{queue_line, queue_lines}

pub joined_both : (xs ys : List Bytes) → joined (xs ++ ys) ≡ joined xs ++ joined ys
joined_both xs ys = joined-append xs ys

pub joined_three : (xs ys zs : List Bytes) → joined (xs ++ (ys ++ zs)) ≡ (joined xs ++ joined ys) ++ joined zs
joined_three xs ys zs = joined-append xs (ys ++ zs) ∙ ap (λ text. joined xs ++ text) (joined-append ys zs) ∙ sym (append_assoc (joined xs) (joined ys) (joined zs))

-- one queue more
pub queues_more : (queues : List (Bytes × ℕ)) (queue : Bytes × ℕ) → joined (queue_lines (queues ++ queue ∷ [])) ≡ joined (queue_lines queues) ++ queue_line queue
queues_more [] queue = append-nil (queue_line queue)
queues_more (q ∷ queues) queue = ap (λ text. queue_line q ++ text) (queues_more queues queue) ∙ sym (append_assoc (queue_line q) (joined (queue_lines queues)) (queue_line queue))
