-- The status page, line by line.
use Rattle.std.specs.Prelude.{ℕ, List, [], ◌∷◌, ◌++◌, codes, map}
use Rattle.sk_resp.specs.Spelling.{Bytes, joined}
use Rattle.sk_status.specs.Line.{line}
use Rattle.sk_status.specs.declared.numbers.Numbers.{Numbers}

-- a queue and how many jobs wait there
abbrev pub queue_line : Bytes × ℕ → Bytes
queue_line queue = line (codes "queue " ++ queue.0) queue.1

abbrev pub first_lines : Numbers → List Bytes
first_lines n = line (codes "processed") n.processed ∷ line (codes "failed") n.failed ∷ line (codes "processes") n.processes ∷ []

abbrev pub queue_lines : List (Bytes × ℕ) → List Bytes
queue_lines queues = map queue_line queues

abbrev pub last_lines : Numbers → List Bytes
last_lines n =
    line (codes "busy") n.busy
    ∷ line (codes "scheduled") n.scheduled
    ∷ line (codes "retries") n.retries
    ∷ line (codes "dead") n.dead
    ∷ line (codes "batches") n.batches
    ∷ line (codes "live") n.live
    ∷ []

abbrev pub page_lines : Numbers → List Bytes
page_lines n = first_lines n ++ (queue_lines n.queues ++ last_lines n)

-- the page
abbrev pub page_text : Numbers → Bytes
page_text n = joined (page_lines n)
