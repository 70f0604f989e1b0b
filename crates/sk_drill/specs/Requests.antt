-- The words of a load's commands.
use Rattle.std.specs.Prelude.{ℕ, ℤ, ◌+◌, ◌-◌, ◌%◌, List, [], ◌∷◌, ◌++◌, zero, suc, Some, None, codes}
use Rattle.std.specs.Fmt.{decimal}
use Rattle.sk_base.specs.Score.{score_text}
use Rattle.sk_resp.specs.Spelling.{Bytes}
use Rattle.sk_drill.specs.Jobs.{job_text}

-- the process whose poller speaks, and the other one
abbrev pub first_process : Bytes
first_process = codes "w:1:a"

abbrev pub second_process : Bytes
second_process = codes "w:2:b"

abbrev pub beat : Bytes → List Bytes
beat ident = codes "SK.BEAT" ∷ ident ∷ []

abbrev pub lead : Bytes → List Bytes
lead ident = codes "SK.LEAD" ∷ ident ∷ []

abbrev pub due : Bytes → List Bytes
due set = codes "SK.DUE" ∷ set ∷ codes "100" ∷ []

abbrev pub rescue : List Bytes
rescue = codes "SK.RESCUE" ∷ []

-- the job with this number, for the last start of a minute
abbrev pub cron : ℕ → ℕ → List Bytes
cron now k = codes "SK.CRON" ∷ codes "w:1:a" ∷ codes "tick" ∷ decimal (now - now % 60000) ∷ job_text k (codes "default") None ∷ []

abbrev pub queue_key : Bytes → Bytes
queue_key queue = codes "queue:" ++ queue

abbrev pub private_key : Bytes → Bytes
private_key ident = codes "sq:" ++ ident

-- one job, to its queue
abbrev pub push : ℕ → Bytes → List Bytes
push k queue = codes "LPUSH" ∷ queue_key queue ∷ job_text k queue None ∷ []

-- the jobs up to this number, from 1 on
unfoldable pub first_jobs : ℕ → List Bytes
first_jobs zero = []
first_jobs (suc k) = first_jobs k ++ job_text (suc k) (codes "default") None ∷ []

-- they go to the queue `default`
abbrev pub push_first : ℕ → List Bytes
push_first count = codes "LPUSH" ∷ codes "queue:default" ∷ first_jobs count

-- a batch of one job, with a callback of success
abbrev pub push_batch : Bytes → Bytes → ℕ → ℕ → List Bytes
push_batch bid parent success k =
    codes "SK.BPUSH" ∷ bid ∷ parent ∷ [] ∷ job_text success (codes "default") None ∷ [] ∷ job_text k (codes "default") (Some bid) ∷ []

abbrev pub join : Bytes → List Bytes
join ident = codes "SK.JOIN" ∷ ident ∷ []

abbrev pub fetch : Bytes → Bytes → List Bytes
fetch ident queue = codes "LMOVE" ∷ queue_key queue ∷ private_key ident ∷ codes "RIGHT" ∷ codes "LEFT" ∷ []

-- a script with a job's text, as `SK.OK text`
abbrev pub script : Bytes → Bytes → List Bytes
script name text = name ∷ text ∷ []

abbrev pub retry : ℤ → Bytes → List Bytes
retry score text = codes "ZADD" ∷ codes "retry" ∷ score_text score ∷ text ∷ []

abbrev pub release : Bytes → Bytes → List Bytes
release ident text = codes "LREM" ∷ private_key ident ∷ codes "1" ∷ text ∷ []
