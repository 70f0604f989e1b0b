-- The texts of a load's jobs.
use Rattle.std.specs.Prelude.{ℕ, [], ◌++◌, length, drop, Option, Some, None, codes}
use Rattle.std.specs.Fmt.{decimal}
use Rattle.sk_resp.specs.Spelling.{Bytes}

-- a number in 24 digits: its own, and in front of them as many zeros as they leave
unfoldable pub jid_of : ℕ → Bytes
jid_of k = drop (length (decimal k)) (codes "000000000000000000000000") ++ decimal k

-- the member that names the job's batch, where it has one
abbrev pub bid_member : Option Bytes → Bytes
bid_member None = []
bid_member (Some bid) = codes "\"bid\":\"" ++ bid ++ codes "\","

-- the text of a job with this number, in a queue, and of a batch or of none
unfoldable pub job_text : ℕ → Bytes → Option Bytes → Bytes
job_text k queue bid =
    codes "{\"args\":[1]," ++ bid_member bid ++ codes "\"class\":\"Note\",\"created_at\":1700000000000,\"jid\":\"" ++ jid_of k
    ++ codes "\",\"queue\":\"" ++ queue ++ codes "\",\"retry\":true}"
