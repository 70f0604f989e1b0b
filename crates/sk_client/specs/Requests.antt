-- The requests of a client, word by word.
use Rattle.std.specs.Prelude.{ℤ, List, [], ◌∷◌, ◌++◌, Option, codes, option_map, unwrap_or}
use Rattle.std.specs.Option.{option_to_list}
use Rattle.sk_base.specs.Score.{score_text}
use Rattle.sk_resp.specs.Spelling.{Bytes}
use Rattle.sk_payload.specs.Draft.{draft_text}
use Rattle.sk_link.specs.declared.asking.Answer.TheVariants.{Number, List as Array, Unique}
use Rattle.sk_payload.specs.declared.draft.JobDraft.{JobDraft}
use Rattle.sk_client.specs.Drafts.{texts}
use Rattle.sk_client.specs.Push.{Push}
use Rattle.sk_client.specs.declared.batch_draft.BatchDraft.{BatchDraft}

-- `LPUSH queue:q text ..`
abbrev pub lpush_words : Bytes → List Bytes → List Bytes
lpush_words queue texts = codes "LPUSH" ∷ (codes "queue:" ++ queue) ∷ texts

abbrev pub lpush : JobDraft → Push
lpush draft = record { drafts = draft ∷ []; words = lpush_words draft.queue (draft_text draft ∷ []); wanted = Number }

-- `ZADD schedule score text`
abbrev pub zadd : JobDraft → ℤ → Push
zadd draft at = record { drafts = draft ∷ []; words = codes "ZADD" ∷ codes "schedule" ∷ score_text at ∷ draft_text draft ∷ []; wanted = Number }

-- `SK.UPUSH text [score]`
abbrev pub upush : JobDraft → Option ℤ → Push
upush draft at = record { drafts = draft ∷ []; words = codes "SK.UPUSH" ∷ draft_text draft ∷ option_to_list (option_map score_text at); wanted = Unique }

-- the text of a callback, or an empty word
abbrev pub callback_word : Option JobDraft → Bytes
callback_word callback = unwrap_or (option_map draft_text callback) []

-- its callbacks and its jobs
abbrev pub drafts_of : BatchDraft → List JobDraft
drafts_of batch = option_to_list batch.complete ++ option_to_list batch.success ++ option_to_list batch.death ++ batch.jobs.items

-- `SK.BPUSH bid parent complete success death text ..`
abbrev pub bpush_words : BatchDraft → List Bytes
bpush_words batch =
    codes "SK.BPUSH" ∷ batch.bid ∷ unwrap_or batch.parent []
    ∷ callback_word batch.complete ∷ callback_word batch.success ∷ callback_word batch.death ∷ texts batch.jobs.items

abbrev pub bpush : BatchDraft → Push
bpush batch = record { drafts = drafts_of batch; words = bpush_words batch; wanted = Array }

-- `SK.BADD bid text ..`
abbrev pub badd : Bytes → List JobDraft → Push
badd bid jobs = record { drafts = jobs; words = codes "SK.BADD" ∷ bid ∷ texts jobs; wanted = Number }
