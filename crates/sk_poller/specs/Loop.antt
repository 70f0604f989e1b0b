-- Periodic jobs.
use Rattle.std.specs.Prelude.{ℕ, ◌&&◌, Bool, true, List, [], None}
use Rattle.sk_base.specs.Name.{is_name}
use Rattle.sk_base.specs.declared.limits.TheConstants.{LONGEST_NAME}
use Rattle.sk_resp.specs.Spelling.{Bytes}
use Rattle.sk_client.specs.Jid.{jid_of_words}
use Rattle.sk_payload.specs.Draft.{draft_text}
use Rattle.sk_payload.specs.declared.draft.JobDraft.{JobDraft}
use Rattle.sk_payload.specs.declared.head.Retry.TheVariants.{Default}
use Rattle.sk_poller.specs.declared.poller.Loop.{Loop}

-- Its name, its class and its queue are names.
unfoldable pub is_loop : Loop → Bool
is_loop l = is_name LONGEST_NAME l.name && is_name LONGEST_NAME l.class && is_name LONGEST_NAME l.queue

-- the loop at hand, and those behind it
pub record Remaining : Type 0 where
  pub first : Loop
  pub rest : List Loop

-- the draft of the job that is pushed for a slot: without arguments, made now
abbrev pub draft_of : Loop → Bytes → ℕ → JobDraft
draft_of l jid now_ = record {
  jid = jid;
  class = l.class;
  queue = l.queue;
  args = [];
  retry = Default;
  retry_for = None;
  bid = None;
  lock = None;
  dead = true;
  created = now_;
}

-- its text, with the id that two words of the dice make
abbrev pub job_text : Loop → ℕ → ℕ → ℕ → Bytes
job_text l first second now_ = draft_text (draft_of l (jid_of_words first second) now_)
