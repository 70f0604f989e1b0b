-- Drafts for one queue name it.
use Rattle.std.proofs.Common.{◌≡◌, ◌∙◌, sym, List, [], ◌∷◌, All, codes}
use Rattle.std.proofs.lemmas.List.Elements.{All-nil, All-head, All-weaker}
use Rattle.sk_resp.specs.Spelling.{Bytes}
use Rattle.sk_payload.specs.declared.draft.JobDraft.{JobDraft}
use Rattle.sk_client.specs.Bulk.{NameOneQueue}

abbrev pub IsFor : Bytes → JobDraft → Type 0
IsFor queue draft = draft.queue ≡ queue

-- Drafts for the queue default are for the queue that the first of them names.
pub one_queue : (drafts : List JobDraft) → All (IsFor (codes "default")) drafts → NameOneQueue drafts
one_queue [] all = All-nil (IsFor [])
one_queue (d ∷ ds) all =
    let head = All-head (IsFor (codes "default")) d ds all in
    All-weaker (IsFor (codes "default")) (IsFor d.queue) (λ draft e. e ∙ sym head) (d ∷ ds) all
