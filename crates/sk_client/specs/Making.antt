-- How a request is made, word by word, and then sent. No public contract speaks of it.
use Rattle.std.specs.Prelude.{◌≡◌, ◌++◌, List, [], Result, Ok, Err}
use Rattle.sk_resp.specs.Spelling.{Bytes}
use Rattle.sk_link.specs.declared.asking.Answer.TheVariants.{Number}
use Rattle.sk_payload.specs.declared.draft.JobDraft.{JobDraft}
use Rattle.sk_client.specs.Drafts.{AreBuilt, IsFirstFault}
use Rattle.sk_client.specs.Push.{Push}
use Rattle.sk_client.specs.Requests.{lpush_words}
use Rattle.sk_client.specs.declared.client_fault.ClientFault.{ClientFault}
use Rattle.sk_client.specs.declared.client_fault.ClientFault.TheVariants as fault

-- The first draft that can't be built has that fault, or there was no memory.
abbrev pub NotBuilt : List JobDraft → ClientFault → Type 0
NotBuilt drafts (fault.Draft f) = IsFirstFault drafts f
NotBuilt drafts (fault.Link f) = ⊥
NotBuilt drafts (fault.Refused r) = ⊥
NotBuilt drafts (fault.Held jid) = ⊥
NotBuilt drafts fault.Memory = Unit {0}

-- The request was made, or why it wasn't.
abbrev pub Makes : Push → Result (List Bytes) ClientFault → Type 0
Makes push (Ok words) = (words ≡ push.words) × AreBuilt push.drafts
Makes push (Err f) = NotBuilt push.drafts f

-- The words grew by the texts of these drafts, or why they didn't.
abbrev pub Adds : List JobDraft → List Bytes → List Bytes → List Bytes → Result Unit ClientFault → Type 0
Adds drafts texts old new (Ok done) = (new ≡ old ++ texts) × AreBuilt drafts
Adds drafts texts old new (Err f) = NotBuilt drafts f

-- The fault is of no draft.
abbrev pub IsOfNoDraft : ClientFault → Type 0
IsOfNoDraft (fault.Draft f) = ⊥
IsOfNoDraft (fault.Link f) = Unit {0}
IsOfNoDraft (fault.Refused r) = Unit {0}
IsOfNoDraft (fault.Held jid) = Unit {0}
IsOfNoDraft fault.Memory = Unit {0}

-- `LPUSH queue:q text ..` of texts that are built
abbrev pub lpush_slice : Bytes → List Bytes → Push
lpush_slice queue slice = record { drafts = []; words = lpush_words queue slice; wanted = Number }
