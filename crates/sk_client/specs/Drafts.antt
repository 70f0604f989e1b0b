-- The texts of many drafts, and the first draft that has none.
use Rattle.std.specs.Prelude.{◌≡◌, ◌≢◌, List, [], ◌∷◌, map, Option, Some, None}
use Rattle.std.specs.Option.{option_or}
use Rattle.sk_resp.specs.Spelling.{Bytes}
use Rattle.sk_payload.specs.Draft.{draft_text, draft_fault}
use Rattle.sk_payload.specs.declared.draft.JobDraft.{JobDraft}
use Rattle.sk_payload.specs.declared.draft_fault.DraftFault.{DraftFault}
use Rattle.sk_payload.specs.declared.draft_fault.DraftFault.TheVariants as draft_

-- the text of each
abbrev pub texts : List JobDraft → List Bytes
texts drafts = map draft_text drafts

-- why the first of them that can't be built has no text
abbrev pub first_fault : List JobDraft → Option DraftFault
first_fault [] = None
first_fault (draft ∷ drafts) = option_or (draft_fault draft) (first_fault drafts)

-- Each of them can be built.
abbrev pub AreBuilt : List JobDraft → Type 0
AreBuilt drafts = first_fault drafts ≡ None

-- It is the fault of the first of them that can't be built. Want of memory is the fault of no draft.
abbrev pub IsFirstFault : List JobDraft → DraftFault → Type 0
IsFirstFault drafts fault = fault ≢ draft_.Memory → first_fault drafts ≡ Some fault
