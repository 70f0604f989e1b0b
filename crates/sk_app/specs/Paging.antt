-- The program `status`.
use Rattle.std.specs.Prelude.{◌≡◌, List, [], ◌∷◌, Result, Ok, Err, codes}
use Rattle.sk_resp.specs.Spelling.{Bytes}
use Rattle.sk_resp.specs.declared.reply.Reply.{Reply}
use Rattle.sk_resp.specs.declared.reply.Reply.TheVariants as reply
use Rattle.sk_link.specs.Call.{Call, answered, lost}
use Rattle.sk_app.specs.Hindering.{IsSpoilt}
use Rattle.sk_app.specs.declared.failure.Failure.{Failure}
use Rattle.sk_app.specs.declared.failure.Failure.TheVariants as failure

-- `SK.STATUS`
abbrev pub status_words : List Bytes
status_words = codes "SK.STATUS" ∷ []

-- the page, where the reply is one
abbrev pub page_of : Reply → Result Bytes Failure
page_of (reply.Bulk page) = Ok page
page_of r = Err (failure.Refused r)

-- The link carried the request and a reply, which comes to the outcome; or the request was lost by its fault.
abbrev pub Asks : (List Call → Type 0) → Result Bytes Failure → Type 0
Asks Carried (Err (failure.Link f)) = Carried (lost status_words f ∷ [])
Asks Carried outcome = (r : Reply) × Carried (answered status_words r ∷ []) × (outcome ≡ page_of r)

-- The request was lost for another cause than want of memory, or its reply is no page.
abbrev pub IsPageSpoilt : (List Call → Type 0) → Type 0
IsPageSpoilt Carried = IsSpoilt Carried status_words (λ r. (page : Bytes) × (page_of r ≡ Ok page))
