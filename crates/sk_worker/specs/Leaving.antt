-- How a worker gives back what it holds, the oldest first: the stages, what is asked in each, and where each reply leads.
use Rattle.std.specs.Prelude.{◌≡◌, ◌+◌, ℕ, pos, Bool, true, false, List, [], ◌∷◌, Some, None, Result, Ok, Err, codes, map, if◌then◌else◌}
use Rattle.std.specs.Ordering.{int_eq}
use Rattle.sk_resp.specs.Spelling.{Bytes}
use Rattle.sk_resp.specs.declared.reply.Reply.{Reply}
use Rattle.sk_resp.specs.declared.reply.Reply.TheVariants as reply
use Rattle.sk_payload.specs.Head.{head}
use Rattle.sk_payload.specs.declared.head.Head.{Head}
use Rattle.sk_link.specs.Asking.{answers}
use Rattle.sk_link.specs.declared.asking.Answer.{Answer}
use Rattle.sk_link.specs.declared.asking.Answer.TheVariants as answer
use Rattle.sk_link.specs.Call.{Call, answered}
use Rattle.sk_worker.specs.Request.{script_words, release_words}
use Rattle.sk_worker.specs.Event.{Event, asked}
use Rattle.sk_link.specs.Walk.{Walk}
use Rattle.sk_worker.specs.Broken.{Broken}
use Rattle.sk_worker.specs.declared.turn.WorkFault.{WorkFault}
use Rattle.sk_worker.specs.declared.turn.WorkFault.TheVariants as fault

pub data LeaveStage : Type 0 where
  -- it holds these payloads, the oldest first, and gave so many back
  leaving : List Bytes → ℕ → LeaveStage
  -- this payload has no head and is buried; those are left
  buried : Bytes → List Bytes → ℕ → LeaveStage

-- `:1`: the job went back. `:0`: a rescue had taken it away.
abbrev pub given_back : Reply → ℕ
given_back (reply.Int n) = if int_eq n (pos 1) then 1 else 0
given_back r = 0

-- ## The table: stage, request, kind of answer, next stage

pub data LeaveLine (ident : Bytes) : LeaveStage → List Bytes → Answer → (Reply → LeaveStage) → Type 0 where
  back : (c : Bytes) (others : List Bytes) (count : ℕ) (h : Head) → head c ≡ Some h →
      LeaveLine ident (leaving (c ∷ others) count) (script_words (codes "SK.BACK") c) answer.Number (λ r. leaving others (count + given_back r))
  bury : (c : Bytes) (others : List Bytes) (count : ℕ) → head c ≡ None →
      LeaveLine ident (leaving (c ∷ others) count) (script_words (codes "SK.BURY") c) answer.Report (λ _. buried c others count)
  release : (c : Bytes) (others : List Bytes) (count : ℕ) →
      LeaveLine ident (buried c others count) (release_words ident c) answer.Number (λ _. leaving others count)

pub data LeaveStep (ident : Bytes) : LeaveStage → Event → LeaveStage → Type 0 where
  asks : (from : LeaveStage) (request : List Bytes) (wanted : Answer) (next : Reply → LeaveStage) (r : Reply) →
      LeaveLine ident from request wanted next → answers wanted r ≡ true →
      LeaveStep ident from (asked (answered request r)) (next r)

-- the payloads that weren't given back or released yet, the oldest first
abbrev pub in_hand : LeaveStage → List Bytes
in_hand (leaving payloads count) = payloads
in_hand (buried c others count) = c ∷ others

-- The events are those of leaving, from this stage on, with these payloads held then: to its end, where so many were given back and none is held, or
-- as far as they came.
abbrev pub LeaveTranscript : Bytes → LeaveStage → List Event → List Bytes → Result ℕ WorkFault → Type 0
LeaveTranscript ident from events held (Ok count) = Walk (LeaveStep ident) from events (leaving [] count) × (held ≡ [])
LeaveTranscript ident from events held (Err f) =
    (stage : LeaveStage) × Broken (LeaveLine ident) (LeaveStep ident) (λ _. ⊥) from events stage f × (held ≡ in_hand stage)

-- The events are those of one job that leaves, from this stage on: until only the others are held, with so many more given back, or as far as they
-- came, with the job and the others in hand.
abbrev pub BackTranscript : Bytes → LeaveStage → Bytes → List Bytes → ℕ → List Event → Result ℕ WorkFault → Type 0
BackTranscript ident from c others count events (Ok n) = Walk (LeaveStep ident) from events (leaving others (count + n))
BackTranscript ident from c others count events (Err f) =
    (stage : LeaveStage) × Broken (LeaveLine ident) (LeaveStep ident) (λ _. ⊥) from events stage f × (in_hand stage ≡ c ∷ others)

-- The link carried the calls by which one job leaves, whatever others are held, from the stage that it begins in.
abbrev pub GivesBack : (List Call → Type 0) → Bytes → Bytes → (List Bytes → ℕ → LeaveStage) → Result ℕ WorkFault → Type 0
GivesBack Carried ident c from result = (others : List Bytes) (count : ℕ) →
    (cs : List Call) × Carried cs × BackTranscript ident (from others count) c others count (map asked cs) result

-- The link carried the calls of leaving, from this stage on, with these payloads held then.
abbrev pub Leaves : (List Call → Type 0) → Bytes → LeaveStage → List Bytes → Result ℕ WorkFault → Type 0
Leaves Carried ident from held result = (cs : List Call) × Carried cs × LeaveTranscript ident from (map asked cs) held result

-- A worker that has ended does nothing where it leaves.
abbrev pub LeaveOf : (List Call → Type 0) → Bool → Bytes → List Bytes → List Bytes → Result ℕ WorkFault → Type 0
LeaveOf Carried true ident before after result = Carried [] × (after ≡ before) × (result ≡ Err fault.Ended)
LeaveOf Carried false ident before after result = Leaves Carried ident (leaving before 0) after result
