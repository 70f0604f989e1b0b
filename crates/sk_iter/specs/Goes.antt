-- Calls of `iterate` in a run of the store: their requests are events of the run, in order, and no other event may write the cursor of the job.
use Rattle.std.specs.Prelude.{◌≡◌, ◌⊎◌, ◌++◌, ◌∷◌, [], true, List, Result, Ok, Err}
use Rattle.std.specs.Result.{is_err}
use Rattle.sk_resp.specs.Spelling.{Bytes}
use Rattle.sk_resp.specs.Reply.{wire}
use Rattle.sk_resp.specs.declared.reply.Reply.{Reply}
use Rattle.sk_resp.specs.declared.reply.Reply.TheVariants as reply
use Rattle.sk_model.specs.Event.{Ask, Cut, Run, Step}
use Rattle.sk_model.specs.Event.{Event as StoreEvent}
use Rattle.sk_model.specs.Outcome.{Outcome}
use Rattle.sk_model.specs.World.{first}
use Rattle.sk_model.specs.declared.limits.Limits.{Limits}
use Rattle.sk_link.specs.Call.{Call}
use Rattle.sk_link.specs.declared.link.LinkFault.{LinkFault}
use Rattle.sk_iter.specs.Calls.{IsCallOn, IterCall}
use Rattle.sk_iter.specs.Event.{calls}
use Rattle.sk_iter.specs.Request.{key_of}
use Rattle.sk_iter.specs.Writes.{IsOther}

-- ## Events of the run

-- The reply that the store gave, as it came over the link: a fixed text by its bytes, and else the same.
abbrev pub CameAs : Reply → Reply → Type 0
CameAs (reply.Say s) came = wire came ≡ wire (reply.Say s)
CameAs given came = came ≡ given

-- A request that was lost may have any reply.
abbrev pub IsReply : Reply → Result Reply LinkFault → Type 0
IsReply given (Ok came) = CameAs given came
IsReply given (Err f) = Unit {0}

-- The event is this request of a link, and was answered so.
abbrev pub IsRequest : Call → StoreEvent → Outcome → Type 0
IsRequest call (Ask seat now_ words) o = (words ≡ call.request) × IsReply o.reply call.reply
IsRequest call (Cut seat) o = ⊥

-- ## Calls among them

-- The steps have these requests, in order, and no other event among them may write the key.
abbrev pub Merges : Bytes → List Call → List Step → Type 0
Merges key calls [] = calls ≡ []
Merges key [] (step ∷ steps) = IsOther key step.event × Merges key [] steps
Merges key (call ∷ calls) (step ∷ steps) =
    (IsOther key step.event × Merges key (call ∷ calls) steps) ⊎ (IsRequest call step.event step.outcome × Merges key calls steps)

-- The store took these calls: all, but for some that were lost.
abbrev pub Took : List Call → List Call → Type 0
Took [] taken = taken ≡ []
Took (call ∷ calls) taken =
    ((rest : List Call) × (taken ≡ call ∷ rest) × Took calls rest) ⊎ ((is_err call.reply ≡ true) × Took calls taken)

-- A call on the job goes through the steps.
pub record GoesOnce (jid : Bytes) (call : IterCall) (steps : List Step) : Type 0 where
  pub is_call : IsCallOn jid call
  pub taken : List Call
  pub took : Took (calls call.events) taken
  pub merges : Merges (key_of jid) taken steps

-- The calls go through the steps, one after another.
abbrev pub GoesThrough : Bytes → List IterCall → List Step → Type 0
GoesThrough jid [] steps = Merges (key_of jid) [] steps
GoesThrough jid (call ∷ more) steps =
    (mine rest : List Step) × (steps ≡ mine ++ rest) × GoesOnce jid call mine × GoesThrough jid more rest

-- They do so in a run of the store from its first moment on.
pub record Goes (limits : Limits) (steps : List Step) (calls : List IterCall) (jid : Bytes) : Type 0 where
  pub run : Run (first limits) steps
  pub through : GoesThrough jid calls steps
