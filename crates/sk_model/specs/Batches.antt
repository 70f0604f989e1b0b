-- The commands on batches: SK.BPUSH, SK.BADD, SK.BSTAT (Sidekiq's wiki, "Batches").
use Rattle.std.specs.Prelude.{List, [], ◌∷◌, ◌++◌, Option, Some, None, Bool, true, false, not, ◌&&◌, cond, length}
use Rattle.std.specs.List.{list_all, filter_map}
use Rattle.std.specs.Option.{is_some}
use Rattle.std.specs.Str.{bytes_eq}
use Rattle.sk_base.specs.declared.limits.TheConstants.{LONGEST_ID}
use Rattle.sk_resp.specs.Spelling.{Bytes}
use Rattle.sk_resp.specs.Reply.{wire}
use Rattle.sk_resp.specs.declared.reply.Reply.TheVariants as reply
use Rattle.sk_resp.specs.declared.refusal.Refusal.TheVariants as refusal
use Rattle.sk_resp.specs.declared.say.Say.{Say}
use Rattle.sk_resp.specs.declared.say.Say.TheVariants as say
use Rattle.sk_payload.specs.Head.{head, jid_of}
use Rattle.sk_payload.specs.Member.{is_name}
use Rattle.sk_payload.specs.declared.head.Head.{Head}
use Rattle.sk_value.specs.Answer.{counted}
use Rattle.sk_batch.specs.Events.{made_fires}
use Rattle.sk_batch.specs.Faults.{bid_fault, batch_fault, jids_fault, breaks, is_full}
use Rattle.sk_batch.specs.Stat.{stat}
use Rattle.sk_batch.specs.declared.batch.Batch.{Batch}
use Rattle.sk_batch.specs.declared.batch_fault.BatchFault.{BatchFault}
use Rattle.sk_batch.specs.declared.batch_fault.BatchFault.TheVariants as fault
use Rattle.sk_batch.specs.declared.batch_stat.BatchStat.{BatchStat}
use Rattle.sk_batch.specs.declared.callbacks.Callbacks.{Callbacks}
use Rattle.sk_batch.specs.declared.firing.Firing.{Firing}
use Rattle.sk_places.specs.declared.origin.Origin.TheVariants.{Outside}
use Rattle.sk_model.specs.World.{World}
use Rattle.sk_model.specs.Change.{Change, Makes, Joins}
use Rattle.sk_model.specs.Outcome.{Outcome, tells, refuses}
use Rattle.sk_model.specs.Room.{is_too_much}
use Rattle.sk_model.specs.Notify.{push_job, fire_all, fired}

-- ## The words

-- an empty word is none
abbrev pub or_none : Bytes → Option Bytes
or_none [] = None
or_none (b ∷ bytes) = Some (b ∷ bytes)

abbrev pub batch_of : Bytes → Bytes → Bytes → Bytes → Bytes → Batch
batch_of bid parent complete success death = record {
  bid = bid;
  parent = or_none parent;
  callbacks = record { complete = or_none complete; success = or_none success; death = or_none death };
}

abbrev pub jids_of : List Bytes → List Bytes
jids_of texts = filter_map jid_of texts

-- ## Refusals

abbrev pub fault_say : BatchFault → Say
fault_say fault.NoBatch = say.Refused refusal.NoBatch
fault_say fault.RepeatedBid = say.Refused refusal.RepeatedBid
fault_say fault.Settled = say.Refused refusal.Settled
fault_say fault.RepeatedJid = say.Refused refusal.RepeatedJid
fault_say fault.Full = say.Refused refusal.Full
fault_say fault.Memory = say.Oom

-- a rule of the batches is broken, or else what comes after it
abbrev pub unless : Option BatchFault → Outcome → Outcome
unless None o = o
unless (Some fault) o = tells (fault_say fault)

-- the text of a member names its batch
abbrev pub is_batch : Bytes → Option Bytes → Bool
is_batch bid None = false
is_batch bid (Some other) = bytes_eq other bid

abbrev pub may_join : Bytes → Option Head → Bool
may_join bid None = false
may_join bid (Some h) = is_batch bid h.bid

abbrev pub all_may_join : Bytes → List Bytes → Bool
all_may_join bid texts = list_all (λ text. may_join bid (head text)) texts

-- a callback is a job of no batch, and without a lock
abbrev pub may_call : Option Head → Bool
may_call None = false
may_call (Some h) = not (is_some h.bid) && not (is_some h.lock)

abbrev pub is_callback : Option Bytes → Bool
is_callback None = true
is_callback (Some text) = may_call (head text)

abbrev pub are_callbacks : Callbacks → Bool
are_callbacks callbacks = is_callback callbacks.complete && (is_callback callbacks.success && is_callback callbacks.death)

-- ## SK.BPUSH

abbrev pub push_jobs : List Bytes → List Change
push_jobs [] = []
push_jobs (text ∷ texts) = push_job Outside text ++ push_jobs texts

-- the batch is made with its jobs, and they are pushed; without any it fires at once
abbrev pub make : Batch → List Bytes → Outcome
make batch texts =
    let firings : List Firing = made_fires batch (jids_of texts) in
    record { reply = fired firings; changes = Makes batch (jids_of texts) ∷ push_jobs texts ++ fire_all firings }

abbrev pub batch_push : World → Batch → List Bytes → Outcome
batch_push w batch texts =
    cond (not (is_name LONGEST_ID batch.bid)) (refuses refusal.NoBatch)
    (unless (bid_fault batch.bid batch.parent w.batches None)
    (cond (not (are_callbacks batch.callbacks && all_may_join batch.bid texts)) (refuses refusal.BadPayload)
    (unless (jids_fault batch.bid (jids_of texts) w.batches (breaks (is_full w.batches) fault.Full None))
    (cond (is_too_much w texts) (refuses refusal.Full)
    (make batch texts)))))

-- ## SK.BADD

abbrev pub join : Bytes → List Bytes → Outcome
join bid texts = record { reply = counted (length texts); changes = Joins bid (jids_of texts) ∷ push_jobs texts }

abbrev pub batch_add : World → Bytes → List Bytes → Outcome
batch_add w bid texts =
    unless (batch_fault bid w.batches None)
    (cond (not (all_may_join bid texts)) (refuses refusal.BadPayload)
    (unless (jids_fault bid (jids_of texts) w.batches None)
    (cond (is_too_much w texts) (refuses refusal.Full)
    (join bid texts))))

-- ## SK.BSTAT

-- its members; of its own those that haven't returned, and those that weren't reported; 1 where it died; and those under it that haven't returned
abbrev pub tells_stat : Option BatchStat → Outcome
tells_stat None = refuses refusal.NoBatch
tells_stat (Some s) = record {
  reply = reply.Array (wire (counted s.members) ∷ wire (counted s.pending) ∷ wire (counted s.unreported) ∷ wire (counted (cond s.died 1 0)) ∷ wire (counted s.pending_under) ∷ []);
  changes = [];
}

abbrev pub batch_stat : World → Bytes → Outcome
batch_stat w bid = tells_stat (stat bid w.batches)
