-- A pipe over a file that ends at a full one.
use Rattle.std.proofs.Common.{◌≡◌, inl, inr, ℕ, [], ◌∷◌, ◌++◌, subst}
use Rattle.std.specs.Prelude.{Option, None}
use Rattle.sk_disk.specs.Images.{Images}
use Rattle.sk_log.specs.declared.fault.LogFault.{LogFault}
use Rattle.sk_log.specs.declared.fault.LogFault.TheVariants.{Full}
use Rattle.sk_resp.specs.Spelling.{Bytes}
use Rattle.sk_model.specs.declared.limits.Limits.{Limits}
use Rattle.sk_model.specs.Run.{State}
use Rattle.sk_model.specs.World.{World}
use Rattle.sk_talk.specs.Talk.{Ends as TalkEnds}
use Rattle.sk_talk.specs.declared.talk_end.TalkEnd.{TalkEnd}
use Rattle.sk_aof.specs.Causes.{Hinders, fault_of}
use Rattle.sk_aof.specs.Cuts.{cut_bodies}
use Rattle.sk_aof.specs.Logging.{Place, place}
use Rattle.sk_aof.specs.Piping.{FillsUp, IsReady, StopsBefore}
use Rattle.sk_aof.specs.Stored.{bodies_in}
use Rattle.sk_aof.specs.Talking.{IsEnd, LogAnswers, LosesLast}
use Rattle.sk_aof.specs.declared.log_end.LogEnd.{LogEnd}
use Rattle.sk_aof.specs.declared.log_end.LogEnd.TheVariants.{Fault}
use Rattle.sk_aof.proofs.Appending.{more_appended}
use Rattle.sk_aof.proofs.Hindering.{lost_end}

module _ {D : Type 0} (reads may_leave : D → Images) (moment : D → ℕ) (left_since : D → ℕ → Images) (limits : Limits) (old : D) where
  -- at a cut
  pub full_before : (new : D) (why : LogFault) → StopsBefore reads may_leave moment left_since limits old new why → why ≡ Full → FillsUp reads may_leave moment left_since limits old
  full_before new why (inl (inl (only, room))) e = absurd (room e)
  full_before new why (inl (inr u)) e = record {
    store = (u.gate, u.world);
    disk = u.disk;
    begun = inr u.opened;
    bodies = cut_bodies u.stop.cuts.seats;
    gate = u.stop.gate;
    now = u.stop.disk;
    appends = u.stop.cuts.appends;
    next = cut_bodies (u.stop.seat ∷ []);
    too_long = subst (λ (f : LogFault). Hinders u.stop.gate (cut_bodies (u.stop.seat ∷ [])) f) e u.stop.cause;
  }
  full_before new why (inr (empty, is)) e = absurd (cc (is, e))

  module _ (store : ℕ × World) (disk : D) (state : State) where
    at_last : (commands : _) (replies : _) (new : Place D) → IsReady reads may_leave moment left_since limits old store disk → fault_of new.fault ≡ Full
        → LosesLast may_leave moment left_since (place state store.0 disk None) commands replies new → FillsUp reads may_leave moment left_since limits old
    at_last commands replies new (inl made) e l = record {
      store = store;
      disk = disk;
      begun = inl made;
      bodies = bodies_in l.logs.entries;
      gate = l.mid.gate;
      now = l.mid.disk;
      appends = l.logs.appends;
      next = bodies_in l.loses.entries;
      too_long = subst (λ (f : LogFault). Hinders l.mid.gate (bodies_in l.loses.entries) f) e (l.loses.cause l.logs.goes_on);
    }
    at_last commands replies new (inr r) e l = record {
      store = (r.gate, r.world);
      disk = r.disk;
      begun = inr r.opened;
      bodies = cut_bodies r.cuts.seats ++ bodies_in l.logs.entries;
      gate = l.mid.gate;
      now = l.mid.disk;
      appends = more_appended may_leave moment left_since (cut_bodies r.cuts.seats) (bodies_in l.logs.entries) r.gate r.disk store.0 disk r.cuts.appends l.mid.gate l.mid.disk l.logs.appends;
      next = bodies_in l.loses.entries;
      too_long = subst (λ (f : LogFault). Hinders l.mid.gate (bodies_in l.loses.entries) f) e (l.loses.cause l.logs.goes_on);
    }

    -- in the talk
    pub full_within : (how : TalkEnd) (new : Place D) (result : LogEnd) (bytes : Bytes) (left : Option Bytes) (written : Bytes) → IsReady reads may_leave moment left_since limits old store disk → IsEnd how new.fault result
        → TalkEnds (LogAnswers may_leave moment left_since) (place state store.0 disk None) how bytes left new written → result ≡ Fault Full → FillsUp reads may_leave moment left_since limits old
    full_within how new result bytes left written ready is ends at =
        let lost = lost_end how new.fault result Full is at in
        let talk = subst (λ (h : TalkEnd). TalkEnds (LogAnswers may_leave moment left_since) (place state store.0 disk None) h bytes left new written) lost.0 ends in
        let loses = talk.1.2 in
        at_last talk.0 (loses.replies ++ loses.last ∷ []) new ready lost.1 loses.answers
