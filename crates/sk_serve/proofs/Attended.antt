-- A session on a new seat, by the rows that its desk acknowledged, where the desk tells no calls.
use Rattle.std.proofs.Common.{◌≡◌, ℕ, Option, None, Bool, true, false, subst}
use Rattle.sk_base.specs.declared.clock.Clock as a_clock
use Rattle.sk_base.specs.declared.sink.Sink as a_sink
use Rattle.sk_base.specs.declared.source.Source as a_source
use Rattle.sk_resp.specs.Spelling.{Bytes}
use Rattle.sk_desk.specs.declared.desk.Desk as a_desk
use Rattle.sk_held.specs.Holding.{with_gathered}
use Rattle.sk_held.specs.declared.settler.Settler as a_settler
use Rattle.sk_talk.specs.Talk.{DoesAll, Ends}
use Rattle.sk_talk.specs.declared.talk_end.TalkEnd.{TalkEnd}
use Rattle.sk_serve.specs.Attending.{IsAttended, counting}
use Rattle.sk_serve.specs.Session.{Does, IsSession}
use Rattle.sk_serve.specs.declared.attend.Ending.{Ending}

counted : {D K C : Type 0} (wants_words : Bool) (acked : D → ℕ) (moments : K → Option (ℕ → ℕ)) (left taken : C → Option Bytes) (desk desk' : D) (clock clock' : K) (conn conn' : C) (talk : TalkEnd)
    → IsSession wants_words (λ d. None) acked moments left taken desk clock conn talk desk' clock' conn' → acked desk ≡ 0
    → IsSession {D = ℕ} wants_words (λ rows. None) (λ rows. rows) moments left taken 0 clock conn talk (acked desk') clock' conn'
counted wants_words acked moments left taken desk desk' clock clock' conn conn' talk s new = record {
  bytes = s.bytes;
  written = s.written;
  moves = s.moves;
  ends = subst (λ n. Ends (DoesAll (Does wants_words)) (record { calls = None; acked = n; moments = moments clock }) talk s.bytes (left conn') (record { calls = None; acked = acked desk'; moments = moments clock' }) s.written) new s.ends;
}

-- what is told of a desk that tells no calls
abbrev silent : {D : Type 0} → Bool → (D → ℕ) → a_desk.Ghosts D
silent wants_words acked = record { wants_words = wants_words; acked = acked; calls = λ d. None }

module _ {D K C W : Type 0} (wants_words : Bool) (acked : D → ℕ) (Source : a_source.Ghosts C) (Sink : a_sink.Ghosts C) (Clock : a_clock.Ghosts K) (Settler : a_settler.Ghosts W)
    (desk desk' : D) (clock clock' : K) (conn conn' : C) (how : Ending) (new : acked desk ≡ 0) where
  pub summary_of : (holds_back : Bool) → IsAttended holds_back (silent wants_words acked) Source Sink Clock Settler desk clock conn how desk' clock' conn'
      → IsAttended holds_back (counting wants_words) Source Sink Clock Settler 0 clock conn how (acked desk') clock' conn'
  summary_of false s = record {
    session = counted wants_words acked Clock.moments Source.left Sink.taken desk desk' clock clock' conn conn' how.end s.session new;
    read_fault = s.read_fault;
    write_fault = s.write_fault;
    settled = s.settled;
  }
  summary_of true s = record {
    handed = s.handed;
    session = record {
      kept = s.session.kept;
      session = counted wants_words acked Clock.moments (λ p. Source.left p.0) (λ p. with_gathered (Sink.taken p.0) p.1) desk desk' clock clock' _ _ how.end s.session.session new;
      all = s.session.all;
    };
    settler = s.settler;
    settler' = s.settler';
    since = s.since;
    failed = s.failed;
    passed = s.passed;
  }
