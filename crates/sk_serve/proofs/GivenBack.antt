-- A session over a held connection, once that is given back.
use Rattle.std.proofs.Common.{◌≡◌, ℕ, List, [], Option, Bool, sym, subst}
use Rattle.sk_base.specs.Outside.{Gives, Takes}
use Rattle.sk_resp.specs.Spelling.{Bytes}
use Rattle.sk_desk.specs.declared.call.Call.{Call}
use Rattle.sk_held.specs.Holding.{Held, with_gathered}
use Rattle.sk_talk.specs.Talk.{DoesAll, Ends}
use Rattle.sk_talk.specs.declared.talk_end.TalkEnd.{TalkEnd}
use Rattle.sk_serve.specs.Session.{Does, IsSession, seen}

-- What is told of the held connection is told of its parts, at first and at the end.
pub given_back : {D K C W : Type 0} (wants_words : Bool) (calls : D → Option (List Call)) (acked : D → ℕ) (moments : K → Option (ℕ → ℕ)) (left taken : C → Option Bytes)
    (desk : D) (clock : K) (old : Held C W) (end : TalkEnd) (desk' : D) (clock' : K) (new : Held C W) (conn conn' : C) (kept : Bytes)
    → IsSession wants_words calls acked moments (λ h. left h.conn) (λ h. with_gathered (taken h.conn) h.gathered) desk clock old end desk' clock' new
    → old.conn ≡ conn → old.gathered ≡ [] → left conn' ≡ left new.conn → with_gathered (taken conn') kept ≡ with_gathered (taken new.conn) new.gathered
    → IsSession {C = C × Bytes} wants_words calls acked moments (λ p. left p.0) (λ p. with_gathered (taken p.0) p.1) desk clock (conn, []) end desk' clock' (conn', kept)
given_back wants_words calls acked moments left taken desk clock old end desk' clock' new conn conn' kept s is none left_is taken_is = record {
  bytes = s.bytes;
  written = s.written;
  moves = record {
    gave = subst (λ z. Gives (left conn) s.bytes z) (sym left_is) (subst (λ z. Gives (left z) s.bytes (left new.conn)) is s.moves.gave);
    took = subst (λ z. Takes (with_gathered (taken conn) []) s.written z) (sym taken_is)
        (subst (λ z. Takes (with_gathered (taken conn) z) s.written (with_gathered (taken new.conn) new.gathered)) none
        (subst (λ z. Takes (with_gathered (taken z) old.gathered) s.written (with_gathered (taken new.conn) new.gathered)) is s.moves.took));
  };
  ends = subst (λ z. Ends (DoesAll (Does wants_words)) (seen calls acked moments desk clock) end s.bytes z (seen calls acked moments desk' clock') s.written) (sym left_is) s.ends;
}
