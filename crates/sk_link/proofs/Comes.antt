-- What comes of one request over a connection, by what was sent and what was received.
use Rattle.std.proofs.Common.{◌≡◌, ◌≤◌, ◌+◌, ℕ, true, false, List, Option, refl, sym, subst, ◌∙◌, append-nil, [], Result, Ok, Err, inl, inr, arith}
use Rattle.std.specs.Prelude.{IfOk, IfErr, OnErr, OnOk}
use Rattle.sk_base.specs.Outside.{Rose, Takes, Gives}
use Rattle.sk_resp.specs.Spelling.{Bytes}
use Rattle.sk_resp.specs.Reply.{wire}
use Rattle.sk_resp.specs.ReplyStream.{IsReplyText}
use Rattle.sk_resp.specs.Request.{array}
use Rattle.sk_resp.specs.declared.reply.Reply.{Reply}
use Rattle.sk_link.specs.Fault.{IsReplyCause, is_ended}
use Rattle.sk_link.specs.Wire.{ComesThen, IsLossCause, WireTells, for_reply}
use Rattle.sk_link.specs.declared.link.LinkFault.{LinkFault}
use Rattle.sk_link.specs.declared.link.LinkFault.TheVariants.{Failed, Unreadable, Ended, Memory}

-- The link's count is that of the reads and that of the writes together.
rose_left : (a b x y : ℕ) → x ≤ y → Rose a b → Rose (a + x) (b + y)
rose_left a b x y later (inl risen) = inl (omega (arith, later, risen))
rose_left a b x y later (inr last) = inr (omega (arith, last))

-- a count of faults before and after: that of the reads and that of the writes
pub record Counts (before now_ : ℕ) : Type 0 where
  pub reads : ℕ
  pub writes : ℕ
  pub reads_now : ℕ
  pub writes_now : ℕ
  pub was : before ≡ reads + writes
  pub is : now_ ≡ reads_now + writes_now
  pub later : reads ≤ reads_now
  pub behind : writes ≤ writes_now

total : (before now_ : ℕ) (n : Counts before now_) → before ≤ now_
total before now_ n = omega (arith, n.was, n.is, n.later, n.behind)

a_read : (before now_ : ℕ) (n : Counts before now_) → Rose n.reads n.reads_now → Rose before now_
a_read before now_ n rose =
    subst (λ a. Rose a now_) (sym n.was) (subst (λ b. Rose (n.reads + n.writes) b) (sym n.is) (rose_left n.reads n.reads_now n.writes n.writes_now n.behind rose))

no_read : (before now_ : ℕ) (n : Counts before now_) → n.reads_now ≡ n.reads → n.writes_now ≡ n.writes → now_ ≡ before
no_read before now_ n reads writes = omega (arith, n.was, n.is, reads, writes)

-- what is known of a request that was sent, once its reply was waited for
pub record Receives (before after : WireTells) (request : List Bytes) (result : Result Reply LinkFault) : Type 0 where
  pub counts : Counts before.faults after.faults
  pub writes : counts.writes_now ≡ counts.writes
  pub whole : OnOk result (counts.reads_now ≡ counts.reads)
  pub sent : Takes before.taken (array request) after.taken
  pub given : IfOk result (λ reply. Gives before.unread (wire reply) after.unread)
  pub text : IfOk result (λ reply. IsReplyText (wire reply))
  pub kept : OnErr result (after.unread ≡ before.unread)
  pub cause : IfErr result (IsReplyCause counts.reads counts.reads_now after.unread)

reply_cause : (before after : WireTells) (request : List Bytes) (fault : LinkFault) (p : Receives before after request (Err fault)) → IsLossCause before (record after { ended = true }) request fault
reply_cause before after request Failed p = a_read before.faults after.faults p.counts p.cause
reply_cause before after request (Unreadable kept) p = p.cause
reply_cause before after request Ended p = absurd p.cause
reply_cause before after request Memory p = for_reply (no_read before.faults after.faults p.counts p.cause p.writes) p.sent

reply_goes_on : (a b : ℕ) (unread : Option Bytes) (fault : LinkFault) → IsReplyCause a b unread fault → false ≡ is_ended fault
reply_goes_on a b unread Failed h = refl
reply_goes_on a b unread (Unreadable kept) h = refl
reply_goes_on a b unread Ended h = absurd h
reply_goes_on a b unread Memory h = refl

pub received : (before after : WireTells) (request : List Bytes) (result : Result Reply LinkFault) → before.ended ≡ false → Receives before after request result → ComesThen before request result after
received before after request (Ok reply) goes_on p = record {
  was = goes_on;
  is = refl;
  same = no_read before.faults after.faults p.counts p.whole p.writes;
  sent = p.sent;
  given = p.given;
  text = p.text;
}
received before after request (Err fault) goes_on p = record {
  was = goes_on ∙ reply_goes_on p.counts.reads p.counts.reads_now after.unread fault p.cause;
  is = refl;
  later = total before.faults after.faults p.counts;
  sent = (array request, ([], sym (append-nil (array request))), p.sent);
  kept = p.kept;
  cause = reply_cause before after request fault p;
}
