-- When a link may answer each of its faults.
use Rattle.std.specs.Prelude.{◌≡◌, ◌⊎◌, ◌++◌, ℕ, [], Bool, true, false, Option, IfSome, take}
use Rattle.sk_base.specs.Outside.{Rose}
use Rattle.sk_base.specs.declared.limits.TheConstants.{LONGEST_SHOWN}
use Rattle.sk_resp.specs.Spelling.{Bytes}
use Rattle.sk_resp.specs.ReplyStream.{IsReplyText}
use Rattle.sk_link.specs.declared.link.LinkFault.{LinkFault}
use Rattle.sk_link.specs.declared.link.LinkFault.TheVariants.{Failed, Unreadable, Ended, Memory}

-- It says that the link had ended before.
abbrev pub is_ended : LinkFault → Bool
is_ended Ended = true
is_ended f = false

-- No whole reply stands in front of these bytes.
abbrev pub IsNoReply : Bytes → Type 0
IsNoReply bytes = (text more : Bytes) → IsReplyText text → bytes ≡ text ++ more → ⊥

-- No whole reply comes to stand in front, whatever follows these bytes.
abbrev pub IsStuck : Bytes → Type 0
IsStuck bytes = (tail : Bytes) → IsNoReply (bytes ++ tail)

-- Why these unread bytes are no replies: of those that were read by then none can go on to a reply, or they are all that there is, and no whole reply
-- stands in front. The first 64 of them are kept, and nothing is waited for behind them.
pub record IsUnreadable (kept unread : Bytes) : Type 0 where
  pub read : Bytes
  pub left : Bytes
  pub unread_is : unread ≡ read ++ left
  pub no_reply : IsStuck read ⊎ ((left ≡ []) × IsNoReply read)
  pub kept_is : kept ≡ take LONGEST_SHOWN read

-- Nothing is left, where that is told.
abbrev pub IsAtEnd : Option Bytes → Type 0
IsAtEnd left = IfSome left (λ bytes. bytes ≡ [])

-- The cause of a fault of one read or write, by the count of faults before and after: it failed, or there was no memory, and it wasn't tried.
abbrev pub IsIoCause : ℕ → ℕ → LinkFault → Type 0
IsIoCause before now Failed = Rose before now
IsIoCause before now (Unreadable kept) = ⊥
IsIoCause before now Ended = ⊥
IsIoCause before now Memory = now ≡ before

-- The cause of a fault at a reply, by the count of faults before and after, and what is unread after it.
abbrev pub IsReplyCause : ℕ → ℕ → Option Bytes → LinkFault → Type 0
IsReplyCause before now unread Failed = Rose before now
IsReplyCause before now unread (Unreadable kept) = IfSome unread (IsUnreadable kept)
IsReplyCause before now unread Ended = ⊥
IsReplyCause before now unread Memory = now ≡ before
