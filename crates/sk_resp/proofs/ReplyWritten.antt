-- Each reply within the limits has a text that a reader takes.
use Rattle.std.proofs.Common.{◌≡◌, ◌≢◌, ◌≤◌, ◌^◌, ℕ, [], ◌∷◌, ◌++◌, length, Bool, true, false, cond, eqb, leb, inl, inr, refl, arith}
use Rattle.std.specs.Prelude.{codes, ◌&&◌, nat_le}
use Rattle.std.specs.List.{AllByRecursion}
use Rattle.sk_resp.specs.Spelling.{Bytes, cr, lf, minus, line}
use Rattle.sk_resp.specs.Name.{spelling}
use Rattle.sk_resp.specs.Kind.{kind_text}
use Rattle.sk_resp.specs.Refusal.{refusal_text}
use Rattle.sk_resp.specs.declared.kind.Kind.{Kind}
use Rattle.sk_resp.specs.declared.kind.Kind.TheVariants as kind
use Rattle.sk_resp.specs.declared.refusal.Refusal.{Refusal}
use Rattle.sk_resp.specs.declared.refusal.Refusal.TheVariants as refusal
use Rattle.sk_resp.specs.Reply.{shown, fault_text, say_text, wire}
use Rattle.sk_resp.specs.ReplyStream.{IsLineText, IsFlat, IsNested, IsReplyText, IsWithin, IsWritable, simple_text, error_text, int_text, bulk_text, null_text, null_array_text}
use Rattle.sk_resp.specs.declared.wire_fault.WireFault.{WireFault}
use Rattle.sk_resp.specs.declared.wire_fault.WireFault.TheVariants as fault
use Rattle.sk_resp.specs.declared.name.Name.{Name}
use Rattle.sk_resp.specs.declared.name.Name.TheVariants as name
use Rattle.sk_resp.specs.declared.say.Say.{Say}
use Rattle.sk_resp.specs.declared.say.Say.TheVariants as say
use Rattle.sk_resp.specs.declared.reply.Reply.{Reply}
use Rattle.sk_resp.specs.declared.reply.Reply.TheVariants as reply
use Rattle.sk_resp.proofs.ReplyOpens.{by_cond, differs, all-append}

-- ## Fixed texts

abbrev is_plain : ℕ → Bool
is_plain b = cond (eqb b cr) false (cond (eqb b lf) false true)

abbrev are_plain : Bytes → Bool
are_plain [] = true
are_plain (b ∷ bytes) = cond (is_plain b) (are_plain bytes) false

abbrev Plain : Bytes → Type 0
Plain text = AllByRecursion (λ b. (b ≢ cr) × (b ≢ lf)) text

both : (c d : Bool) → cond c d false ≡ true → (c ≡ true) × (d ≡ true)
both true d e = (refl, e)
both false d e = absurd (cc)

plain_byte : (b : ℕ) (c d : Bool) → eqb b cr ≡ c → eqb b lf ≡ d → cond c false (cond d false true) ≡ true → (b ≢ cr) × (b ≢ lf)
plain_byte b true d p q e = absurd (cc)
plain_byte b false true p q e = absurd (cc)
plain_byte b false false p q e = (differs b cr p, differs b lf q)

plain_text : (text : Bytes) → are_plain text ≡ true → Plain text
plain_text [] e = tt
plain_text (b ∷ text) e = let p = both (is_plain b) (are_plain text) e in (plain_byte b (eqb b cr) (eqb b lf) refl refl p.0, plain_text text p.1)

-- a text whose bytes can be computed
fixed : (text : Bytes) → are_plain text ≡ true → leb (length text) (2 ^ 16) ≡ true → IsLineText text
fixed text p q = record { plain = plain_text text p; short = grind arith }

first_of : (a b : Bool) → (a && b) ≡ true → a ≡ true
first_of true b e = refl
first_of false b e = absurd (cc)

shown_plain : (byte : ℕ) → (shown byte ≢ cr) × (shown byte ≢ lf)
shown_plain byte = by_cond (λ b. (b ≢ cr) × (b ≢ lf)) (nat_le 32 byte && nat_le byte 126) byte 63
    (λ t. let visible : 32 ≤ byte = grind (arith, first_of (nat_le 32 byte) (nat_le byte 126) t) in (λ e. omega (arith, visible, e), λ e. omega (arith, visible, e)))
    (λ f. (λ e. omega (arith, e), λ e. omega (arith, e)))

quoted : (byte : ℕ) → IsLineText (codes "ERR Protocol error: expected '$', got '" ++ shown byte ∷ 39 ∷ [])
quoted byte = record {
  plain = all-append (λ b. (b ≢ cr) × (b ≢ lf)) (codes "ERR Protocol error: expected '$', got '") (shown byte ∷ 39 ∷ []) (plain_text (codes "ERR Protocol error: expected '$', got '") refl) (shown_plain byte, ((λ e. omega (arith, e), λ e. omega (arith, e)), tt));
  short = omega arith;
}

error_line : (text : Bytes) → IsLineText text → IsFlat (line (minus ∷ text))
error_line text is = error_text text is refl

pub fault_flat : (f : WireFault) → IsFlat (line (fault_text f))
fault_flat fault.MultiLength = error_line (codes "ERR Protocol error: invalid multibulk length") (fixed _ refl refl)
fault_flat fault.BulkLength = error_line (codes "ERR Protocol error: invalid bulk length") (fixed _ refl refl)
fault_flat (fault.NoDollar byte) = error_line (codes "ERR Protocol error: expected '$', got '" ++ shown byte ∷ 39 ∷ []) (quoted byte)
fault_flat fault.Quote = error_line (codes "ERR Protocol error: quotes in inline request") (fixed _ refl refl)
fault_flat fault.InlineLong = error_line (codes "ERR Protocol error: too big inline request") (fixed _ refl refl)
fault_flat fault.Limit = error_line (codes "ERR Protocol error: command too big") (fixed _ refl refl)
fault_flat fault.Memory = error_line (codes "OOM want of memory") (fixed _ refl refl)

name_line : (n : Name) → IsLineText (codes "ERR wrong number of arguments for '" ++ spelling n ++ codes "' command")
name_line name.Lpush = fixed _ refl refl
name_line name.Rpush = fixed _ refl refl
name_line name.Lmove = fixed _ refl refl
name_line name.Lrange = fixed _ refl refl
name_line name.Llen = fixed _ refl refl
name_line name.Lrem = fixed _ refl refl
name_line name.Ping = fixed _ refl refl
name_line name.Echo = fixed _ refl refl
name_line name.Quit = fixed _ refl refl
name_line name.Shutdown = fixed _ refl refl
name_line name.Flushall = fixed _ refl refl
name_line name.Get = fixed _ refl refl
name_line name.Set = fixed _ refl refl
name_line name.Del = fixed _ refl refl
name_line name.Exists = fixed _ refl refl
name_line name.KindOf = fixed _ refl refl
name_line name.Incrby = fixed _ refl refl
name_line name.Pexpire = fixed _ refl refl
name_line name.Pttl = fixed _ refl refl
name_line name.Sadd = fixed _ refl refl
name_line name.Srem = fixed _ refl refl
name_line name.Smembers = fixed _ refl refl
name_line name.Scard = fixed _ refl refl
name_line name.Sismember = fixed _ refl refl
name_line name.Hset = fixed _ refl refl
name_line name.Hget = fixed _ refl refl
name_line name.Hlen = fixed _ refl refl
name_line name.Hdel = fixed _ refl refl
name_line name.Hgetall = fixed _ refl refl
name_line name.Zadd = fixed _ refl refl
name_line name.Zrem = fixed _ refl refl
name_line name.Zcard = fixed _ refl refl
name_line name.Zscore = fixed _ refl refl
name_line name.Zrange = fixed _ refl refl
name_line name.Zrangebyscore = fixed _ refl refl
name_line name.Zremrangebyrank = fixed _ refl refl
name_line name.Zremrangebyscore = fixed _ refl refl
name_line name.Beat = fixed _ refl refl
name_line name.Join = fixed _ refl refl
name_line name.Start = fixed _ refl refl
name_line name.Ok = fixed _ refl refl
name_line name.Fail = fixed _ refl refl
name_line name.Drop = fixed _ refl refl
name_line name.Bury = fixed _ refl refl
name_line name.Back = fixed _ refl refl
name_line name.Due = fixed _ refl refl
name_line name.Rescue = fixed _ refl refl
name_line name.Upush = fixed _ refl refl
name_line name.Bpush = fixed _ refl refl
name_line name.Badd = fixed _ refl refl
name_line name.Bstat = fixed _ refl refl
name_line name.Lead = fixed _ refl refl
name_line name.Cron = fixed _ refl refl
name_line name.Revive = fixed _ refl refl
name_line name.Kill = fixed _ refl refl
name_line name.Where = fixed _ refl refl
name_line name.Status = fixed _ refl refl
name_line name.Give = fixed _ refl refl
name_line name.As = fixed _ refl refl
name_line name.Now = fixed _ refl refl
name_line name.Cut = fixed _ refl refl

kind_flat : (k : Kind) → IsFlat (line (kind_text k))
kind_flat kind.Absent = simple_text (codes "none") (fixed _ refl refl) refl
kind_flat kind.String = simple_text (codes "string") (fixed _ refl refl) refl
kind_flat kind.List = simple_text (codes "list") (fixed _ refl refl) refl
kind_flat kind.Set = simple_text (codes "set") (fixed _ refl refl) refl
kind_flat kind.Hash = simple_text (codes "hash") (fixed _ refl refl) refl
kind_flat kind.Sorted = simple_text (codes "zset") (fixed _ refl refl) refl

refusal_flat : (r : Refusal) → IsFlat (line (refusal_text r))
refusal_flat refusal.ManagedKey = error_line (codes "SK managed key") (fixed _ refl refl)
refusal_flat refusal.NotWorker = error_line (codes "SK not a worker seat") (fixed _ refl refl)
refusal_flat refusal.OutOfTurn = error_line (codes "SK out of turn") (fixed _ refl refl)
refusal_flat refusal.HandsFull = error_line (codes "SK hands full") (fixed _ refl refl)
refusal_flat refusal.NoProcess = error_line (codes "SK no such process") (fixed _ refl refl)
refusal_flat refusal.NoBatch = error_line (codes "SK no such batch") (fixed _ refl refl)
refusal_flat refusal.Settled = error_line (codes "SK batch settled") (fixed _ refl refl)
refusal_flat refusal.RepeatedJid = error_line (codes "SK repeated jid") (fixed _ refl refl)
refusal_flat refusal.BadPayload = error_line (codes "SK bad payload") (fixed _ refl refl)
refusal_flat refusal.NotLeader = error_line (codes "SK not leader") (fixed _ refl refl)
refusal_flat refusal.SlotDone = error_line (codes "SK slot done") (fixed _ refl refl)
refusal_flat refusal.Full = error_line (codes "SK full") (fixed _ refl refl)
refusal_flat refusal.RepeatedBid = error_line (codes "SK repeated bid") (fixed _ refl refl)
refusal_flat refusal.SlotTime = error_line (codes "SK slot out of time") (fixed _ refl refl)

say_flat : (s : Say) → IsFlat (line (say_text s))
say_flat say.Ok = simple_text (codes "OK") (fixed _ refl refl) refl
say_flat (say.Kind k) = kind_flat k
say_flat say.Pong = simple_text (codes "PONG") (fixed _ refl refl) refl
say_flat say.Unknown = error_line (codes "ERR unknown command") (fixed _ refl refl)
say_flat (say.Arity n) = error_line (codes "ERR wrong number of arguments for '" ++ spelling n ++ codes "' command") (name_line n)
say_flat say.NotInt = error_line (codes "ERR value is not an integer or out of range") (fixed _ refl refl)
say_flat say.NotScore = error_line (codes "ERR value is not a valid float") (fixed _ refl refl)
say_flat say.BadBound = error_line (codes "ERR min or max is not a float") (fixed _ refl refl)
say_flat say.Syntax = error_line (codes "ERR syntax error") (fixed _ refl refl)
say_flat say.WrongType = error_line (codes "WRONGTYPE Operation against a key holding the wrong kind of value") (fixed _ refl refl)
say_flat say.Overflow = error_line (codes "ERR increment or decrement would overflow") (fixed _ refl refl)
say_flat say.BadExpire = error_line (codes "ERR invalid expire time") (fixed _ refl refl)
say_flat (say.Refused r) = refusal_flat r
say_flat say.Oom = error_line (codes "OOM want of memory") (fixed _ refl refl)
say_flat (say.Protocol f) = fault_flat f

-- ## Replies

nested : (r : Reply) → IsWithin r → IsNested 8 (wire r)
nested (reply.Say s) is = inl (say_flat s)
nested (reply.Simple text) is = inl (simple_text text is refl)
nested (reply.Error text) is = inl (error_text text is refl)
nested (reply.Int n) is = inl (int_text n is refl)
nested (reply.Bulk bytes) is = inl (bulk_text bytes is refl)
nested reply.Null is = inl (null_text refl)
nested (reply.Array texts) is = inr (texts, is.0, is.1, refl)
nested reply.NullArray is = inl (null_array_text refl)

pub has_text : (r : Reply) → IsWritable r → IsReplyText (wire r)
has_text r is = record { nested = nested r is.within; short = is.short }
