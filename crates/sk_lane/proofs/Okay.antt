-- A reply is `+OK` where its text is.
use Rattle.std.proofs.Common.{◌≡◌, ◌∷◌, ◌++◌, [], List, ℕ, Bool, true, false, codes, bytes_eq, refl, sym, ap}
use Rattle.std.proofs.lemmas.List.{append_cancel_right}
use Rattle.std.proofs.lemmas.Slice.Eq.{bytes_eq-Decides}
use Rattle.sk_resp.specs.Kind.{kind_text}
use Rattle.sk_resp.specs.Refusal.{refusal_text}
use Rattle.sk_resp.specs.Reply.{fault_text, say_text, wire}
use Rattle.sk_resp.specs.Spelling.{bulk, cr, header, lf, line, plus}
use Rattle.sk_resp.specs.declared.kind.Kind.{Kind}
use Rattle.sk_resp.specs.declared.kind.Kind.TheVariants as kind
use Rattle.sk_resp.specs.declared.refusal.Refusal.{Refusal}
use Rattle.sk_resp.specs.declared.refusal.Refusal.TheVariants as refusal
use Rattle.sk_resp.specs.declared.reply.Reply.{Reply}
use Rattle.sk_resp.specs.declared.reply.Reply.TheVariants as reply
use Rattle.sk_resp.specs.declared.say.Say.{Say}
use Rattle.sk_resp.specs.declared.say.Say.TheVariants as say
use Rattle.sk_resp.specs.declared.wire_fault.WireFault.{WireFault}
use Rattle.sk_resp.specs.declared.wire_fault.WireFault.TheVariants as fault
use Rattle.sk_link.specs.Asking.{is_okay}
use Rattle.sk_lane.specs.Asks.{is_ok_text}

same_tests : (r s : Bool) → (r ≡ true → s ≡ true) → (s ≡ true → r ≡ true) → r ≡ s
same_tests true true f g = refl
same_tests true false f g = sym (f refl)
same_tests false true f g = g refl
same_tests false false f g = refl

same_behind : (xs ys t : List ℕ) → bytes_eq (xs ++ t) (ys ++ t) ≡ bytes_eq xs ys
same_behind xs ys t = same_tests (bytes_eq (xs ++ t) (ys ++ t)) (bytes_eq xs ys)
    (λ e. (bytes_eq-Decides xs ys).1 (append_cancel_right xs ys t ((bytes_eq-Decides (xs ++ t) (ys ++ t)).0 e)))
    (λ e. (bytes_eq-Decides (xs ++ t) (ys ++ t)).1 (ap (λ l. l ++ t) ((bytes_eq-Decides xs ys).0 e)))

kind_no : (k : Kind) → is_ok_text (line (kind_text k)) ≡ false
kind_no kind.Absent = refl
kind_no kind.String = refl
kind_no kind.List = refl
kind_no kind.Set = refl
kind_no kind.Hash = refl
kind_no kind.Sorted = refl

refusal_no : (r : Refusal) → is_ok_text (line (refusal_text r)) ≡ false
refusal_no refusal.ManagedKey = refl
refusal_no refusal.NotWorker = refl
refusal_no refusal.OutOfTurn = refl
refusal_no refusal.HandsFull = refl
refusal_no refusal.NoProcess = refl
refusal_no refusal.NoBatch = refl
refusal_no refusal.Settled = refl
refusal_no refusal.RepeatedJid = refl
refusal_no refusal.BadPayload = refl
refusal_no refusal.NotLeader = refl
refusal_no refusal.SlotDone = refl
refusal_no refusal.Full = refl
refusal_no refusal.RepeatedBid = refl
refusal_no refusal.SlotTime = refl

fault_no : (f : WireFault) → is_ok_text (line (fault_text f)) ≡ false
fault_no fault.MultiLength = refl
fault_no fault.BulkLength = refl
fault_no (fault.NoDollar byte) = refl
fault_no fault.Quote = refl
fault_no fault.InlineLong = refl
fault_no fault.Limit = refl
fault_no fault.Memory = refl

say_okay : (s : Say) → is_ok_text (line (say_text s)) ≡ is_okay (reply.Say s)
say_okay say.Ok = refl
say_okay say.Pong = refl
say_okay (say.Kind k) = kind_no k
say_okay say.Unknown = refl
say_okay (say.Arity name) = refl
say_okay say.NotInt = refl
say_okay say.NotScore = refl
say_okay say.BadBound = refl
say_okay say.Syntax = refl
say_okay say.WrongType = refl
say_okay say.Overflow = refl
say_okay say.BadExpire = refl
say_okay (say.Refused r) = refusal_no r
say_okay say.Oom = refl
say_okay (say.Protocol f) = fault_no f

pub okay_wire : (r : Reply) → is_ok_text (wire r) ≡ is_okay r
unfolding bulk header
okay_wire (reply.Say s) = say_okay s
okay_wire (reply.Simple text) = same_behind (plus ∷ text) (codes "+OK") (cr ∷ lf ∷ [])
okay_wire (reply.Error text) = refl
okay_wire (reply.Int n) = refl
okay_wire (reply.Bulk bytes) = refl
okay_wire reply.Null = refl
okay_wire (reply.Array texts) = refl
okay_wire reply.NullArray = refl
