-- The talk of a session, in the words of its desk and clock.
use Rattle.std.proofs.Common.{◌≡◌, ◌∷◌, [], ℕ, List, Bool, true, false, Option, Some, None, Err, length, refl, subst, arith, ◌<◌, zero, suc}
use Rattle.sk_cmd.specs.Table.{IsRead}
use Rattle.sk_cmd.specs.declared.cmd_fault.CmdFault.TheVariants as fault
use Rattle.sk_resp.specs.Spelling.{Bytes}
use Rattle.sk_resp.specs.Request.{Command as Words}
use Rattle.sk_resp.specs.declared.reply.Reply.{Reply}
use Rattle.sk_talk.specs.declared.talk_end.Stop.{Stop}
use Rattle.sk_talk.specs.declared.talk_end.TalkEnd.{TalkEnd}
use Rattle.sk_desk.specs.Calls.{AddsCall, call_of}
use Rattle.sk_desk.specs.declared.call.Call.{Call}
use Rattle.sk_talk.specs.Talk.{DoesAll, Ends}
use Rattle.sk_talk.proofs.Doing.{does_keep, does_map}
use Rattle.sk_talk.proofs.Mapping.{ends_map, some_of}
use Rattle.sk_serve.specs.Session.{Does, Seen}

pub none_read : (words : Words) → length words ≡ 0 → IsRead words (Err fault.Unknown)
none_read [] e = refl
none_read (word ∷ words) e = absurd (omega (arith, e))

-- A call with other words is told as one with these: where the desk wants them they are the same, and where it doesn't it tells no calls.
pub told_as : (wants_words : Bool) (before after : Option (List Call)) (lent words : Words) (now : ℕ) (answer : Reply) → (wants_words ≡ true → lent ≡ words) → (wants_words ≡ false → before ≡ None)
    → AddsCall before (call_of lent now answer) after → AddsCall before (call_of words now answer) after
told_as true before after lent words now answer same untold adds = subst (λ z. AddsCall before (call_of z now answer) after) (same refl) adds
told_as false None after lent words now answer same untold adds = adds
told_as false (Some calls) after lent words now answer same untold adds = absurd (cc (untold refl))

-- a number was left
pub some_left : (n : ℕ) → (n ≡ 0 → ⊥) → 0 < n
some_left zero none = absurd (none refl)
some_left (suc n) none = omega arith

module _ {S A B : Type 0} (wants_words : Bool) (old new : S) (seen : S → Seen) (desk : S → A) (clock : S → B) where
  -- one command: it keeps its desk and its clock
  abbrev pub Sits : S → Words → Reply → Option Stop → S → Type 0
  Sits a words reply stop b = Does wants_words (seen a) words reply stop (seen b) × (desk b ≡ desk a) × (clock b ≡ clock a)

  pub same_desk : (end : TalkEnd) (bytes : Bytes) (left : Option Bytes) (written : Bytes) → Ends (DoesAll Sits) old end bytes left new written → desk new ≡ desk old
  same_desk end bytes left written ends =
      let some = some_of (DoesAll Sits) old new end bytes left written ends in
      does_keep Sits desk (λ a words reply stop b p. p.1) old new some.0 some.1.0 some.1.1.0 some.1.1.1

  pub same_clock : (end : TalkEnd) (bytes : Bytes) (left : Option Bytes) (written : Bytes) → Ends (DoesAll Sits) old end bytes left new written → clock new ≡ clock old
  same_clock end bytes left written ends =
      let some = some_of (DoesAll Sits) old new end bytes left written ends in
      does_keep Sits clock (λ a words reply stop b p. p.2) old new some.0 some.1.0 some.1.1.0 some.1.1.1

  pub seen_ends : (end : TalkEnd) (bytes : Bytes) (left : Option Bytes) (written : Bytes) → Ends (DoesAll Sits) old end bytes left new written → Ends (DoesAll (Does wants_words)) (seen old) end bytes left (seen new) written
  seen_ends end bytes left written ends =
      ends_map (DoesAll Sits) (DoesAll (Does wants_words)) old new (seen old) (seen new)
      (λ commands replies stop d. does_map Sits (Does wants_words) seen (λ a words reply stop b p. p.0) old new commands replies stop d) end bytes left written ends
