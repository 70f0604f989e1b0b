-- Why a log can't go on, and how its talk ends.
use Rattle.std.proofs.Common.{◌≡◌, ◌⊎◌, ◌≤◌, ◌<◌, ◌+◌, ◌^◌, inl, inr, refl, sym, ap, ◌∙◌, ⊎_elim, arith, ℕ, List, [], ◌∷◌, length, length-append, subst}
use Rattle.std.specs.Prelude.{Option, Some, None}
use Rattle.sk_base.specs.Outside.{Rose}
use Rattle.sk_disk.specs.Images.{Images}
use Rattle.sk_log.specs.File.{Body, records}
use Rattle.sk_log.specs.declared.fault.LogFault.{LogFault}
use Rattle.sk_log.specs.declared.fault.LogFault.TheVariants.{Disk, NotALog, Damaged, Full, Memory}
use Rattle.sk_resp.specs.Spelling.{Bytes}
use Rattle.sk_talk.specs.Talk.{Ends as TalkEnds}
use Rattle.sk_talk.specs.declared.talk_end.TalkEnd.{TalkEnd}
use Rattle.sk_talk.specs.declared.talk_end.TalkEnd.TheVariants as end
use Rattle.sk_aof.specs.Causes.{Blames, Hinders, IsHindrance, fault_of}
use Rattle.sk_aof.specs.Logging.{Place}
use Rattle.sk_aof.specs.Stored.{bodies_in}
use Rattle.sk_aof.specs.Talking.{IsEnd, LogAnswers}
use Rattle.sk_aof.specs.declared.log_end.LogEnd.{LogEnd}
use Rattle.sk_aof.specs.declared.log_end.LogEnd.TheVariants.{Fault}

-- ## A body

record_long : (body : Body) → length (records (body ∷ [])) ≡ length body + 5
record_long body = omega (arith, length-append body [])

pub hindered : (gate : ℕ) (body : Body) (e : LogFault) → (e ≡ Full → 2 ^ 50 < gate + length body + 6) → (e ≡ Disk) ⊎ (e ≡ Full) → Hinders gate (body ∷ []) e
hindered gate body Disk long only = tt
hindered gate body Memory long only = tt
hindered gate body Full long only = omega (arith, long refl, record_long body)
hindered gate body NotALog long (inl e) = absurd (cc e)
hindered gate body NotALog long (inr e) = absurd (cc e)
hindered gate body (Damaged at) long (inl e) = absurd (cc e)
hindered gate body (Damaged at) long (inr e) = absurd (cc e)

pub starved : (gate : ℕ) (bodies : List Body) (e : LogFault) → e ≡ Memory → Hinders gate bodies e
starved gate bodies e is = subst (λ (f : LogFault). Hinders gate bodies f) (sym is) tt

pub is_hindrance : (gate : ℕ) (bodies : List Body) (e : LogFault) → Hinders gate bodies e → IsHindrance e
is_hindrance gate bodies Disk h = tt
is_hindrance gate bodies Memory h = tt
is_hindrance gate bodies Full h = tt
is_hindrance gate bodies NotALog h = absurd h
is_hindrance gate bodies (Damaged at) h = absurd h

pub not_shut : (e : LogFault) → IsHindrance e → (e ≡ NotALog → ⊥) × ((at : ℕ) → e ≡ Damaged at → ⊥)
not_shut Disk h = (λ is. cc is, λ at is. cc is)
not_shut Memory h = (λ is. cc is, λ at is. cc is)
not_shut Full h = (λ is. cc is, λ at is. cc is)
not_shut NotALog h = absurd h
not_shut (Damaged at) h = absurd h

-- ## The disk's count

pub rose_on : (a b c : ℕ) → a ≤ b → Rose b c → Rose a c
rose_on a b c le (inl less) = inl (omega (arith, le, less))
rose_on a b c le (inr most) = inr most

pub rose_before : (a b c : ℕ) → b ≤ c → Rose a b → Rose a c
rose_before a b c le (inl less) = inl (omega (arith, le, less))
rose_before a b c le (inr most) = inr (omega (arith, le, most))

pub blames_none : (count : ℕ) (fault : Option LogFault) → Blames count fault count fault
blames_none count fault = record { later = omega arith; disk = λ is. inl is }

pub blames_on : (a b c : ℕ) (e f g : Option LogFault) → Blames a e b f → Blames b f c g → Blames a e c g
blames_on a b c e f g first then = record {
  later = omega (arith, first.later, then.later);
  disk = λ is. ⊎_elim (λ was. ⊎_elim (λ at_first. inl at_first) (λ rose. inr (rose_before a b c then.later rose)) (first.disk was)) (λ rose. inr (rose_on a b c first.later rose)) (then.disk is);
}

-- one that fails for another reason than the disk
pub blames_memory : (count : ℕ) (fault : Option LogFault) → Blames count fault count (Some Memory)
blames_memory count fault = record { later = omega arith; disk = λ is. absurd (cc is) }

pub blames_fault : (before now : ℕ) (fault : Option LogFault) (e : LogFault) → before ≤ now → (e ≡ Disk → Rose before now) → Blames before fault now (Some e)
blames_fault before now fault e later rose = record { later = later; disk = λ is. inr (rose (cc is)) }

pub blames_not : (before now : ℕ) (fault : Option LogFault) → before ≤ now → Blames before fault now fault
blames_not before now fault later = record { later = later; disk = λ is. inl is }

-- ## The end

rose_of : (fault : Option LogFault) (before now : ℕ) → fault_of fault ≡ Disk → Blames before None now fault → Rose before now
rose_of None before now e b = absurd (cc e)
rose_of (Some x) before now e b = ⊎_elim (λ none. absurd (cc none)) (λ rose. rose) (b.disk (ap Some e))

-- A log that ends at a fault ended with its talk.
pub lost_end : (how : TalkEnd) (fault : Option LogFault) (result : LogEnd) (e : LogFault) → IsEnd how fault result → result ≡ Fault e → (how ≡ end.Lost) × (fault_of fault ≡ e)
lost_end end.Lost fault result e is at = (refl, cc (is, at))
lost_end end.Ended fault result e is at = absurd (cc (is, at))
lost_end end.Quit fault result e is at = absurd (cc (is, at))
lost_end end.Shutdown fault result e is at = absurd (cc (is, at))
lost_end end.Wire fault result e is at = absurd (cc (is, at))
lost_end end.Cut fault result e is at = absurd (cc (is, at))
lost_end end.ReadFault fault result e is at = absurd (cc (is, at))
lost_end end.WriteFault fault result e is at = absurd (cc (is, at))
lost_end end.Memory fault result e is at = absurd (cc (is, at))
lost_end end.Budget fault result e is at = absurd (cc (is, at))

pub disk_ended : (how : TalkEnd) (fault : Option LogFault) (result : LogEnd) (before now : ℕ) → IsEnd how fault result → result ≡ Fault Disk → Blames before None now fault → Rose before now
disk_ended how fault result before now is at b = rose_of fault before now (lost_end how fault result Disk is at).1 b

module _ {D : Type 0} (may_leave : D → Images) (moment : D → ℕ) (left_since : D → ℕ → Images) where
  pub fault_ended : (old new : Place D) (how : TalkEnd) (result : LogEnd) (bytes : Bytes) (left : Option Bytes) (written : Bytes) → old.fault ≡ None → IsEnd how new.fault result
      → TalkEnds (LogAnswers may_leave moment left_since) old how bytes left new written → (e : LogFault) → result ≡ Fault e → IsHindrance e
  fault_ended old new how result bytes left written none is ends e at =
      let lost = lost_end how new.fault result e is at in
      let talk = subst (λ (h : TalkEnd). TalkEnds (LogAnswers may_leave moment left_since) old h bytes left new written) lost.0 ends in
      let last = talk.1.2.answers in
      subst IsHindrance lost.1 (is_hindrance last.mid.gate (bodies_in last.loses.entries) (fault_of new.fault) (last.loses.cause (last.logs.goes_on ∙ none)))
