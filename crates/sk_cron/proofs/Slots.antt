-- Slots are the starts of minutes, and a moment shows one civil minute.
use Rattle.std.proofs.Common.{arith, ◌≡◌, ◌≢◌, ◌<◌, ◌≤◌, ◌+◌, ◌-◌, ◌%◌, ◌∙◌, ℕ, ℤ, Bool, true, false, None, refl, sym, ap, subst}
use Rattle.jiff_core.proofs.DateLemmas.{epoch_day_injective}
use Rattle.jiff_core.proofs.DateTimeLemmas.{civil_nanos_injective, time_nanos_injective}
use Rattle.jiff_core.specs.Calendar.{weekday_number}
use Rattle.sk_cron.specs.declared.civil.Civil.{Civil}
use Rattle.sk_cron.specs.Civil.{IsCivilAt}
use Rattle.sk_cron.specs.Slot.{IsLastSlot, IsSlot}
use Rattle.sk_cron.specs.Times.{Times, matches}

civil_same : (c d : Civil) → c.minute ≡ d.minute → c.hour ≡ d.hour → c.day ≡ d.day → c.month ≡ d.month → c.weekday ≡ d.weekday → c ≡ d
civil_same c d minute hour day month weekday =
    let at_minute : c ≡ record { minute = d.minute; hour = c.hour; day = c.day; month = c.month; weekday = c.weekday } =
    ap (λ x. record { minute = x; hour = c.hour; day = c.day; month = c.month; weekday = c.weekday }) minute in
    at_minute
    ∙ ap (λ x. record { minute = d.minute; hour = x; day = c.day; month = c.month; weekday = c.weekday }) hour
    ∙ ap (λ x. record { minute = d.minute; hour = d.hour; day = x; month = c.month; weekday = c.weekday }) day
    ∙ ap (λ x. record { minute = d.minute; hour = d.hour; day = d.day; month = x; weekday = c.weekday }) month
    ∙ ap (λ x. record { minute = d.minute; hour = d.hour; day = d.day; month = d.month; weekday = x }) weekday

one_civil : (moment : ℕ) (offset : ℤ) (c d : Civil) → IsCivilAt moment offset c → IsCivilAt moment offset d → c ≡ d
one_civil moment offset c d p q =
    let same = civil_nanos_injective p.shown q.shown (p.at ∙ sym q.at) in
    let date = epoch_day_injective p.shown.date q.shown.date same.0 in
    let time = time_nanos_injective p.shown.time q.shown.time same.1 in
    let minute : c.minute ≡ d.minute = p.minute ∙ time.1 ∙ sym q.minute in
    let hour : c.hour ≡ d.hour = p.hour ∙ time.0 ∙ sym q.hour in
    let day : c.day ≡ d.day = p.day ∙ date.2 ∙ sym q.day in
    let month : c.month ≡ d.month = p.month ∙ date.1 ∙ sym q.month in
    let weekday : c.weekday ≡ d.weekday = p.weekday ∙ ap (λ n. (weekday_number n + 1) % 7) same.0 ∙ sym q.weekday in
    civil_same c d minute hour day month weekday

-- the civil minute at the slot doesn't match
pub no_match : (t : Times) (offset : ℤ) (now_ slot : ℕ) (c : Civil) → IsCivilAt slot offset c → matches t c ≡ false → IsSlot t offset now_ slot → ⊥
no_match t offset now_ slot c at no_fit s = cc (sym no_fit ∙ ap (matches t) (one_civil slot offset c s.civil at s.at) ∙ s.fits)

-- no slot is later
abbrev pub IsAfterAll : Times → ℤ → ℕ → ℕ → Type 0
IsAfterAll t offset now_ last = (slot : ℕ) → IsSlot t offset now_ slot → slot ≤ last

pub first_back : (t : Times) (offset : ℤ) (now_ : ℕ) → IsAfterAll t offset now_ (now_ - now_ % 60_000)
first_back t offset now_ slot s = omega (arith, s.start, s.past)

pub one_back : (t : Times) (offset : ℤ) (now_ last : ℕ) → IsAfterAll t offset now_ last → last % 60_000 ≡ 0 → 60_000 ≤ last → (IsSlot t offset now_ last → ⊥) → IsAfterAll t offset now_ (last - 60_000)
one_back t offset now_ last all start large none slot s =
    let other : slot ≢ last = λ e. none (subst (λ x. IsSlot t offset now_ x) e s) in
    omega (arith, all slot s, s.start, start, large, other)

pub none_below : (t : Times) (offset : ℤ) (now_ last : ℕ) → IsAfterAll t offset now_ last → last % 60_000 ≡ 0 → last < 60_000 → (IsSlot t offset now_ last → ⊥) → IsLastSlot t offset now_ None
none_below t offset now_ last all start small none slot s =
    let e : slot ≡ last = omega (arith, all slot s, s.start, start, small) in
    none (subst (λ x. IsSlot t offset now_ x) e s)

pub none_recent : (t : Times) (offset : ℤ) (now_ last : ℕ) → IsAfterAll t offset now_ last → last + 600_000 < now_ → IsLastSlot t offset now_ None
none_recent t offset now_ last all old slot s = absurd (omega (arith, all slot s, s.recent, old))
