-- What is drawn before a call.
use Rattle.std.proofs.Common.{◌≡◌, ◌≢◌, ◌<◌, ◌%◌, inl, inr, true, false, refl, ap}
use Rattle.sk_lane.specs.Drawing.{Passes, behind_word, drew, is_off, undrawn, word_of}
use Rattle.sk_lane.specs.declared.crashes.Crashes.{Crashes}
use Rattle.sk_lane.specs.declared.crashes.Drawing.{Drawing}

pub no_turn : (a : Drawing) → is_off a ≡ false → a.in_turn ≡ false → Passes a a
no_turn a on rest = undrawn a a on (inl rest) refl

pub none_left : (a : Drawing) → is_off a ≡ false → a.crashes.left ≡ 0 → Passes a a
none_left a on none = undrawn a a on (inr none) refl

pub went_on : (a : Drawing) (c : Crashes) → is_off a ≡ false → a.in_turn ≡ true → 0 < a.crashes.left → word_of a.crashes.words % 16 ≢ 0 →
    c ≡ record a.crashes { words = behind_word a.crashes.words } → Passes a (record a { crashes = c })
went_on a c on turn left word next = drew a (record a { crashes = c }) on (turn, left) word (ap {A = Crashes} {B = Drawing} (λ d. record a { crashes = d }) next)
