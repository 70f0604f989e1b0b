-- Holds of a name: what is sent, and what each answer says of it.
use Rattle.std.specs.Prelude.{◌≡◌, ◌↔◌, ◌<◌, ◌++◌, ◌&&◌, ℕ, zero, suc, pos, Bool, true, false, List, [], ◌∷◌, Option, Some, None, Result, Ok, Err}
use Rattle.std.specs.Bool.{MatchBool}
use Rattle.sk_base.specs.Name.{is_name}
use Rattle.sk_base.specs.declared.limits.TheConstants.{LONGEST_ID}
use Rattle.sk_resp.specs.Spelling.{Bytes}
use Rattle.sk_resp.specs.declared.reply.Reply.{Reply}
use Rattle.sk_resp.specs.declared.reply.Reply.TheVariants as reply
use Rattle.sk_link.specs.Asking.{is_number, is_okay}
use Rattle.sk_link.specs.Call.{Call, answered}
use Rattle.sk_link.specs.declared.asking.Answer.TheVariants as answer
use Rattle.sk_limit.specs.Asking.{Stops, number_in}
use Rattle.sk_limit.specs.Limiter.{is_limiter}
use Rattle.sk_limit.specs.Requests.{give_words, set_words, slot_key}
use Rattle.sk_limit.specs.declared.holds.HeldSlot.{HeldSlot}
use Rattle.sk_limit.specs.declared.limit_fault.LimitFault.{LimitFault}
use Rattle.sk_limit.specs.declared.limits.TheConstants.{LONGEST_LIMITER}

-- ## Asking for a slot

-- who asks, for a slot of which name, of how many, and for how long
pub record Wish : Type 0 where
  pub name : Bytes
  pub most : ℕ
  pub millis : ℕ
  pub token : Bytes

abbrev pub wish : Bytes → ℕ → ℕ → Bytes → Wish
wish name most millis token = record { name = name; most = most; millis = millis; token = token }

-- the name, the numbers and the token are those of a limiter
abbrev pub is_hold : Wish → Bool
is_hold wish = is_limiter wish.name wish.most wish.millis && is_name LONGEST_ID wish.token

-- `SET limit:name:slot token NX PX millis`
abbrev pub slot_words : Wish → ℕ → List Bytes
slot_words wish slot = set_words (slot_key wish.name slot) wish.token wish.millis

-- Each slot below that number was asked for in order, and was answered null: another holds it.
abbrev pub taken_below : Wish → ℕ → List Call
taken_below wish zero = []
taken_below wish (suc slot) = taken_below wish slot ++ answered (slot_words wish slot) reply.Null ∷ []

-- ## What each answer says

-- Each slot below that of the answer is taken, and the request for this one was answered `+OK`.
pub record Got (Carried : List Call → Type 0) (wish : Wish) (held : HeldSlot) : Type 0 where
  pub below : held.slot < wish.most
  pub held_is : held ≡ record { name = wish.name; slot = held.slot; token = wish.token }
  pub reply : Reply
  pub okay : is_okay reply ≡ true
  pub carried : Carried (taken_below wish held.slot ++ answered (slot_words wish held.slot) reply ∷ [])

-- Some: the first slot that was free. None: each of them is taken. A fault comes at the request for one of them.
abbrev pub Tries : (List Call → Type 0) → Wish → Result (Option HeldSlot) LimitFault → Type 0
Tries Carried wish (Ok (Some held)) = Got Carried wish held
Tries Carried wish (Ok None) = Carried (taken_below wish wish.most)
Tries Carried wish (Err f) = (slot : ℕ) × (slot < wish.most) × Stops Carried (taken_below wish slot) (slot_words wish slot) answer.OkayOrNull f

-- Where the wish is none of a limiter, nothing is sent.
abbrev pub Holds : (List Call → Type 0) → Wish → Result (Option HeldSlot) LimitFault → Type 0
Holds Carried wish result = MatchBool (is_hold wish) (Tries Carried wish result) (Carried [])

-- ## Giving a slot back

-- its name and its token are those of a hold
abbrev pub is_held : HeldSlot → Bool
is_held held = is_name LONGEST_LIMITER held.name && is_name LONGEST_ID held.token

-- `SK.GIVE limit:name:slot token`
abbrev pub back_words : HeldSlot → List Bytes
back_words held = give_words (slot_key held.name held.slot) held.token

-- The answer is whether the reply, a number, was 1.
abbrev pub GivesBack : (List Call → Type 0) → HeldSlot → Result Bool LimitFault → Type 0
GivesBack Carried held (Ok given) = (r : Reply) × Carried (answered (back_words held) r ∷ []) × (is_number r ≡ true) × ((given ≡ true) ↔ (number_in r ≡ pos 1))
GivesBack Carried held (Err f) = Stops Carried [] (back_words held) answer.Number f

-- Where the name or the token is none, nothing is sent.
abbrev pub Gives : (List Call → Type 0) → HeldSlot → Result Bool LimitFault → Type 0
Gives Carried held result = MatchBool (is_held held) (GivesBack Carried held result) (Carried [])

-- ## Parts of a hold

-- One slot was asked for: whether it was free, or what ended the call.
abbrev pub Takes : (List Call → Type 0) → Wish → ℕ → Result Bool LimitFault → Type 0
Takes Carried wish slot (Ok true) = (r : Reply) × Carried (answered (slot_words wish slot) r ∷ []) × (is_okay r ≡ true)
Takes Carried wish slot (Ok false) = Carried (answered (slot_words wish slot) reply.Null ∷ [])
Takes Carried wish slot (Err f) = Stops Carried [] (slot_words wish slot) answer.OkayOrNull f

-- the wish for a slot like this one
abbrev pub wish_of : HeldSlot → ℕ → ℕ → Wish
wish_of held most millis = wish held.name most millis held.token
