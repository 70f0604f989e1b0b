-- How a call goes on behind its GET, event by event: a view of its transcript that fronts keep.
use Rattle.std.proofs.Common.{◌≡◌, ◌∙◌, ◌⊎◌, inl, inr, ◌<◌, ◌≤◌, ◌+◌, ◌%◌, ◌==◌, ◌&&◌, ℕ, zero, suc, Bool, true, false, not, List, [], ◌∷◌, ◌++◌, map, refl, sym, ap, subst, Result, Ok, Err, append_assoc, arith}
use Rattle.std.proofs.Math.Nat.{eq-or-lt_of_le, mod-eq_of_lt, mod_self, suc-mod}
use Rattle.std.specs.Bool.{MatchBool}
use Rattle.std.specs.List.{list_all}
use Rattle.sk_resp.specs.Spelling.{Bytes}
use Rattle.sk_resp.specs.declared.reply.Reply.{Reply}
use Rattle.sk_link.specs.declared.link.LinkFault.{LinkFault}
use Rattle.sk_worker.specs.declared.job.Outcome.{Outcome}
use Rattle.sk_worker.specs.declared.job.Outcome.TheVariants as outcome
use Rattle.sk_iter.specs.Deeds.{Deed, Pace, deed_of, is_saved, raised_at, returned, returned_one, runs, save_if, saves, sends, whole}
use Rattle.sk_iter.specs.Event.{Event, asked, ran}
use Rattle.sk_iter.specs.Performs.{EndsAtSave, EndsIn, Front, is_accepted, is_kept}
use Rattle.sk_iter.specs.Request.{set_words}
use Rattle.sk_iter.specs.declared.iter_end.IterEnd.{IterEnd}
use Rattle.sk_iter.specs.declared.iter_end.IterEnd.TheVariants.{Done, Paused, Raised}
use Rattle.sk_iter.specs.declared.iter_end.IterFault.{IterFault}
use Rattle.sk_iter.specs.declared.iter_end.IterFault.TheVariants as fault

-- by what an item came to
abbrev pub ByOutcome : Outcome → Type 0 → Type 0 → Type 0
ByOutcome outcome.Returned P Q = P
ByOutcome (outcome.Raised it) P Q = Q

-- ## Deeds

-- behind an item that raised there is at most a save
abbrev pub LastDeed : Pace → ℕ → List Deed → Type 0
LastDeed p n [] = Unit {0}
LastDeed p n (sends words ∷ ds) = (words ≡ set_words p.jid (p.cursor + n)) × (ds ≡ [])
LastDeed p n (runs item ∷ ds) = ⊥

-- The deeds go on where `n` items have returned, so many of them since the last save.
abbrev pub DeedsAlong : Pace → ℕ → ℕ → List Deed → Type 0
DeedsAlong p n since [] = Unit {0}
DeedsAlong p n since (sends words ∷ ds) = (words ≡ set_words p.jid (p.cursor + n)) × DeedsAlong p n 0 ds
DeedsAlong p n since (runs item ∷ ds) =
    (item.index ≡ p.cursor + n) × (since < p.every) × ByOutcome item.outcome (DeedsAlong p (n + 1) (since + 1) ds) (LastDeed p n ds)

save_last : (p : Pace) (n : ℕ) (b : Bool) → LastDeed p n (save_if b p.jid (p.cursor + n))
save_last p n true = (refl, refl)
save_last p n false = tt

save_along : (p : Pace) (n since : ℕ) (b : Bool) → DeedsAlong p n since (save_if b p.jid (p.cursor + n))
save_along p n since true = (refl, tt)
save_along p n since false = tt

below_mod : (n e : ℕ) → 1 ≤ e → n % e < e
below_mod n e some = omega arith

next_mod : (n e : ℕ) → 1 ≤ e → (n + 1) % e == 0 ≡ false → (n + 1) % e ≡ n % e + 1
next_mod n e some not_zero = by_size (eq-or-lt_of_le (up (below_mod n e some))) where
  up : n % e < e → n % e + 1 ≤ e
  up lt = omega (arith, lt)

  step : (n + 1) % e ≡ (n % e + 1) % e
  step = let a : n + 1 ≡ suc n = omega arith in let b : suc (n % e) ≡ n % e + 1 = omega arith in ap (λ k. k % e) a ∙ suc-mod n e ∙ ap (λ k. k % e) b

  by_size : (n % e + 1 ≡ e) ⊎ (n % e + 1 < e) → (n + 1) % e ≡ n % e + 1
  by_size (inr lt) = step ∙ mod-eq_of_lt lt
  by_size (inl eq) = let z : (n + 1) % e ≡ 0 = step ∙ ap (λ k. k % e) eq ∙ mod_self e in absurd (cc (sym (ap (λ k. k == 0) z) ∙ not_zero))

zero_mod : (n e : ℕ) → n % e == 0 ≡ true → n % e ≡ 0
zero_mod n e is = grind (arith, is)

-- one more item, and what follows it
one_along : (p : Pace) (n : ℕ) (tail : List Deed) → 1 ≤ p.every → DeedsAlong p (n + 1) ((n + 1) % p.every) tail → DeedsAlong p n (n % p.every) (returned_one p n ++ tail)
one_along p n tail some then_ = (refl, below_mod n p.every some, by_save (is_saved p.every (n + 1)) refl) where
  by_save : (b : Bool) → is_saved p.every (n + 1) ≡ b → DeedsAlong p (n + 1) (n % p.every + 1) (save_if b p.jid (p.cursor + (n + 1)) ++ tail)
  by_save true is = (refl, subst (λ k. DeedsAlong p (n + 1) k tail) (zero_mod (n + 1) p.every is) then_)
  by_save false is = subst (λ k. DeedsAlong p (n + 1) k tail) (next_mod n p.every some is) then_

returned_along : (p : Pace) (n : ℕ) (tail : List Deed) → 1 ≤ p.every → DeedsAlong p n (n % p.every) tail → DeedsAlong p 0 0 (returned p n ++ tail)
unfolding returned
returned_along p zero tail some then_ = let z : 0 % p.every ≡ 0 = omega arith in subst (λ k. DeedsAlong p 0 k tail) z then_
returned_along p (suc n) tail some then_ =
    let e : suc n ≡ n + 1 = omega arith in
    let later : DeedsAlong p (n + 1) ((n + 1) % p.every) tail = subst (λ m. DeedsAlong p m (m % p.every) tail) e then_ in
    subst (DeedsAlong p 0 0) (sym (append_assoc (returned p n) (returned_one p n) tail)) (returned_along p n (returned_one p n ++ tail) some (one_along p n tail some later))

end_along : (p : Pace) (n : ℕ) (end : IterEnd) → 1 ≤ p.every → DeedsAlong p n (n % p.every) (raised_at p n end ++ save_if (not (is_saved p.every n)) p.jid (p.cursor + n))
end_along p n Done some = save_along p n (n % p.every) (not (is_saved p.every n))
end_along p n (Paused next) some = save_along p n (n % p.every) (not (is_saved p.every n))
end_along p n (Raised index it) some = (refl, below_mod n p.every some, save_last p n (not (is_saved p.every n)))

pub whole_along : (p : Pace) (n : ℕ) (end : IterEnd) → 1 ≤ p.every → DeedsAlong p 0 0 (whole p n end)
whole_along p n end some =
    subst (DeedsAlong p 0 0) (sym (append_assoc (returned p n) (raised_at p n end) (save_if (not (is_saved p.every n)) p.jid (p.cursor + n))))
    (returned_along p n (raised_at p n end ++ save_if (not (is_saved p.every n)) p.jid (p.cursor + n)) some (end_along p n end some))

-- ## Events

abbrev pub LastEvent : Pace → ℕ → List Event → Type 0
LastEvent p n [] = Unit {0}
LastEvent p n (asked call ∷ es) = (call.request ≡ set_words p.jid (p.cursor + n)) × (es ≡ [])
LastEvent p n (ran item ∷ es) = ⊥

-- The events go on so; a save that wasn't accepted is the last one.
abbrev pub Along : Pace → ℕ → ℕ → List Event → Type 0
Along p n since [] = Unit {0}
Along p n since (asked call ∷ es) = (call.request ≡ set_words p.jid (p.cursor + n)) × MatchBool (is_accepted call.reply) (Along p n 0 es) (es ≡ [])
Along p n since (ran item ∷ es) =
    (item.index ≡ p.cursor + n) × (since < p.every) × ByOutcome item.outcome (Along p (n + 1) (since + 1) es) (LastEvent p n es)

both_true : (a b : Bool) → (a && b) ≡ true → (a ≡ true) × (b ≡ true)
both_true true b e = (refl, e)
both_true false b e = absurd (cc e)

where_true : (b : Bool) (P Q : Type 0) → b ≡ true → P → MatchBool b P Q
where_true true P Q e x = x
where_true false P Q e x = absurd (cc e)

either : (b : Bool) (P Q : Type 0) → P → Q → MatchBool b P Q
either true P Q x y = x
either false P Q x y = y

none_left : (es : List Event) (left : List Deed) → (map deed_of es ++ left) ≡ [] → es ≡ []
none_left [] left e = refl
none_left (e ∷ es) left is = absurd (cc is)

last_front : (p : Pace) (n : ℕ) (es : List Event) (left : List Deed) → LastDeed p n (map deed_of es ++ left) → LastEvent p n es
last_front p n [] left h = tt
last_front p n (asked call ∷ es) left h = (h.0, none_left es left h.1)
last_front p n (ran item ∷ es) left h = h

-- a front of the deeds, whose saves were accepted
along_front : (p : Pace) (n since : ℕ) (es : List Event) (left : List Deed) → DeedsAlong p n since (map deed_of es ++ left) → list_all is_kept es ≡ true → Along p n since es
along_front p n since [] left h kept = tt
along_front p n since (asked call ∷ es) left h kept =
    let k = both_true (is_accepted call.reply) (list_all is_kept es) kept in
    (h.0, where_true (is_accepted call.reply) (Along p n 0 es) (es ≡ []) k.0 (along_front p n 0 es left h.1 k.1))
along_front p n since (ran item ∷ es) left h kept = (h.0, h.1, by_outcome item.outcome (λ d. along_front p (n + 1) (since + 1) es left d kept) h.2) where
  by_outcome : (o : Outcome) → (DeedsAlong p (n + 1) (since + 1) (map deed_of es ++ left) → Along p (n + 1) (since + 1) es) →
      ByOutcome o (DeedsAlong p (n + 1) (since + 1) (map deed_of es ++ left)) (LastDeed p n (map deed_of es ++ left)) → ByOutcome o (Along p (n + 1) (since + 1) es) (LastEvent p n es)
  by_outcome outcome.Returned more d = more d
  by_outcome (outcome.Raised it) more d = last_front p n es left d

no_more : (jid : Bytes) (next : ℕ) (es : List Event) (left : List Deed) → map deed_of es ++ saves jid next ∷ left ≡ [] → ⊥
no_more jid next [] left e = cc e
no_more jid next (e ∷ es) left is = cc is

last_save : (p : Pace) (n next : ℕ) (es : List Event) (left : List Deed) (reply : Result Reply LinkFault) → LastDeed p n (map deed_of es ++ saves p.jid next ∷ left) →
    LastEvent p n (es ++ asked (record { request = set_words p.jid next; reply = reply }) ∷ [])
last_save p n next [] left reply h = (h.0, refl)
last_save p n next (asked call ∷ es) left reply h = absurd (no_more p.jid next es left h.1)
last_save p n next (ran item ∷ es) left reply h = absurd h

-- and then a save with any reply
along_save : (p : Pace) (n since next : ℕ) (es : List Event) (left : List Deed) (reply : Result Reply LinkFault) → DeedsAlong p n since (map deed_of es ++ saves p.jid next ∷ left) →
    list_all is_kept es ≡ true → Along p n since (es ++ asked (record { request = set_words p.jid next; reply = reply }) ∷ [])
along_save p n since next [] left reply h kept = (h.0, either (is_accepted reply) (Along p n 0 []) ([] ≡ []) tt refl)
along_save p n since next (asked call ∷ es) left reply h kept =
    let k = both_true (is_accepted call.reply) (list_all is_kept es) kept in
    (h.0, where_true (is_accepted call.reply) _ _ k.0 (along_save p n 0 next es left reply h.1 k.1))
along_save p n since next (ran item ∷ es) left reply h kept = (h.0, h.1, by_outcome item.outcome (λ d. along_save p (n + 1) (since + 1) next es left reply d kept) h.2) where
  by_outcome : (o : Outcome) → (DeedsAlong p (n + 1) (since + 1) (map deed_of es ++ saves p.jid next ∷ left) →
      Along p (n + 1) (since + 1) (es ++ asked (record { request = set_words p.jid next; reply = reply }) ∷ [])) →
      ByOutcome o (DeedsAlong p (n + 1) (since + 1) (map deed_of es ++ saves p.jid next ∷ left)) (LastDeed p n (map deed_of es ++ saves p.jid next ∷ left)) →
      ByOutcome o (Along p (n + 1) (since + 1) (es ++ asked (record { request = set_words p.jid next; reply = reply }) ∷ []))
      (LastEvent p n (es ++ asked (record { request = set_words p.jid next; reply = reply }) ∷ []))
  by_outcome outcome.Returned more d = more d
  by_outcome (outcome.Raised it) more d = last_save p n next es left reply d

-- ## Whole calls, and fronts of them

front_along : (p : Pace) (n : ℕ) (end : IterEnd) (es : List Event) (left : List Deed) → 1 ≤ p.every → Front es left (whole p n end) → Along p 0 0 es
front_along p n end es left some f = along_front p 0 0 es left (subst (DeedsAlong p 0 0) (sym f.are) (whole_along p n end some)) f.kept

save_ends_along : (p : Pace) (n : ℕ) (end : IterEnd) (es : List Event) (reply : Result Reply LinkFault) → 1 ≤ p.every → EndsAtSave p.jid (whole p n end) es reply → Along p 0 0 es
save_ends_along p n end es reply some s =
    subst (Along p 0 0) (sym s.are) (along_save p 0 0 s.next s.done s.left reply (subst (DeedsAlong p 0 0) (sym s.front.are) (whole_along p n end some)) s.front.kept)

pub ends_along : {T : Type 0} (p : Pace) (n : ℕ) (end : IterEnd) (es : List Event) (result : Result T IterFault) → 1 ≤ p.every → EndsIn p.jid (whole p n end) es result → Along p 0 0 es
ends_along p n end es (Ok x) some h = front_along p n end es [] some h
ends_along p n end es (Err (fault.Cursor r)) some h = absurd h
ends_along p n end es (Err (fault.Link f)) some h = save_ends_along p n end es (Err f) some h
ends_along p n end es (Err (fault.Refused r)) some h = save_ends_along p n end es (Ok r) some h.0
ends_along p n end es (Err fault.Memory) some h = front_along p n end es h.0 some h.1

last_cut : (p : Pace) (n : ℕ) (es more : List Event) → LastEvent p n (es ++ more) → LastEvent p n es
last_cut p n [] more h = tt
last_cut p n (asked call ∷ []) more h = (h.0, refl)
last_cut p n (asked call ∷ e ∷ es) more h = absurd (cc h.1)
last_cut p n (ran item ∷ es) more h = h

none_first : (es more : List Event) → es ++ more ≡ [] → es ≡ []
none_first [] more e = refl
none_first (e ∷ es) more is = absurd (cc is)

-- a call that was cut off
pub along_cut : (p : Pace) (n since : ℕ) (es more : List Event) → Along p n since (es ++ more) → Along p n since es
along_cut p n since [] more h = tt
along_cut p n since (asked call ∷ es) more h = (h.0, by_reply (is_accepted call.reply) (λ d. along_cut p n 0 es more d) h.1) where
  by_reply : (b : Bool) → (Along p n 0 (es ++ more) → Along p n 0 es) → MatchBool b (Along p n 0 (es ++ more)) (es ++ more ≡ []) → MatchBool b (Along p n 0 es) (es ≡ [])
  by_reply true cut d = cut d
  by_reply false cut d = none_first es more d
along_cut p n since (ran item ∷ es) more h = (h.0, h.1, by_outcome item.outcome (λ d. along_cut p (n + 1) (since + 1) es more d) h.2) where
  by_outcome : (o : Outcome) → (Along p (n + 1) (since + 1) (es ++ more) → Along p (n + 1) (since + 1) es) →
      ByOutcome o (Along p (n + 1) (since + 1) (es ++ more)) (LastEvent p n (es ++ more)) → ByOutcome o (Along p (n + 1) (since + 1) es) (LastEvent p n es)
  by_outcome outcome.Returned cut d = cut d
  by_outcome (outcome.Raised it) cut d = last_cut p n es more d
