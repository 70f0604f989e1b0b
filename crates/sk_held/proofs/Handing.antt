-- What follows from handing on a front of what was gathered.
use Rattle.std.proofs.Common.{◌≡◌, ◌⊎◌, ℕ, ◌≤◌, [], ◌++◌, Option, Some, None, Result, Ok, Err, take, refl, sym, ap, ◌∙◌, arith, inl, inr, append_assoc, append-nil, is_some, subst}
use Rattle.std.specs.Prelude.{IfOk, OnErr, OnOk}
use Rattle.sk_base.specs.Outside.{Rose, Takes}
use Rattle.sk_base.specs.declared.sink.Sink as a_sink
use Rattle.sk_base.proofs.OutsideLaws.{takes_more, takes_nothing}
use Rattle.sk_held.specs.Counts.{HasSettled}
use Rattle.sk_held.specs.Holding.{Bytes, Hands, IsSince, with_gathered}
use Rattle.sk_held.specs.declared.settler.Settler as a_settler

-- ## Counts

pub rose_from : (a b c : ℕ) → a ≤ b → Rose b c → Rose a c
rose_from a b c le (inl less) = inl (omega arith)
rose_from a b c le (inr last) = inr last

pub rose_on : (a b c : ℕ) → Rose a b → b ≤ c → Rose a c
rose_on a b c (inl less) le = inl (omega arith)
rose_on a b c (inr last) le = inr (omega arith)

-- ## What was taken since

-- More was taken, behind a settle.
pub since_on : (first : Option Bytes) (count : ℕ) (told : Option Bytes) (sent : Bytes) (told' : Option Bytes) (settled : ℕ) (stored : Type 0)
    → IsSince first count told settled stored → Takes told sent told' → HasSettled count settled stored → IsSince first count told' settled stored
since_on first count told sent told' settled stored since took has = record {
  later = since.later;
  sent = since.sent ++ sent;
  took = takes_more first since.sent told sent told' since.took took;
  behind = inr has;
}

-- A settle keeps what is stored, whether it passes or fails.
kept : {E : Type 0} (stored stored' : Type 0) (result : Result (Unit {0}) E) → OnOk result stored' → OnErr result (stored → stored') → stored → stored'
kept stored stored' (Ok x) ok err is = ok
kept stored stored' (Err e) ok err is = err is

-- The settler settled once more, or failed to.
pub since_settled : {E : Type 0} (first : Option Bytes) (count : ℕ) (told : Option Bytes) (settled settled' : ℕ) (stored stored' : Type 0) (result : Result (Unit {0}) E)
    → settled ≤ settled' → OnOk result stored' → OnErr result (stored → stored') → IsSince first count told settled stored → IsSince first count told settled' stored'
since_settled first count told settled settled' stored stored' result le ok err since = record {
  later = omega (arith, le, since.later);
  sent = since.sent;
  took = since.took;
  behind = elim since.behind as (λ _. (since.sent ≡ []) ⊎ HasSettled count settled' stored') [
    | inl none ↦ inl none
    | inr has ↦ inr (record {
      rose = rose_on count settled settled' has.rose le;
      stored = kept stored stored' result ok err has.stored;
    })
  ];
}

-- A write took some of the bytes, or none.
pub some_taken : {E : Type 0} (result : Result ℕ E) (bytes : Bytes) (told told' : Option Bytes)
    → IfOk result (λ n. Takes told (take n bytes) told') → OnErr result (Takes told [] told') → (sent : Bytes) × Takes told sent told'
some_taken (Ok n) bytes told told' ok err = (take n bytes, ok)
some_taken (Err e) bytes told told' ok err = ([], err)

-- ## What is told of a held connection

-- More was due, and the front of it was taken.
pub held_takes : (told : Option Bytes) (gathered more sent : Bytes) (told' : Option Bytes) (kept : Bytes)
    → Takes told sent told' → gathered ++ more ≡ sent ++ kept → Takes (with_gathered told gathered) more (with_gathered told' kept)
held_takes told gathered more sent None kept took order = tt
held_takes None gathered more sent (Some a) kept took order = absurd (let e : None ≡ Some took.0 = took.1 in cc)
held_takes (Some t) gathered more sent (Some a) kept took order =
    let e : t ≡ took.0 = cc took.1 in
    (t ++ gathered, refl, ap (λ z. z ++ kept) (took.2 ∙ ap (λ z. z ++ sent) (sym e)) ∙ append_assoc t sent kept ∙ ap (λ z. t ++ z) (sym order) ∙ sym (append_assoc t gathered more))

-- Nothing more was due.
pub held_same : (told : Option Bytes) (gathered sent : Bytes) (told' : Option Bytes) (kept : Bytes)
    → is_some told ≡ is_some told' → Takes told sent told' → gathered ≡ sent ++ kept → with_gathered told' kept ≡ with_gathered told gathered
held_same None gathered sent None kept steady took order = refl
held_same (Some t) gathered sent None kept steady took order = absurd (cc steady)
held_same None gathered sent (Some a) kept steady took order = absurd (let e : None ≡ Some took.0 = took.1 in cc)
held_same (Some t) gathered sent (Some a) kept steady took order =
    let e : t ≡ took.0 = cc took.1 in
    ap Some (ap (λ z. z ++ kept) (took.2 ∙ ap (λ z. z ++ sent) (sym e)) ∙ append_assoc t sent kept ∙ ap (λ z. t ++ z) (sym order))

-- ## What a call hands on

-- It handed nothing on.
pub hands_none : {C W : Type 0} (Sink : a_sink.Ghosts C) (Settler : a_settler.Ghosts W) (conn conn' : C) (settler settler' : W) (due : Bytes)
    → conn' ≡ conn → Hands Sink Settler conn settler due conn' settler' due
hands_none Sink Settler conn conn' settler settler' due same = record {
  sent = [];
  took = subst (λ z. Takes (Sink.taken conn) [] (Sink.taken z)) (sym same) (takes_nothing (Sink.taken conn));
  order = refl;
  behind = inl refl;
}

-- A settle passed, and then a front was handed on.
pub hands_front : {C W : Type 0} (Sink : a_sink.Ghosts C) (Settler : a_settler.Ghosts W) (conn mid conn' : C) (settler between settler' : W) (due sent kept : Bytes)
    → mid ≡ conn → Rose (Settler.settled settler) (Settler.settled between) → due ≡ sent ++ kept → Takes (Sink.taken mid) sent (Sink.taken conn') → settler' ≡ between
    → Hands Sink Settler conn settler due conn' settler' kept
hands_front Sink Settler conn mid conn' settler between settler' due sent kept same rose order took still = record {
  sent = sent;
  took = subst (λ z. Takes (Sink.taken z) sent (Sink.taken conn')) same took;
  order = order;
  behind = inr (subst (λ z. Rose (Settler.settled settler) (Settler.settled z)) (sym still) rose);
}

-- All that was due was handed on behind a settle, and then more.
pub hands_more : {C W : Type 0} (Sink : a_sink.Ghosts C) (Settler : a_settler.Ghosts W) (conn mid conn' : C) (settler between settler' : W) (due more left kept : Bytes)
    → Hands Sink Settler conn settler due mid between left → left ≡ [] → Rose (Settler.settled settler) (Settler.settled between)
    → Takes (Sink.taken mid) more (Sink.taken conn') → settler' ≡ between → kept ≡ left → Hands Sink Settler conn settler (due ++ more) conn' settler' kept
hands_more Sink Settler conn mid conn' settler between settler' due more left kept hands none rose took still same =
    let whole : due ≡ hands.sent = hands.order ∙ ap (λ z. hands.sent ++ z) none ∙ append-nil hands.sent in
    record {
      sent = hands.sent ++ more;
      took = takes_more (Sink.taken conn) hands.sent (Sink.taken mid) more (Sink.taken conn') hands.took took;
      order = ap (λ z. z ++ more) whole ∙ sym (append-nil (hands.sent ++ more)) ∙ ap (λ z. (hands.sent ++ more) ++ z) (sym (same ∙ none));
      behind = inr (subst (λ z. Rose (Settler.settled settler) (Settler.settled z)) (sym still) rose);
    }

-- Then the connection took nothing more.
pub hands_still : {C W : Type 0} (Sink : a_sink.Ghosts C) (Settler : a_settler.Ghosts W) (conn mid conn' : C) (settler between settler' : W) (due left kept : Bytes)
    → Hands Sink Settler conn settler due mid between left → Sink.taken conn' ≡ Sink.taken mid → settler' ≡ between → kept ≡ left
    → Hands Sink Settler conn settler due conn' settler' kept
hands_still Sink Settler conn mid conn' settler between settler' due left kept hands same still kept_is = record {
  sent = hands.sent;
  took = subst (λ z. Takes (Sink.taken conn) hands.sent z) (sym same) hands.took;
  order = hands.order ∙ ap (λ z. hands.sent ++ z) (sym kept_is);
  behind = subst (λ z. (hands.sent ≡ []) ⊎ Rose (Settler.settled settler) (Settler.settled z)) (sym still) hands.behind;
}

-- The connection took nothing more behind all that was due.
pub hands_all : {C W : Type 0} (Sink : a_sink.Ghosts C) (Settler : a_settler.Ghosts W) (conn mid conn' : C) (settler between settler' : W) (due left kept : Bytes)
    → Hands Sink Settler conn settler due mid between left → left ≡ [] → Rose (Settler.settled settler) (Settler.settled between)
    → Takes (Sink.taken mid) [] (Sink.taken conn') → settler' ≡ between → kept ≡ left → Hands Sink Settler conn settler due conn' settler' kept
hands_all Sink Settler conn mid conn' settler between settler' due left kept hands none rose took still same =
    subst (λ z. Hands Sink Settler conn settler z conn' settler' kept) (append-nil due) (hands_more Sink Settler conn mid conn' settler between settler' due [] left kept hands none rose took still same)

-- ## Results and pairs

pub on_err : {T E Q : Type 0} (result : Result T E) → Q → OnErr result Q
on_err (Ok x) q = tt
on_err (Err e) q = q

pub pair_same : {A : Type 0} (a a' : A) (n n' : ℕ) → a' ≡ a → n' ≡ n → ◌≡◌ {A = A × ℕ} (a', n') (a, n)
pair_same {A = A} a a' n n' e w =
    let left : A → A × ℕ = λ z. (z, n') in
    let right : ℕ → A × ℕ = λ m. (a, m) in
    ap left e ∙ ap right w
