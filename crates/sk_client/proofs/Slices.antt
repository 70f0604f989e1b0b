-- Slices, one after another.
use Rattle.std.proofs.Common.{◌≡◌, ◌<◌, ◌≤◌, ◌+◌, ◌-◌, ◌^◌, ℕ, true, false, List, [], ◌∷◌, ◌++◌, length, drop, get_or, Result, Ok, Err, All, zero, suc, refl, sym, subst, ap, ◌∙◌, arith, length-take, length-drop, drop-cons, append-nil, take}
use Rattle.std.proofs.lemmas.Grind.{common_steps}
use Rattle.std.proofs.lemmas.List.{take_more, get_or-take, drop-drop, take-append-drop}
use Rattle.std.proofs.lemmas.List.Elements.{All-get_or}
use Rattle.sk_resp.specs.Spelling.{Bytes, total_length}
use Rattle.sk_resp.specs.declared.reply.Reply.{Reply}
use Rattle.sk_link.specs.Asking.{is_number}
use Rattle.sk_link.specs.Call.{Call, answered}
use Rattle.sk_link.specs.declared.asking.Answer.TheVariants as answer
use Rattle.sk_link.specs.declared.link.LinkFault.{LinkFault}
use Rattle.sk_resp.specs.declared.reply.Reply.TheVariants as reply
use Rattle.sk_client.specs.Push.{Accepted, Fails, accepts}
use Rattle.sk_client.specs.Making.{IsOfNoDraft, lpush_slice}
use Rattle.sk_client.specs.Requests.{lpush_words}
use Rattle.sk_client.specs.Bulk.{EndsAtSlice, IsSlice, PushesSlices, PushesFirst, StopsAt, is_counted, request_length}
use Rattle.sk_client.specs.declared.client_fault.ClientFault.{ClientFault}
use Rattle.sk_client.specs.declared.client_fault.ClientFault.TheVariants as fault

total_length-append : (xs ys : List Bytes) → total_length (xs ++ ys) ≡ total_length xs + total_length ys
total_length-append [] ys = omega arith
total_length-append (x ∷ xs) ys = omega (arith, total_length-append xs ys)

-- one more text
pub request_length-more : (queue : Bytes) (xs : List Bytes) (text : Bytes) → request_length queue (xs ++ text ∷ []) ≡ request_length queue xs + length text
request_length-more queue xs text = omega (arith, total_length-append xs (text ∷ []))

pub request_length-none : (queue : Bytes) → request_length queue [] ≡ 11 + length queue
request_length-none queue = omega arith

-- one more slice
pub PushesSlices-more : (queue : Bytes) (most : ℕ) (texts : List Bytes) (calls : List Call) (left slice rest : List Bytes) (call : Call) →
    PushesSlices queue most texts calls left → IsSlice queue most left slice rest → call.request ≡ lpush_words queue slice → is_counted call.reply ≡ true →
    PushesSlices queue most texts (calls ++ call ∷ []) rest
PushesSlices-more queue most texts [] left slice rest call p next asked accepted =
    (slice, rest, subst (λ xs. IsSlice queue most xs slice rest) p next, asked, accepted, refl)
PushesSlices-more queue most texts (c ∷ calls) left slice rest call p next asked accepted =
    (p.0, p.1, p.2, p.3, p.4, PushesSlices-more queue most p.1 calls left slice rest call p.5 next asked accepted)

some : (n : ℕ) → (n ≡ 0 → ⊥) → 0 < n
some zero not_zero = absurd (not_zero refl)
some (suc n) not_zero = omega arith

take-take : (n m : ℕ) (xs : List Bytes) → n ≤ m → take n (take m xs) ≡ take n xs
take-take n m xs h = grind (arith, common_steps)

-- What is next in a list is the item at that index.
next_is : (n : ℕ) (xs more : List Bytes) (next d : Bytes) → n < length xs → drop n xs ≡ next ∷ more → next ≡ get_or xs n d
next_is n xs more next d h e = let f = drop-cons xs n d h in cc

room_at_none : (queue : Bytes) (room n : ℕ) (xs : List Bytes) → n ≡ 0 → room + request_length queue (take n xs) ≡ 2 ^ 24 → room + (11 + length queue) ≡ 2 ^ 24
room_at_none queue room n xs none full =
    let nothing : take n xs ≡ [] = ap (λ i. take i xs) none in
    let bytes : request_length queue (take n xs) ≡ 11 + length queue = ap (request_length queue) nothing ∙ request_length-none queue in
    omega arith

-- The room that is left behind one more text.
pub room_behind : (queue : Bytes) (n room : ℕ) (part : List Bytes) (text : Bytes) → room + request_length queue (take n part) ≡ 2 ^ 24 → n < length part
    → text ≡ get_or part n text → length text ≤ room → (room - length text) + request_length queue (take (n + 1) part) ≡ 2 ^ 24
room_behind queue n room part text full at item fits =
    let more : take (n + 1) part ≡ take n part ++ text ∷ [] = take_more part n text at ∙ ap (λ t. take n part ++ t ∷ []) (sym item) in
    let bytes : request_length queue (take (n + 1) part) ≡ request_length queue (take n part) + length text =
    ap (request_length queue) more ∙ request_length-more queue (take n part) text in
    omega arith

-- A slice that ends early, since its request has no room for the next text.
pub IsSlice-early : (queue : Bytes) (most end n room : ℕ) (texts : List Bytes) (text : Bytes) → end ≤ most → length queue ≤ 255
    → All (λ t. length t ≤ 1000000) texts → room + request_length queue (take n (take end texts)) ≡ 2 ^ 24 → n < length (take end texts)
    → text ≡ get_or (take end texts) n text → room < length text → IsSlice queue most texts (take n texts) (drop n texts)
IsSlice-early queue most end n room texts text below name short full at item over =
    let within : (n < end) × (n < length texts) = (omega (arith, length-take end texts), omega (arith, length-take end texts)) in
    let front : take n (take end texts) ≡ take n texts = take-take n end texts (omega arith) in
    let filled : room + request_length queue (take n texts) ≡ 2 ^ 24 = rw front at full in
    let item_is : text ≡ get_or texts n text = item ∙ get_or-take end texts n text within.0 in
    let size : length (get_or texts n text) ≤ 1000000 = All-get_or (λ t. length t ≤ 1000000) texts n text within.1 short in
    let text_size : length text ≤ 1000000 = subst (λ t. length t ≤ 1000000) (sym item_is) size in
    record {
      is = sym (take-append-drop n texts);
      some = let positive : 0 < n = some n (λ e. let all : room + (11 + length queue) ≡ 2 ^ 24 = room_at_none queue room n (take end texts) e full in omega arith) in omega (arith, length-take n texts);
      few = omega (arith, length-take n texts);
      small = omega arith;
      full = λ next more h e.
          let next_text : next ≡ text = next_is n texts more next text within.1 e ∙ sym item_is in
          let longer = request_length-more queue (take n texts) next in
          let sizes : length next ≡ length text = ap length next_text in omega arith;
    }

-- ## What the link carried

number_accepted : (r : Reply) → accepts answer.Number r ≡ true → is_number r ≡ true
number_accepted (reply.Say s) e = e
number_accepted (reply.Simple text) e = e
number_accepted (reply.Error text) e = e
number_accepted (reply.Int n) e = e
number_accepted (reply.Bulk bytes) e = e
number_accepted reply.Null e = e
number_accepted (reply.Array texts) e = e
number_accepted reply.NullArray e = e

-- A request without a reply leaves what was carried.
unchanged : (Before After Whole : List Call → Type 0) → ((xs ys : List Call) → Before xs → After ys → Whole (xs ++ ys))
    → (queue : Bytes) (most : ℕ) (texts : List Bytes) (sent : ℕ) → PushesFirst Before queue most texts sent → After [] → PushesFirst Whole queue most texts sent
unchanged Before After Whole join queue most texts sent p none =
    (p.0, subst Whole (append-nil p.0) (join p.0 [] p.1 none), p.2, p.3)

-- One more slice was accepted.
pub PushesFirst-more : (Before After Whole : List Call → Type 0) → ((xs ys : List Call) → Before xs → After ys → Whole (xs ++ ys))
    → (queue : Bytes) (most sent n : ℕ) (texts slice left : List Bytes) → left ≡ drop sent texts → n ≤ length left
    → PushesFirst Before queue most texts sent → IsSlice queue most left slice (drop n left) → Accepted After (lpush_slice queue slice)
    → PushesFirst Whole queue most texts (sent + n)
PushesFirst-more Before After Whole join queue most sent n texts slice left is_left within p next accepted =
    let call : Call = answered (lpush_words queue slice) accepted.0 in
    let behind : drop n left ≡ drop (sent + n) texts = ap (drop n) is_left ∙ drop-drop n sent texts in
    let front : IsSlice queue most (drop sent texts) slice (drop (sent + n) texts) =
    subst (λ xs. IsSlice queue most xs slice (drop (sent + n) texts)) is_left (subst (λ rest. IsSlice queue most left slice rest) behind next) in
    let sizes : length left ≡ length texts - sent = ap length is_left ∙ length-drop sent texts in (
      p.0 ++ call ∷ [],
      join p.0 (call ∷ []) p.1 accepted.1.1,
      omega arith,
      PushesSlices-more queue most texts p.0 (drop sent texts) slice (drop (sent + n) texts) call p.3 front refl (number_accepted accepted.0 accepted.1.2),
    )

-- what came of the request of the next slice
at_slice : (Before After Whole : List Call → Type 0) → ((xs ys : List Call) → Before xs → After ys → Whole (xs ++ ys))
    → (queue : Bytes) (most sent n : ℕ) (texts slice left : List Bytes) → left ≡ drop sent texts
    → PushesFirst Before queue most texts sent → IsSlice queue most left slice (drop n left) → (reply : Result Reply LinkFault)
    → After (record { request = lpush_words queue slice; reply = reply } ∷ []) → EndsAtSlice Whole queue most texts sent reply
at_slice Before After Whole join queue most sent n texts slice left is_left p next reply came = record {
  calls = p.0;
  slice = slice;
  rest = drop n left;
  within = p.2;
  pushed = p.3;
  next = subst (λ xs. IsSlice queue most xs slice (drop n left)) is_left next;
  carried = join p.0 _ p.1 came;
}

-- The next slice wasn't accepted.
pub StopsAt-next : (Before After Whole : List Call → Type 0) → ((xs ys : List Call) → Before xs → After ys → Whole (xs ++ ys))
    → (queue : Bytes) (most sent n : ℕ) (texts slice left : List Bytes) → left ≡ drop sent texts
    → PushesFirst Before queue most texts sent → IsSlice queue most left slice (drop n left) → (f : ClientFault)
    → IsOfNoDraft f → Fails After (lpush_slice queue slice) f → StopsAt Whole queue most texts sent f
StopsAt-next Before After Whole join queue most sent n texts slice left is_left p next (fault.Draft f) no_draft h = absurd no_draft
StopsAt-next Before After Whole join queue most sent n texts slice left is_left p next (fault.Link f) no_draft h =
    at_slice Before After Whole join queue most sent n texts slice left is_left p next (Err f) h.1
StopsAt-next Before After Whole join queue most sent n texts slice left is_left p next (fault.Refused r) no_draft h =
    (at_slice Before After Whole join queue most sent n texts slice left is_left p next (Ok r) h.1, h.2)
StopsAt-next Before After Whole join queue most sent n texts slice left is_left p next (fault.Held jid) no_draft h = absurd (let e : false ≡ true = h.2 in cc)
StopsAt-next Before After Whole join queue most sent n texts slice left is_left p next fault.Memory no_draft h =
    unchanged Before After Whole join queue most texts sent p h
