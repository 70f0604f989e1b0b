-- How fetching goes on.
use Rattle.std.proofs.Common.{◌≡◌, ◌∙◌, ◌≤◌, ◌<◌, ◌-◌, inl, inr, ℕ, Bool, true, false, cond, List, [], ◌∷◌, ◌++◌, All, length, map, get_or, take, drop, refl, sym, subst, ap, Result, Ok, Err, arith}
use Rattle.std.proofs.lemmas.Grind.{common_steps}
use Rattle.std.specs.Prelude.{nat_le}
use Rattle.std.proofs.lemmas.List.{get_or_read}
use Rattle.std.proofs.lemmas.List.Elements.{All-get_or}
use Rattle.std.proofs.lemmas.Bool.{leb-true, le-leb}
use Rattle.sk_resp.specs.Spelling.{Bytes}
use Rattle.sk_resp.specs.declared.reply.Reply.{Reply}
use Rattle.sk_resp.specs.declared.reply.Reply.TheVariants as reply
use Rattle.sk_link.specs.Asking.{answers}
use Rattle.sk_link.specs.Call.{Call, answered}
use Rattle.sk_link.specs.declared.asking.Answer.{Answer}
use Rattle.sk_link.specs.declared.asking.Answer.TheVariants as answer
use Rattle.sk_worker.specs.Event.{Event, asked}
use Rattle.sk_worker.specs.Fetching.{FetchStage, FetchLine, FetchStep, FetchTranscript, Holds, in_hand, asking, begins, fetched, fetch, fetches, fetch_start, next_queue, if_room, after_reply}
use Rattle.sk_worker.specs.Request.{fetch_words}
use Rattle.sk_worker.specs.Saying.{Says}
use Rattle.sk_worker.specs.Stage.{Settings}
use Rattle.sk_link.specs.Walk.{Walk}
use Rattle.sk_worker.specs.declared.turn.WorkFault.{WorkFault}
use Rattle.sk_worker.specs.declared.turn.WorkFault.TheVariants as fault
use Rattle.sk_link.proofs.Walks.{walk-append}
use Rattle.sk_worker.proofs.Walks.{broken_later, unsaid}

pub fetch_line : (w : Settings) (ident : Bytes) (prefetch : ℕ) (queue : Bytes) (queues payloads : List Bytes) → w.ident ≡ ident → w.prefetch ≡ prefetch →
    FetchLine w (asking queue queues payloads) (fetch_words ident queue) answer.Popped (after_reply prefetch queue queues payloads)
fetch_line w ident prefetch queue queues payloads e p =
    subst (λ i. FetchLine w (asking queue queues payloads) (fetch_words i queue) answer.Popped (after_reply prefetch queue queues payloads)) e
    (subst (λ n. FetchLine w (asking queue queues payloads) (fetch_words w.ident queue) answer.Popped (after_reply n queue queues payloads)) p (fetch queue queues payloads))

pub fetch_said : (w : Settings) (from : FetchStage) (request : List Bytes) (wanted : Answer) (next : Reply → FetchStage) (r : Reply) →
    FetchLine w from request wanted next → answers wanted r ≡ true → Walk (FetchStep w) from (asked (answered request r) ∷ []) (next r)
fetch_said w from request wanted next r line ok = (next r, fetches from request wanted next r line ok, refl)

pub fetch_after : (w : Settings) (from mid : FetchStage) (xs ys : List Event) (held : List Bytes) (result : Result (Unit {0}) WorkFault) →
    Walk (FetchStep w) from xs mid → FetchTranscript w mid ys held result → FetchTranscript w from (xs ++ ys) held result
fetch_after w from mid xs ys held (Ok done) p q = walk-append (FetchStep w) from mid (fetched held) xs ys p q
fetch_after w from mid xs ys held (Err f) p q = (q.0, broken_later (FetchLine w) (FetchStep w) (λ _. ⊥) from mid q.0 xs ys f p q.1, q.2)

-- ## What is held after a fault

pub holds_all : (f : WorkFault) (payloads : List Bytes) → Holds f payloads payloads
holds_all (fault.Link l) payloads = refl
holds_all (fault.Refused r) payloads = refl
holds_all fault.GenLimit payloads = refl
holds_all fault.Ended payloads = refl
holds_all fault.Memory payloads = inl refl

pub fetch_unsaid : (P : List Call → Type 0) (w : Settings) (queue : Bytes) (queues held : List Bytes) (request : List Bytes) (wanted : Answer)
    (next : Reply → FetchStage) (f : WorkFault) → FetchLine w (asking queue queues held) request wanted next → Says P request wanted (Err f) →
    (cs : List Call) × P cs × FetchTranscript w (asking queue queues held) (map asked cs) held (Err f)
fetch_unsaid P w queue queues held request wanted next f line s =
    let u = unsaid P (FetchLine w) (FetchStep w) (λ _. ⊥) (asking queue queues held) request wanted next f line s in
    (u.0, u.1, (asking queue queues held, u.2, holds_all f held))

hand_cond : (full : Bool) (queue : Bytes) (queues payloads : List Bytes) → in_hand (cond full (fetched payloads) (asking queue queues payloads)) ≡ payloads
hand_cond true queue queues payloads = refl
hand_cond false queue queues payloads = refl

hand_begins : (full : Bool) (before : List Bytes) → in_hand (cond full (fetched before) (begins before)) ≡ before
hand_begins true before = refl
hand_begins false before = refl

pub hand_start : (w : Settings) (before : List Bytes) → in_hand (fetch_start w before) ≡ before
hand_start w before = hand_begins (nat_le w.prefetch (length before)) before

-- what is in hand after a reply with a payload, of which there was no memory to hold the newest
pub without_newest : (prefetch : ℕ) (queue : Bytes) (queues held kept : List Bytes) (r : Reply) (c : Bytes) → r ≡ reply.Bulk c → kept ≡ held →
    Holds fault.Memory (in_hand (after_reply prefetch queue queues held r)) kept
without_newest prefetch queue queues held kept r c is same =
    inr (
      c,
      ap (λ r. in_hand (after_reply prefetch queue queues held r)) is ∙ (hand_cond (nat_le prefetch (length (held ++ c ∷ []))) queue queues (held ++ c ∷ [])
          ∙ ap (λ payloads. payloads ++ c ∷ []) (sym same)),
    )

-- ## Room

no_leb : (a b : ℕ) → b < a → (t : Bool) → nat_le a b ≡ t → t ≡ false
no_leb a b h true e = let no : ⊥ = omega (arith, leb-true a b e, h) in absurd no
no_leb a b h false e = refl

lt-leb : (a b : ℕ) → b < a → nat_le a b ≡ false
lt-leb a b h = no_leb a b h (nat_le a b) refl

pub full : (prefetch n : ℕ) (payloads : List Bytes) (next : FetchStage) → n ≡ length payloads → prefetch ≤ n → if_room prefetch payloads next ≡ fetched payloads
full prefetch n payloads next e h = ap (λ b. cond b (fetched payloads) next) (le-leb prefetch (length payloads) (omega arith))

pub room : (prefetch n : ℕ) (payloads : List Bytes) (next : FetchStage) → n ≡ length payloads → n < prefetch → if_room prefetch payloads next ≡ next
room prefetch n payloads next e h = ap (λ b. cond b (fetched payloads) next) (lt-leb prefetch (length payloads) (omega arith))

-- ## Places

pub first_place : (f : ℕ → Bytes) (places : List ℕ) (payloads : List Bytes) → 1 ≤ length places →
    next_queue (map f places) payloads ≡ asking (f (get_or places 0 0)) (map f (drop 1 places)) payloads
first_place f [] payloads h = let no : ⊥ = omega (arith, h) in absurd no
first_place f (place ∷ places) payloads h = refl

pub no_place : (f : ℕ → Bytes) (places : List ℕ) (payloads : List Bytes) → length places ≡ 0 → next_queue (map f places) payloads ≡ fetched payloads
no_place f [] payloads h = refl
no_place f (place ∷ places) payloads h = let no : ⊥ = omega (arith, h) in absurd no

pub rest_is : (places : List ℕ) → take (length places - 1) (drop 1 places) ≡ drop 1 places
rest_is places = grind (arith, common_steps)

pub after_other : (prefetch : ℕ) (queue : Bytes) (queues payloads : List Bytes) (r : Reply) → ((c : Bytes) → r ≡ reply.Bulk c → ⊥) →
    after_reply prefetch queue queues payloads r ≡ next_queue queues payloads
after_other prefetch queue queues payloads (reply.Bulk c) h = absurd (h c refl)
after_other prefetch queue queues payloads r h = refl

-- the name that is asked next, among the names of all queues
abbrev pub named : List Bytes → ℕ → Bytes
named names place = get_or names place []

pub first_named : (names : List Bytes) (places : List ℕ) (payloads : List Bytes) (queue : Bytes) → 1 ≤ length places → All (λ place. place < length names) places →
    queue ≡ get_or names (get_or places 0 0) queue → next_queue (map (named names) places) payloads ≡ asking queue (map (named names) (drop 1 places)) payloads
first_named names places payloads queue some known is = first_place (named names) places payloads some
    ∙ ap (λ q. asking q (map (named names) (drop 1 places)) payloads) (sym (get_or_read names (get_or places 0 0) queue (All-get_or (λ place. place < length names) places 0 0 some known) is []))

pub first_asked : (names : List Bytes) (places : List ℕ) (payloads : List Bytes) (prefetch n : ℕ) (queue : Bytes) → n ≡ length payloads → n < prefetch → 1 ≤ length places →
    All (λ place. place < length names) places → queue ≡ get_or names (get_or places 0 0) queue →
    if_room prefetch payloads (next_queue (map (named names) places) payloads) ≡ asking queue (map (named names) (drop 1 places)) payloads
first_asked names places payloads prefetch n queue e h some known is = room prefetch n payloads _ e h ∙ first_named names places payloads queue some known is
