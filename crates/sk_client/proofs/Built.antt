-- Lists of drafts, joined: what the first fault of the whole is.
use Rattle.std.proofs.Common.{◌≡◌, List, [], ◌∷◌, ◌++◌, Option, Some, None, refl, ap, ◌∙◌, take, drop, get_or, length, ◌+◌, ◌<◌, ◌≤◌, ℕ, suc, Bool, true, false, ◌&&◌, nat_le, nat_lt, All, sym, subst, arith, drop-cons}
use Rattle.std.proofs.lemmas.Bool.{leb-true}
use Rattle.std.proofs.lemmas.List.{take_more, take-append-drop, map-append}
use Rattle.std.proofs.lemmas.List.Elements.{All-cons}
use Rattle.std.specs.List.{list_all, slice_get}
use Rattle.std.specs.Str.{is_utf8}
use Rattle.std.specs.Option.{option_or}
use Rattle.sk_resp.specs.Spelling.{Bytes}
use Rattle.sk_payload.specs.Draft.{draft_fault, draft_text, is_named, is_shallow, is_retry, is_seconds, none_or, args_data, unless}
use Rattle.sk_payload.specs.Member.{is_name, is_visible}
use Rattle.sk_payload.specs.Json.{is_whole}
use Rattle.sk_payload.specs.declared.draft_fault.DraftFault.TheVariants as why
use Rattle.sk_payload.specs.declared.draft.JobDraft.{JobDraft}
use Rattle.sk_payload.specs.declared.draft_fault.DraftFault.{DraftFault}
use Rattle.sk_client.specs.Drafts.{first_fault, AreBuilt, texts}
use Rattle.sk_client.specs.Making.{NotBuilt}
use Rattle.sk_client.specs.Bulk.{queue_of}
use Rattle.sk_client.specs.declared.client_fault.ClientFault.{ClientFault}
use Rattle.sk_client.specs.declared.client_fault.ClientFault.TheVariants as fault

or-assoc : (a b c : Option DraftFault) → option_or a (option_or b c) ≡ option_or (option_or a b) c
or-assoc None b c = refl
or-assoc (Some f) b c = refl

pub first_fault-append : (xs ys : List JobDraft) → first_fault (xs ++ ys) ≡ option_or (first_fault xs) (first_fault ys)
first_fault-append [] ys = refl
first_fault-append (x ∷ xs) ys = ap (λ o. option_or (draft_fault x) o) (first_fault-append xs ys) ∙ or-assoc (draft_fault x) (first_fault xs) (first_fault ys)

-- behind drafts that can be built
pub first_fault-behind : (xs ys : List JobDraft) → AreBuilt xs → first_fault (xs ++ ys) ≡ first_fault ys
first_fault-behind xs ys built = first_fault-append xs ys ∙ ap (λ o. option_or o (first_fault ys)) built

pub AreBuilt-append : (xs ys : List JobDraft) → AreBuilt xs → AreBuilt ys → AreBuilt (xs ++ ys)
AreBuilt-append xs ys p q = first_fault-behind xs ys p ∙ q

pub NotBuilt-front : (xs ys : List JobDraft) (f : ClientFault) → NotBuilt xs f → NotBuilt (xs ++ ys) f
NotBuilt-front xs ys (fault.Draft f) h = λ ne. first_fault-append xs ys ∙ ap (λ o. option_or o (first_fault ys)) (h ne)
NotBuilt-front xs ys (fault.Link f) h = h
NotBuilt-front xs ys (fault.Refused r) h = h
NotBuilt-front xs ys (fault.Held jid) h = h
NotBuilt-front xs ys fault.Memory h = h

pub NotBuilt-behind : (xs ys : List JobDraft) (f : ClientFault) → AreBuilt xs → NotBuilt ys f → NotBuilt (xs ++ ys) f
NotBuilt-behind xs ys (fault.Draft f) built h = λ ne. first_fault-behind xs ys built ∙ h ne
NotBuilt-behind xs ys (fault.Link f) built h = h
NotBuilt-behind xs ys (fault.Refused r) built h = h
NotBuilt-behind xs ys (fault.Held jid) built h = h
NotBuilt-behind xs ys fault.Memory built h = h

-- ## One draft of a list

-- What comes of one draft, behind others that are built.
pub NotBuilt-at : (xs : List JobDraft) (i : ℕ) (x : JobDraft) (f : ClientFault) → i < length xs → x ≡ get_or xs i x → AreBuilt (take i xs)
    → NotBuilt (x ∷ []) f → NotBuilt xs f
NotBuilt-at xs i x f h is built bad =
    let rest = drop (suc i) xs in
    let whole : take i xs ++ x ∷ rest ≡ xs = ap (λ y. take i xs ++ y ∷ rest) is ∙ ap (λ ys. take i xs ++ ys) (sym (drop-cons xs i x h)) ∙ take-append-drop i xs in
    subst (λ ys. NotBuilt ys f) whole (NotBuilt-behind (take i xs) (x ∷ rest) f built (NotBuilt-front (x ∷ []) rest f bad))

take_one_more : (xs : List JobDraft) (i : ℕ) (x : JobDraft) → i < length xs → x ≡ get_or xs i x → take (i + 1) xs ≡ take i xs ++ x ∷ []
take_one_more xs i x h is = take_more xs i x h ∙ ap (λ y. take i xs ++ y ∷ []) (sym is)

pub AreBuilt-at : (xs : List JobDraft) (i : ℕ) (x : JobDraft) → i < length xs → x ≡ get_or xs i x → AreBuilt (take i xs) → AreBuilt (x ∷ []) → AreBuilt (take (i + 1) xs)
AreBuilt-at xs i x h is built one = subst AreBuilt (sym (take_one_more xs i x h is)) (AreBuilt-append (take i xs) (x ∷ []) built one)

pub texts-at : (xs : List JobDraft) (i : ℕ) (x : JobDraft) → i < length xs → x ≡ get_or xs i x → texts (take (i + 1) xs) ≡ texts (take i xs) ++ draft_text x ∷ []
texts-at xs i x h is = ap texts (take_one_more xs i x h is) ∙ map-append draft_text (take i xs) (x ∷ [])

-- ## What follows for a draft that can be built

no_fault : (b : Bool) (f : DraftFault) (later : Option DraftFault) → unless b f later ≡ None → (b ≡ true) × (later ≡ None)
no_fault true f later e = (refl, e)
no_fault false f later e = absurd (let n : Some f ≡ None = e in cc)

-- Each rule is kept.
pub rules_kept : (d : JobDraft) → draft_fault d ≡ None → (is_named d ≡ true) × (nat_le (length (draft_text d)) 1000000 ≡ true)
unfolding draft_fault
rules_kept d e =
    let named = no_fault (is_named d) why.Name _ e in
    let whole = no_fault (is_whole (args_data d.args)) why.Fraction _ named.1 in
    let shallow = no_fault (is_shallow d.args) why.Deep _ whole.1 in
    let short = no_fault (nat_le (length (draft_text d)) 1000000) why.Long _ shallow.1 in
    (named.0, short.0)

head_none : (a b : Option DraftFault) → option_or a b ≡ None → (a ≡ None) × (b ≡ None)
head_none None b e = (refl, e)
head_none (Some f) b e = absurd (let n : Some f ≡ None = e in cc)

-- The texts are short.
pub short_texts : (drafts : List JobDraft) → AreBuilt drafts → All (λ t. length t ≤ 1000000) (texts drafts)
short_texts [] built = λ k t below. absurd (omega arith)
short_texts (d ∷ drafts) built =
    let h = head_none (draft_fault d) (first_fault drafts) built in
    All-cons (λ t. length t ≤ 1000000) (draft_text d) (texts drafts) (leb-true _ _ (rules_kept d h.0).1) (short_texts drafts h.1)

both : (a b : Bool) → (a && b) ≡ true → (a ≡ true) × (b ≡ true)
both true b e = (refl, e)
both false b e = absurd (let n : false ≡ true = e in cc)

third : (a b c d e f g : Bool) → (a && b && c && d && e && f && g) ≡ true → c ≡ true
third a b c d e f g h =
    let five = (both (a && b && c && d && e && f) g h).0 in
    let four = (both (a && b && c && d && e) f five).0 in
    (both (a && b) c (both (a && b && c) d (both (a && b && c && d) e four).0).0).1

second : (a b c d : Bool) → (a && b && c && d) ≡ true → b ≡ true
second a b c d h = (both a b (both (a && b) c (both (a && b && c) d h).0).0).1

name_fits : (most : ℕ) (name : Bytes) → is_name most name ≡ true → length name ≤ most
name_fits most name h = leb-true _ _ (second (nat_lt 0 (length name)) (nat_le (length name) most) (is_utf8 name) (list_all is_visible name) h)

-- And so is the queue of the first.
pub short_queue : (d : JobDraft) (drafts : List JobDraft) → AreBuilt (d ∷ drafts) → length d.queue ≤ 255
short_queue d drafts built =
    let named = (rules_kept d (head_none (draft_fault d) (first_fault drafts) built).0).0 in
    name_fits 255 d.queue (third (is_name 64 d.jid) (is_name 255 d.class) (is_name 255 d.queue) (none_or (is_name 64) d.bid) (is_retry d.retry)
    (none_or is_seconds d.retry_for) (none_or (λ l. is_seconds l.seconds) d.lock) named)

-- The queue of the first of them is the queue of all, and is short.
pub first_queue : (drafts : List JobDraft) (d : JobDraft) → Some d ≡ slice_get drafts 0 → AreBuilt drafts → (d.queue ≡ queue_of drafts) × (length d.queue ≤ 255)
first_queue [] d e built = absurd (let n : Some d ≡ None = e in cc)
first_queue (x ∷ xs) d e built =
    let same : x ≡ d = cc e in
    (sym (ap (λ (y : JobDraft). y.queue) same), subst (λ (y : JobDraft). length y.queue ≤ 255) same (short_queue x xs built))
