-- What a piece does, in the words of texts; and the laws of texts.
use Rattle.std.proofs.Common.{◌≡◌, ◌≢◌, ◌+◌, ◌-◌, ◌<◌, ◌≤◌, ℕ, List, [], ◌∷◌, ◌++◌, length, take, drop, get_or, refl, sym, ap, ◌∙◌, arith, append_assoc, append-nil, length-append, take-append-drop, length-drop, drop-cons}
use Rattle.std.specs.List.{AllByRecursion}
use Rattle.std.proofs.lemmas.List.{drop_more, take_all}
use Rattle.sk_resp.specs.Spelling.{Bytes, joined}
use Rattle.sk_resp.specs.ReplyStream.{IsReplyText, ReadsReplies, IsUnreadable, BeginsSome, StopsReplies}
use Rattle.sk_resp.specs.declared.reply.fault.ReplyFault.{ReplyFault}
use Rattle.sk_resp.specs.declared.reply.fault.ReplyFault.TheVariants.{Memory}
use Rattle.sk_resp.specs.ReplyMachine.{Machine, fresh, Out, gives, fails, go_within, run_within, onward, after, seen, IsReached}
use Rattle.sk_resp.proofs.ReplyRuns.{after-nil, runs-append, runs-on, runs-one}
use Rattle.sk_resp.proofs.ReplyWithin.{ran_within, fresh_within, accepts_one, accepts_all}
use Rattle.sk_resp.proofs.ReplyFinish.{finish}
use Rattle.sk_resp.proofs.ReplyOpens.{joined-more, all-append}

run-on : (m next : Machine) (xs ys : Bytes) (texts : List Bytes) → run_within m xs ≡ gives texts next → run_within m (xs ++ ys) ≡ after texts (run_within next ys)
run-on = runs-on go_within

none_more : (xs ys : List Bytes) → xs ++ ys ≡ xs → ys ≡ []
none_more xs [] e = refl
none_more xs (y ∷ ys) e = absurd (omega (arith, length-append xs (y ∷ ys), ap length e))

gives_same : (xs ys : List Bytes) (m n : Machine) → gives xs m ≡ gives ys n → (xs ≡ ys) × (m ≡ n)
gives_same xs ys m n e = (cc e, cc e)

behind : (texts : List Bytes) (o : Out) (m : Machine) → after texts o ≡ gives texts m → o ≡ gives [] m
behind texts fails m e = absurd (cc e)
behind texts (gives more n) m e = let p = gives_same (texts ++ more) texts n m e in ap (λ z. gives z n) (none_more texts more p.0) ∙ ap (gives []) p.1

-- from the first state on
from_fresh : (m : Machine) (bytes : Bytes) → IsReached m → run_within fresh (seen m ++ bytes) ≡ run_within m bytes
from_fresh m bytes h = run-on fresh m (seen m) bytes [] h.reached ∙ after-nil (run_within m bytes)

pub fresh_reached : IsReached fresh
fresh_reached = record { within = fresh_within; reached = refl }

pub reached_next : (m next : Machine) (bytes : Bytes) (texts : List Bytes) → IsReached m → run_within m bytes ≡ gives texts next → IsReached next
reached_next m next bytes texts h e =
    let good = ran_within m next bytes texts h.within e in
    record {
      within = good.is_open;
      reached = behind texts (run_within fresh (seen next)) next
          (sym (run-on fresh fresh (joined texts) (seen next) texts (accepts_all texts good.each)) ∙ ap (run_within fresh) (sym good.is) ∙ from_fresh m bytes h ∙ e);
    }

pub reads : (m next : Machine) (bytes : Bytes) (texts : List Bytes) → IsReached m → run_within m bytes ≡ gives texts next → ReadsReplies (seen m ++ bytes) texts (seen next)
reads m next bytes texts h e = let good = ran_within m next bytes texts h.within e in record { is = good.is; each = good.each; part = finish next good.is_open }

pub begins_run : (bytes : Bytes) → BeginsSome bytes → run_within fresh bytes ≡ fails → ⊥
begins_run bytes b e =
    let whole : gives b.texts fresh ≡ fails = sym (accepts_all b.texts b.each) ∙ ap (run_within fresh) (sym b.is) ∙ runs-append go_within fresh bytes b.more ∙ ap (λ o. onward o (λ n. run_within n b.more)) e in
    cc whole

parted : (bytes : Bytes) (n : ℕ) → bytes ≡ take n bytes ++ drop n bytes
parted bytes n = sym (take-append-drop n bytes)

pub opens : (m next : Machine) (piece : Bytes) (n : ℕ) (texts : List Bytes) → IsReached m → run_within m (take n piece) ≡ gives texts next
    → (seen m ++ piece ≡ joined texts ++ (seen next ++ drop n piece)) × AllByRecursion IsReplyText texts
opens m next piece n texts h e =
    let good = ran_within m next (take n piece) texts h.within e in (
      ap (λ z. seen m ++ z) (parted piece n) ∙ sym (append_assoc (seen m) (take n piece) (drop n piece)) ∙ ap (λ z. z ++ drop n piece) good.is ∙ append_assoc (joined texts) (seen next) (drop n piece),
      good.each,
    )

pub stuck : (m next : Machine) (piece : Bytes) (n : ℕ) (texts : List Bytes) → IsReached m → n < length piece → run_within m (take n piece) ≡ gives texts next → go_within next (get_or piece n 0) ≡ fails → IsUnreadable (seen m ++ piece) texts
stuck m next piece n texts h lt e f =
    let good = ran_within m next (take n piece) texts h.within e in
    let b = get_or piece n 0 in
    record {
      part = seen next;
      byte = b;
      more = drop (n + 1) piece;
      is = ap (λ z. seen m ++ z) (parted piece n) ∙ sym (append_assoc (seen m) (take n piece) (drop n piece)) ∙ ap (λ z. z ++ drop n piece) good.is ∙ ap (λ z. (joined texts ++ seen next) ++ z) (drop_more piece n 0 lt);
      reads = record { is = refl; each = good.each; part = finish next good.is_open };
      stuck = λ begins. begins_run ((joined texts ++ seen next) ++ b ∷ []) begins
          (ap (λ z. run_within fresh (z ++ b ∷ [])) (sym good.is) ∙ ap (run_within fresh) (append_assoc (seen m) (take n piece) (b ∷ [])) ∙ from_fresh m (take n piece ++ b ∷ []) h
          ∙ run-on m next (take n piece) (b ∷ []) texts e ∙ ap (after texts) (runs-one go_within next b ∙ f));
    }

pub stops : (m next : Machine) (piece : Bytes) (n : ℕ) (texts : List Bytes) (fault : ReplyFault) → IsReached m → n < length piece → run_within m (take n piece) ≡ gives texts next → (fault ≢ Memory → go_within next (get_or piece n 0) ≡ fails) → StopsReplies (seen m ++ piece) texts fault
stops m next piece n texts fault h lt e f =
    let o = opens m next piece n texts h e in
    record { rest = seen next ++ drop n piece; is = o.0; each = o.1; unreadable = λ other. stuck m next piece n texts h lt e (f other) }

-- ## The rest of a piece

pub rest_is : (piece : Bytes) (n : ℕ) → take (length piece - n) (drop n piece) ≡ drop n piece
rest_is piece n = take_all (length piece - n) (drop n piece) (omega (arith, length-drop n piece))

pub first_is : (piece : Bytes) (n : ℕ) → n < length piece → get_or (take (length piece - n) (drop n piece)) 0 0 ≡ get_or piece n 0
first_is piece n lt = ap (λ z. get_or z 0 0) (rest_is piece n ∙ drop-cons piece n 0 lt)

-- ## Laws

longer : (text more : Bytes) (o : Out) (m : Machine) → 0 < length more → gives ((text ++ more) ∷ []) m ≡ after (text ∷ []) o → ⊥
longer text more fails m some e = cc e
longer text more (gives texts n) m some e =
    let p : (text ++ more) ∷ [] ≡ text ∷ texts = cc e in
    let q : text ++ more ≡ text = cc p in
    omega (arith, some, length-append text more, ap length q)

-- no reply is a proper prefix of another
pub one_length : (text more : Bytes) → IsReplyText text → IsReplyText (text ++ more) → more ≡ []
one_length text [] is is' = refl
one_length text (b ∷ more) is is' =
    absurd (longer text (b ∷ more) (run_within fresh (b ∷ more)) fresh (omega arith)
    (sym (accepts_one (text ++ b ∷ more) is') ∙ run-on fresh fresh text (b ∷ more) (text ∷ []) (accepts_one text is)))

only : (xs ys : List Bytes) (m n : Machine) → gives xs m ≡ gives ys n → xs ≡ ys
only xs ys m n e = cc e

-- lists of replies with one spelling are one list
pub one_list : (xs ys : List Bytes) → AllByRecursion IsReplyText xs → AllByRecursion IsReplyText ys → joined xs ≡ joined ys → xs ≡ ys
one_list xs ys p q e = only xs ys fresh fresh (sym (accepts_all xs p) ∙ ap (run_within fresh) e ∙ accepts_all ys q)

-- bytes that were written are never stuck
pub not_stuck : (texts others : List Bytes) → AllByRecursion IsReplyText texts → IsUnreadable (joined texts) others → ⊥
not_stuck texts others each s = s.stuck (record { texts = texts; more = s.more; each = each; is = append_assoc (joined others ++ s.part) (s.byte ∷ []) s.more ∙ sym s.is })

last_in : (xs us ys : List Bytes) (w : Bytes) → xs ++ us ≡ ys ++ w ∷ [] → 0 < length us → length w ≤ length (joined us)
last_in [] us ys w e some = omega (arith, ap (λ z. length (joined z)) e, ap length (joined-more ys w), length-append (joined ys) w)
last_in (x ∷ xs) us [] w e some = absurd (omega (arith, ap length e, length-append xs us))
last_in (x ∷ xs) us (y ∷ ys) w e some = let f : xs ++ us ≡ ys ++ w ∷ [] = cc e in last_in xs us ys w f some

some_of : (us : List Bytes) → 0 < length (joined us) → 0 < length us
some_of [] some = absurd (omega arith)
some_of (u ∷ us) some = omega arith

nil_of : (xs : Bytes) → length xs ≡ 0 → xs ≡ []
nil_of [] e = refl
nil_of (x ∷ xs) e = absurd (omega arith)

back : (xs all : List Bytes) (o : Out) → after xs o ≡ gives all fresh → (us : List Bytes) × (xs ++ us ≡ all) × (o ≡ gives us fresh)
back xs all fails e = absurd (cc e)
back xs all (gives us m) e = let p = gives_same (xs ++ us) all m fresh e in (us, p.0, ap (gives us) p.1)

all_more : (ys : List Bytes) (w : Bytes) → AllByRecursion IsReplyText ys → IsReplyText w → AllByRecursion IsReplyText (ys ++ w ∷ [])
all_more ys w p q = all-append IsReplyText ys (w ∷ []) p (q, tt)

-- and all of them are read
pub written_reads : (texts others : List Bytes) (rest : Bytes) → AllByRecursion IsReplyText texts → ReadsReplies (joined texts) others rest → (others ≡ texts) × (rest ≡ [])
written_reads texts others rest each h =
    let more = h.part.more in
    let w = rest ++ more in
    let both : joined texts ++ more ≡ joined (others ++ w ∷ []) = ap (λ z. z ++ more) h.is ∙ append_assoc (joined others) rest more ∙ sym (joined-more others w) in
    let e : after texts (run_within fresh more) ≡ gives (others ++ w ∷ []) fresh =
    sym (run-on fresh fresh (joined texts) more texts (accepts_all texts each)) ∙ ap (run_within fresh) both ∙ accepts_all (others ++ w ∷ []) (all_more others w h.each h.part.whole) in
    let b = back texts (others ++ w ∷ []) (run_within fresh more) e in
    let good = ran_within fresh fresh more b.0 fresh_within b.2 in
    let len : length more ≡ length (joined b.0) = ap length good.is ∙ ap length (append-nil (joined b.0)) in
    let empty : rest ≡ [] = nil_of rest (omega (arith, len, last_in texts b.0 others w b.1 (some_of b.0 (omega (arith, len, h.part.some))), length-append rest more)) in
    (sym (one_list texts others each h.each (h.is ∙ ap (λ z. joined others ++ z) empty ∙ append-nil (joined others))), empty)
