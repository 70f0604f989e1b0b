-- A stream of replies is read in one way, whole or in pieces.
use Rattle.std.proofs.Common.{◌≡◌, ◌<◌, ◌⊎◌, ℕ, suc, List, [], ◌∷◌, ◌++◌, length, take, get_or, inl, inr, refl, sym, ap, subst, ◌∙◌, arith, append_assoc, append-nil, length-append, map}
use Rattle.std.specs.List.{AllByRecursion}
use Rattle.sk_resp.specs.Spelling.{Bytes, joined}
use Rattle.sk_resp.specs.Reply.{wire}
use Rattle.sk_resp.specs.ReplyStream.{IsReplyText, IsWritable, ReadsReplies, IsUnreadable, BeginsSome}
use Rattle.sk_resp.specs.declared.reply.Reply.{Reply}
use Rattle.sk_resp.specs.ReplyMachine.{Machine, fresh, Out, gives, fails, go_within, run_within, onward, after, seen}
use Rattle.sk_resp.proofs.Items.{same_parts}
use Rattle.sk_resp.proofs.ReplyOpens.{joined-append, joined-more, all-append}
use Rattle.sk_resp.proofs.ReplyRuns.{runs-append, runs-on}
use Rattle.sk_resp.proofs.ReplyWithin.{ran_within, fresh_within, accepts_one, accepts_all}
use Rattle.sk_resp.proofs.ReplyFinish.{finish}
use Rattle.sk_resp.proofs.ReplyHearing.{fresh_reached, reads, stuck, begins_run, one_length, written_reads}
use Rattle.sk_resp.proofs.ReplyWritten.{has_text}

-- ## What the machine makes of a reading

-- a part gives no reply
part_gives : (part more : Bytes) (o : Out) → run_within fresh part ≡ o → IsReplyText (part ++ more) → 0 < length more → (m : Machine) × (o ≡ gives [] m)
part_gives part more fails e whole some =
    let f : fails ≡ gives ((part ++ more) ∷ []) fresh = sym (runs-append go_within fresh part more ∙ ap (λ o. onward o (λ n. run_within n more)) e) ∙ accepts_one (part ++ more) whole in
    absurd (cc f)
part_gives part more (gives [] m) e whole some = (m, refl)
part_gives part more (gives (t ∷ ts) m) e whole some =
    let good = ran_within fresh m part (t ∷ ts) fresh_within e in
    let rest = joined ts ++ seen m in
    let same : part ≡ t ++ rest = good.is ∙ append_assoc t (joined ts) (seen m) in
    let behind = rest ++ more in
    let whole' : IsReplyText (t ++ behind) = subst IsReplyText (ap (λ z. z ++ more) same ∙ append_assoc t rest more) whole in
    let none = one_length t behind good.each.0 whole' in
    absurd (omega (arith, some, ap length none, length-append rest more))

pub reads_run : (bytes rest : Bytes) (texts : List Bytes) → ReadsReplies bytes texts rest → (m : Machine) × (run_within fresh bytes ≡ gives texts m) × (rest ≡ seen m)
reads_run bytes rest texts r =
    let p = part_gives rest r.part.more (run_within fresh rest) refl r.part.whole r.part.some in
    let good = ran_within fresh p.0 rest [] fresh_within p.1 in (
      p.0,
      ap (run_within fresh) r.is ∙ runs-on go_within fresh fresh (joined texts) rest texts (accepts_all texts r.each) ∙ ap (after texts) p.1 ∙ ap (λ z. gives z p.0) (append-nil texts),
      good.is,
    )

fails_if : (bytes : Bytes) (o : Out) → run_within fresh bytes ≡ o → (BeginsSome bytes → ⊥) → o ≡ fails
fails_if bytes fails e none = refl
fails_if bytes (gives texts m) e none =
    let good = ran_within fresh m bytes texts fresh_within e in
    let f = finish m good.is_open in
    absurd (none (record {
      texts = texts ++ (seen m ++ f.more) ∷ [];
      more = f.more;
      each = all-append IsReplyText texts ((seen m ++ f.more) ∷ []) good.each (f.whole, tt);
      is = ap (λ z. z ++ f.more) good.is ∙ append_assoc (joined texts) (seen m) f.more ∙ sym (joined-more texts (seen m ++ f.more));
    }))

-- the bytes up to the one that is refused
fails_there : (bytes : Bytes) (texts : List Bytes) (u : IsUnreadable bytes texts) → run_within fresh ((joined texts ++ u.part) ++ u.byte ∷ []) ≡ fails
fails_there bytes texts u = fails_if ((joined texts ++ u.part) ++ u.byte ∷ []) (run_within fresh ((joined texts ++ u.part) ++ u.byte ∷ [])) refl u.stuck

fails_on : (xs ys : Bytes) → run_within fresh xs ≡ fails → run_within fresh (xs ++ ys) ≡ fails
fails_on xs ys e = runs-append go_within fresh xs ys ∙ ap (λ o. onward o (λ n. run_within n ys)) e

unreadable_run : (bytes : Bytes) (texts : List Bytes) → IsUnreadable bytes texts → run_within fresh bytes ≡ fails
unreadable_run bytes texts u = ap (run_within fresh) (u.is ∙ sym (append_assoc (joined texts ++ u.part) (u.byte ∷ []) u.more)) ∙ fails_on ((joined texts ++ u.part) ++ u.byte ∷ []) u.more (fails_there bytes texts u)

-- ## One reading

gives_same : (xs ys : List Bytes) (m n : Machine) → gives xs m ≡ gives ys n → (xs ≡ ys) × (m ≡ n)
gives_same xs ys m n e = (cc e, cc e)

pub reads-once : (bytes rest more : Bytes) (texts others : List Bytes) → ReadsReplies bytes texts rest → ReadsReplies bytes others more → (texts ≡ others) × (rest ≡ more)
reads-once bytes rest more texts others r s =
    let p = reads_run bytes rest texts r in
    let q = reads_run bytes more others s in
    let same = gives_same texts others p.0 q.0 (sym p.1 ∙ q.1) in
    (same.0, p.2 ∙ ap seen same.1 ∙ sym q.2)

pub never_both : (bytes rest : Bytes) (texts others : List Bytes) → ReadsReplies bytes texts rest → IsUnreadable bytes others → ⊥
never_both bytes rest texts others r u =
    let p = reads_run bytes rest texts r in
    let e : gives texts p.0 ≡ fails = sym p.1 ∙ unreadable_run bytes others u in
    cc e

-- the longer of two first parts
longer_part : (p q xs ys : Bytes) (x : ℕ) → p ++ x ∷ xs ≡ q ++ ys → length p < length q → (z : Bytes) × (q ≡ (p ++ x ∷ []) ++ z)
longer_part p [] xs ys x e lt = absurd (omega arith)
longer_part [] (b ∷ q) xs ys x e lt = (q, cc e)
longer_part (a ∷ p) (b ∷ q) xs ys x e lt =
    let tail : p ++ x ∷ xs ≡ q ++ ys = cc e in
    let first : a ≡ b = cc e in
    let r = longer_part p q xs ys x tail (omega arith) in
    (r.0, cc (first, r.1))

not_longer : (bytes : Bytes) (texts others : List Bytes) (u : IsUnreadable bytes texts) (v : IsUnreadable bytes others) → length (joined texts ++ u.part) < length (joined others ++ v.part) → ⊥
not_longer bytes texts others u v lt =
    let p = joined texts ++ u.part in
    let q = joined others ++ v.part in
    let z = longer_part p q u.more (v.byte ∷ v.more) u.byte (sym u.is ∙ v.is) lt in
    let r = reads_run q v.part others v.reads in
    let e : gives others r.0 ≡ fails = sym r.1 ∙ ap (run_within fresh) z.1 ∙ fails_on (p ++ u.byte ∷ []) z.0 (fails_there bytes texts u) in
    cc e

-- a fault stands at one byte, behind one list of replies
pub unreadable-once : (bytes : Bytes) (texts others : List Bytes) (u : IsUnreadable bytes texts) (v : IsUnreadable bytes others) → (texts ≡ others) × (length (joined texts ++ u.part) ≡ length (joined others ++ v.part))
unreadable-once bytes texts others u v =
    let p = joined texts ++ u.part in
    let q = joined others ++ v.part in
    let len : length p ≡ length q = omega (arith, not_longer bytes texts others u v, not_longer bytes others texts v u) in
    let same = same_parts p q (u.byte ∷ u.more) (v.byte ∷ v.more) len (sym u.is ∙ v.is) in
    let r = reads_run p u.part texts u.reads in
    let s = reads_run q v.part others v.reads in
    ((gives_same texts others r.0 s.0 (sym r.1 ∙ ap (run_within fresh) same.0 ∙ s.1)).0, len)

-- ## Piece by piece

pub reads_on : (bytes piece rest more : Bytes) (texts others : List Bytes) → ReadsReplies bytes texts rest → ReadsReplies (rest ++ piece) others more → ReadsReplies (bytes ++ piece) (texts ++ others) more
reads_on bytes piece rest more texts others r s = record {
  is = ap (λ z. z ++ piece) r.is ∙ append_assoc (joined texts) rest piece ∙ ap (λ z. joined texts ++ z) s.is ∙ sym (append_assoc (joined texts) (joined others) more) ∙ ap (λ z. z ++ more) (sym (joined-append texts others));
  each = all-append IsReplyText texts others r.each s.each;
  part = s.part;
}

pub unreadable_on : (bytes piece rest : Bytes) (texts others : List Bytes) → ReadsReplies bytes texts rest → IsUnreadable (rest ++ piece) others → IsUnreadable (bytes ++ piece) (texts ++ others)
unreadable_on bytes piece rest texts others r u =
    let front : joined texts ++ (joined others ++ u.part) ≡ joined (texts ++ others) ++ u.part = sym (append_assoc (joined texts) (joined others) u.part) ∙ ap (λ z. z ++ u.part) (sym (joined-append texts others)) in
    let grouped : (ys : Bytes) → joined texts ++ ((joined others ++ u.part) ++ ys) ≡ (joined (texts ++ others) ++ u.part) ++ ys = λ ys. sym (append_assoc (joined texts) (joined others ++ u.part) ys) ∙ ap (λ z. z ++ ys) front in
    record {
      part = u.part;
      byte = u.byte;
      more = u.more;
      is = ap (λ z. z ++ piece) r.is ∙ append_assoc (joined texts) rest piece ∙ ap (λ z. joined texts ++ z) u.is ∙ grouped (u.byte ∷ u.more);
      reads = record { is = refl; each = all-append IsReplyText texts others r.each u.reads.each; part = u.reads.part };
      stuck = λ begins. begins_run ((joined (texts ++ others) ++ u.part) ++ u.byte ∷ []) begins
          (ap (run_within fresh) (sym (grouped (u.byte ∷ [])))
          ∙ runs-on go_within fresh fresh (joined texts) ((joined others ++ u.part) ++ u.byte ∷ []) texts (accepts_all texts r.each)
          ∙ ap (after texts) (fails_there (rest ++ piece) others u));
    }

pub unreadable_stays : (bytes piece : Bytes) (texts : List Bytes) → IsUnreadable bytes texts → IsUnreadable (bytes ++ piece) texts
unreadable_stays bytes piece texts u = record {
  part = u.part;
  byte = u.byte;
  more = u.more ++ piece;
  is = ap (λ z. z ++ piece) u.is ∙ append_assoc (joined texts ++ u.part) (u.byte ∷ u.more) piece;
  reads = u.reads;
  stuck = u.stuck;
}

-- ## Some reading

abbrev FailsAt : Machine → Bytes → Type 0
FailsAt m bytes = (n : ℕ) × (n < length bytes) × ((texts : List Bytes) × ((next : Machine) × (run_within m (take n bytes) ≡ gives texts next) × (go_within next (get_or bytes n 0) ≡ fails)))

after_fails : (texts : List Bytes) (o : Out) → after texts o ≡ fails → o ≡ fails
after_fails texts fails e = refl
after_fails texts (gives more m) e = absurd (cc e)

fails_later : (m : Machine) (b : ℕ) (bytes : Bytes) (o : Out) → go_within m b ≡ o → onward o (λ n. run_within n bytes) ≡ fails → ((n : Machine) → run_within n bytes ≡ fails → FailsAt n bytes) → FailsAt m (b ∷ bytes)
fails_later m b bytes fails e f h = (0, omega arith, ([], (m, refl, e)))
fails_later m b bytes (gives texts n) e f h =
    let g = h n (after_fails texts (run_within n bytes) f) in
    (suc g.0, omega (arith, g.1), (texts ++ g.2.0, (g.2.1.0, ap (λ o. onward o (λ k. run_within k (take g.0 bytes))) e ∙ ap (after texts) g.2.1.1, g.2.1.2)))

fails_at : (m : Machine) (bytes : Bytes) → run_within m bytes ≡ fails → FailsAt m bytes
fails_at m [] e = absurd (cc e)
fails_at m (b ∷ bytes) e = fails_later m b bytes (go_within m b) refl e (λ n f. fails_at n bytes f)

abbrev HasReading : Bytes → Type 0
HasReading bytes = ((texts : List Bytes) × ((rest : Bytes) × ReadsReplies bytes texts rest)) ⊎ ((texts : List Bytes) × IsUnreadable bytes texts)

reading_of : (bytes : Bytes) (o : Out) → run_within fresh bytes ≡ o → HasReading bytes
reading_of bytes fails e = let f = fails_at fresh bytes e in inr (f.2.0, stuck fresh f.2.1.0 bytes f.0 f.2.0 fresh_reached f.1 f.2.1.1 f.2.1.2)
reading_of bytes (gives texts m) e = inl (texts, (seen m, reads fresh m bytes texts fresh_reached e))

pub some_reading : (bytes : Bytes) → HasReading bytes
some_reading bytes = reading_of bytes (run_within fresh bytes) refl

-- ## Replies that were written

pub have_texts : (replies : List Reply) → AllByRecursion IsWritable replies → AllByRecursion IsReplyText (map wire replies)
have_texts [] each = tt
have_texts (r ∷ replies) each = (has_text r each.0, have_texts replies each.1)

pub written_back : (replies others : List Reply) (rest : Bytes) → AllByRecursion IsWritable replies → ReadsReplies (joined (map wire replies)) (map wire others) rest → (map wire others ≡ map wire replies) × (rest ≡ [])
written_back replies others rest each r = written_reads (map wire replies) (map wire others) rest (have_texts replies each) r
