-- The keys of the index of the sets' texts, and their order.
use Rattle.std.specs.Prelude.{◌≡◌, ℤ, [], true, pos, refl}
use Rattle.std.specs.Cmp.{IsTotalOrder}
use Rattle.std.specs.Cmp.Lexicographic.{slice_cmp}
use Rattle.std.specs.Ordering.{int_cmp, is_le, nat_cmp, ordering_then}
use Rattle.std.specs.declared.cmp.Ordering.{Ordering}
use Rattle.std.specs.declared.cmp.Ordering.TheVariants.{Less, Equal, Greater}
use Rattle.std.proofs.lemmas.Cmp.{then_total, on_total, nat_cmp_total, int_cmp_total, nat_list_cmp_total}
use Rattle.sk_resp.specs.Spelling.{Bytes}
use Rattle.sk_cmd.specs.declared.argument.Scored.{Scored}
use Rattle.sk_undo.specs.Queries.{key_query, le_le, lt_le}
use Rattle.sk_undo.specs.Sorted.{IsQuery}
use Rattle.sk_table.specs.Hashing.{hash_of}
use Rattle.sk_places.specs.Rows.{set_rank}

-- a set, a text, and its score there
abbrev pub Key : Type 0
Key = Scored × Bytes × ℤ

-- the key of a text in a set, with its score there
abbrev pub key_in : Scored → Bytes → ℤ → Key
key_in set text score = (set, text, score)

-- the order of texts: by their hashes, and then by their bytes
abbrev pub hash_cmp : Bytes → Bytes → Ordering
hash_cmp x y = ordering_then (nat_cmp (hash_of x) (hash_of y)) (slice_cmp nat_cmp x y)

-- how a set stands to a key
abbrev pub set_order : Scored → Key → Ordering
set_order set key = nat_cmp (set_rank set) (set_rank key.0)

-- how a text in a set stands to a key: by the sets, and then by the texts
abbrev pub text_order : Scored → Bytes → Key → Ordering
text_order set text key = ordering_then (nat_cmp (set_rank set) (set_rank key.0)) (hash_cmp text key.1)

-- the order of keys: so, and then by the scores
abbrev pub key_cmp : Key → Key → Ordering
key_cmp x y = ordering_then (text_order x.0 x.1 y) (int_cmp x.2 y.2)

-- ## The order is total, and what is looked for is a query

abbrev text_cmp : Key → Key → Ordering
text_cmp x y = text_order x.0 x.1 y

text_total : IsTotalOrder text_cmp
text_total = then_total (on_total (λ (k : Key). set_rank k.0) nat_cmp_total) (then_total (on_total (λ (k : Key). hash_of k.1) nat_cmp_total) (on_total (λ (k : Key). k.1) nat_list_cmp_total))

pub key_total : IsTotalOrder key_cmp
key_total = then_total text_total (on_total (λ (k : Key). k.2) int_cmp_total)

then_le : (o p : Ordering) → is_le (ordering_then o p) ≡ true → is_le o ≡ true
then_le Less p h = refl
then_le Equal p h = refl
then_le Greater p h = h

pub text_query : (set : Scored) (text : Bytes) → IsQuery key_cmp (text_order set text)
text_query set text = record {
  le = λ x y h k. le_le text_total (key_in set text (pos 0)) x y h (then_le (text_cmp x y) (int_cmp x.2 y.2) k);
  lt = λ x y h k. lt_le text_total (key_in set text (pos 0)) x y h (then_le (text_cmp x y) (int_cmp x.2 y.2) k);
}

set_total : IsTotalOrder (λ x y. set_order x.0 y)
set_total = on_total (λ (k : Key). set_rank k.0) nat_cmp_total

pub set_query : (set : Scored) → IsQuery key_cmp (set_order set)
set_query set = record {
  le = λ x y h k. le_le set_total (key_in set [] (pos 0)) x y h (then_le (set_order x.0 y) (hash_cmp x.1 y.1) (then_le (text_cmp x y) (int_cmp x.2 y.2) k));
  lt = λ x y h k. lt_le set_total (key_in set [] (pos 0)) x y h (then_le (set_order x.0 y) (hash_cmp x.1 y.1) (then_le (text_cmp x y) (int_cmp x.2 y.2) k));
}

pub key_query_of : (key : Key) → IsQuery key_cmp (key_cmp key)
key_query_of key = key_query key_total key
