-- How long bodies are.
use Rattle.std.proofs.Common.{arith, ◌≤◌, ◌<◌, ◌+◌, ◌*◌, ◌^◌, ℕ, [], ◌∷◌, ◌++◌, length, ap}
use Rattle.std.specs.Prelude.{codes}
use Rattle.std.specs.List.{AllByRecursion}
use Rattle.std.specs.Fmt.{decimal}
use Rattle.std.proofs.lemmas.Fmt.{length-decimal-le}
use Rattle.std.proofs.lemmas.List.{length-append}
use Rattle.std.proofs.lemmas.List.Concat.{flat_map-cons}
use Rattle.sk_resp.specs.Spelling.{Bytes, bulk, header, total_length}
use Rattle.sk_resp.specs.Request.{Command, IsCommand, IsWord, array, bulks}
use Rattle.sk_model.specs.Event.{Ask, Cut}
use Rattle.sk_aof.specs.Bodies.{body_of, numbered}

short_header : (k n : ℕ) → 0 < k → n < 10 ^ k → n < 2 ^ 64 → length (header n) ≤ k + 3
unfolding header
short_header k n some few small = omega (arith, length-append (decimal n) (13 ∷ 10 ∷ []), length-decimal-le k n some few small)

short_bulk : (word : Bytes) → IsWord word → length (bulk word) ≤ length word + 12
unfolding bulk
short_bulk word is = omega (
  arith,
  length-append (decimal (length word) ++ 13 ∷ 10 ∷ []) (word ++ 13 ∷ 10 ∷ []),
  length-append (decimal (length word)) (13 ∷ 10 ∷ []),
  length-append word (13 ∷ 10 ∷ []),
  length-decimal-le 7 (length word) (omega arith) (omega (arith, is)) (omega (arith, is)),
)

short_bulks : (words : Command) → AllByRecursion IsWord words → length (bulks words) ≤ total_length words + 12 * length words
short_bulks [] all = omega arith
short_bulks (word ∷ words) all =
    omega (arith, short_bulk word all.0, short_bulks words all.1, length-append (bulk word) (bulks words), ap length (flat_map-cons bulk word words))

pub short_array : (words : Command) → IsCommand words → length (array words) ≤ 2 ^ 24 + 2 ^ 20
short_array words is = omega (
  arith,
  length-append (header (length words)) (bulks words),
  short_header 5 (length words) (omega arith) (omega (arith, is.few)) (omega (arith, is.few)),
  short_bulks words is.short,
  is.few,
  is.small,
)

digits : (n : ℕ) → n < 2 ^ 64 → length (decimal n) ≤ 20
digits n small = length-decimal-le 20 n (omega arith) (omega (arith, small)) small

-- A short word and a number are a command.
pub is_numbered : (word : Bytes) (n : ℕ) → length word ≤ 6 → n < 2 ^ 64 → IsCommand (word ∷ decimal n ∷ [])
is_numbered word n short small = record {
  some = omega arith;
  few = omega arith;
  short = (omega (arith, short), (omega (arith, digits n small), tt));
  small = omega (arith, short, digits n small);
}

short_numbered : (word : Bytes) (n : ℕ) → length word ≤ 6 → n < 2 ^ 64 → length (numbered word n) ≤ 64
short_numbered word n short small =
    let is = is_numbered word n short small in
    omega (
      arith,
      length-append (header 2) (bulks (word ∷ decimal n ∷ [])),
      short_header 1 2 (omega arith) (omega arith) (omega arith),
      short_bulks (word ∷ decimal n ∷ []) is.short,
      short,
      digits n small,
    )

-- A body fits into a record.
pub ask_fits : (seat now : ℕ) (words : Command) → seat < 2 ^ 32 → now < 2 ^ 64 → IsCommand words → length (body_of (Ask seat now words)) < 2 ^ 25
ask_fits seat now words of_seat of_now is =
    let first = numbered (codes "SK.AS") seat in
    let second = numbered (codes "SK.NOW") now in
    omega (
      arith,
      length-append first (second ++ array words),
      length-append second (array words),
      short_numbered (codes "SK.AS") seat (omega arith) (omega (arith, of_seat)),
      short_numbered (codes "SK.NOW") now (omega arith) of_now,
      short_array words is,
    )

pub cut_fits : (seat : ℕ) → seat < 2 ^ 32 → length (body_of (Cut seat)) < 2 ^ 25
cut_fits seat of_seat = omega (arith, short_numbered (codes "SK.CUT") seat (omega arith) (omega (arith, of_seat)))
