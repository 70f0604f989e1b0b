use Rattle.std.proofs.Common.{◌≡◌, ◌+◌, ◌*◌, ◌-◌, ◌<◌, ◌≤◌, ◌^◌, ℕ, List, length, take, get_or, arith, ap, ◌∙◌, sym, length-take, get_or-take}
use Rattle.std.specs.Fmt.{decimal}
use Rattle.std.proofs.lemmas.Fmt.{decimal-digits_value}
use Rattle.std.proofs.lemmas.Str.Parse.{digits_value_short}
use Rattle.std.proofs.lemmas.List.{take_more}
use Rattle.sk_resp.proofs.Digits.{read_on, read_on-append, digits-append, own, AreDigits}
use Rattle.sk_payload.proofs.unsigned.unsigned_front.Goals as goal
use Rattle.sk_payload.proofs.unsigned.unsigned_front.Goals.{else-at-gt1-via-then-at-gt1+else-input-eq48, else-at-gt1-via-else-at-gt1}

-- the number so far is small
below : (n i : ℕ) (xs : List ℕ) → n ≡ read_on 0 (take i xs) → AreDigits (take i xs) → i ≤ 17 → n < 10 ^ 17
below n i xs e digits lt = omega (arith, e, digits_value_short own (take i xs) 17 digits (omega (arith, length-take i xs)))

take_first : (xs : List ℕ) (n : ℕ) → 0 < n → get_or (take n xs) 0 0 ≡ get_or xs 0 0
take_first xs n some = get_or-take n xs 0 0 some

pub overflow_mul-n : goal.overflow_mul-n
overflow_mul-n c = let l = c.loop-at in omega (arith, below l.n l.at c.args.input.now l.invariant.2 l.invariant.3 (omega arith))

pub overflow_add-n : goal.overflow_add-n
overflow_add-n c = let l = c.loop-at in omega (arith, c.type_inv.input l.at, below l.n l.at c.args.input.now l.invariant.2 l.invariant.3 (omega arith))

pub loop-at-preserved : goal.loop-at-preserved
loop-at-preserved c =
    let l = c.loop-at in
    let xs = c.args.input.now in
    let digit = get_or xs l.at 0 in
    let more = take_more xs l.at 0 (omega arith) in (
      omega arith,
      omega arith,
      rw (more, read_on-append 0 (take l.at xs) digit) (ap (λ z. 10 * z + (digit - 48)) l.invariant.2),
      rw more (digits-append (take l.at xs) digit l.invariant.3 (cc)),
    )

pub returns : goal.returns
returns c =
    let l = c.loop-at in
    let xs = c.args.input.now in
    let ds = take l.at xs in
    let size : length ds ≡ l.at = omega (arith, l.invariant.1, length-take l.at xs) in
    let first : get_or ds 0 0 ≡ 48 → length ds ≡ 1 =
    elim c.else-at-gt1.branch [ else-at-gt1-via-then-at-gt1+else-input-eq48 w ↦ λ e. omega (arith, take_first xs l.at (omega arith), e, w.if-input-eq48.false) | else-at-gt1-via-else-at-gt1 w ↦ λ e. omega arith ] in
    let small = digits_value_short own ds 17 l.invariant.3 (omega arith) in
    ((omega arith, omega arith), omega (arith, small, l.invariant.2), sym (ap decimal l.invariant.2 ∙ decimal-digits_value own ds l.invariant.3 (omega arith) first (omega arith)))
