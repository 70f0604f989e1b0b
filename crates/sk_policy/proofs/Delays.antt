-- Fourth powers.
use Rattle.std.proofs.Common.{◌≡◌, ℕ, ◌+◌, ◌*◌, ◌^◌, ◌<◌, ◌≤◌, min, arith}
use Rattle.std.proofs.Math.Nat.{mul-le-mul_left, pow-suc, pow-zero}

pub square_le : (a b : ℕ) → a ≤ b → a * a ≤ b * b
square_le a b h = omega (arith, mul-le-mul_left a h, mul-le-mul_left b h)

pub fourth : (n : ℕ) → n ^ 4 ≡ n * n * (n * n)
fourth n =
    let e4 : n ^ 4 ≡ n ^ 3 * n = pow-suc n 3 in
    let e3 : n ^ 3 ≡ n ^ 2 * n = pow-suc n 2 in
    let e2 : n ^ 2 ≡ n ^ 1 * n = pow-suc n 1 in
    let e1 : n ^ 1 ≡ n ^ 0 * n = pow-suc n 0 in
    let e0 : n ^ 0 ≡ 1 = pow-zero n in
    rw (e4, e3, e2, e1, e0) (omega arith)

pub delay_above : (n : ℕ) → 178 ≤ n → 1000000000 ≡ min (n ^ 4 + 15) 1000000000
delay_above n h =
    let low : 31684 ≤ n * n = square_le 178 n h in
    let big : 31684 * 31684 ≤ n * n * (n * n) = square_le 31684 (n * n) low in
    rw (fourth n) (omega arith)

pub delay_below : (n : ℕ) → n < 178 → n * n * (n * n) + 15 ≡ min (n ^ 4 + 15) 1000000000
delay_below n h =
    let below : n ≤ 177 = omega arith in
    let low : n * n ≤ 31329 = square_le n 177 below in
    let small : n * n * (n * n) ≤ 31329 * 31329 = square_le (n * n) 31329 low in
    rw (fourth n) (omega arith)
