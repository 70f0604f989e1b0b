-- The test of names decides what a name is.
use Rattle.std.proofs.Common.{arith, ◌≡◌, ◌≢◌, ◌↔◌, ◌<◌, ◌≤◌, ◌==◌, not, nat_lt, nat_le, length, ℕ, Bool, List, refl, IsTrue, Decides}
use Rattle.std.specs.List.{list_all}
use Rattle.std.specs.Str.{is_utf8}
use Rattle.std.proofs.lemmas.Bool.Decides.{nat_tests, same_from_decides, Decides-and, Decides-not, Decides-eqb, Decides-by_and}
use Rattle.std.proofs.lemmas.Str.{is_utf8-from_IsUtf8, IsUtf8-from_is_utf8}
use Rattle.sk_base.specs.Name.{IsName, is_visible, is_name}

nat_lt-Decides : (a b : ℕ) → Decides (nat_lt a b) (a < b)
nat_lt-Decides a b = (λ h. grind (arith, nat_tests), λ h. grind (arith, nat_tests))

nat_le-Decides : (a b : ℕ) → Decides (nat_le a b) (a ≤ b)
nat_le-Decides a b = (λ h. grind (arith, nat_tests), λ h. grind (arith, nat_tests))

is_visible-Decides : (b : ℕ) → Decides (is_visible b) ((32 ≤ b) × (b ≢ 127))
is_visible-Decides b = Decides-and (nat_le 32 b) (not (b == 127)) (nat_le-Decides 32 b) (Decides-not (b == 127) (Decides-eqb b 127))

pub is_name-Decides : (most : ℕ) (text : List ℕ) → Decides (is_name most text) (IsName most text)
is_name-Decides most text =
    let all = Decides-by_and is_visible (λ b. (32 ≤ b) × (b ≢ 127)) (list_all is_visible) is_visible-Decides refl (λ _ _. refl) text in
    let some = nat_lt-Decides 0 (length text) in
    let fits = nat_le-Decides (length text) most in
    let long = Decides-and (nat_lt 0 (length text)) (nat_le (length text) most) some fits in
    let utf8 = Decides-and _ (is_utf8 text) long (IsUtf8-from_is_utf8 text, is_utf8-from_IsUtf8 text) in
    let both = Decides-and _ (list_all is_visible text) utf8 all in
    (λ h. let p = both.0 h in record { some = p.0.0.0; fits = p.0.0.1; utf8 = p.0.1; visible = p.1 }, λ n. both.1 (((n.some, n.fits), n.utf8), n.visible))

-- A test of names has the answer of `is_name`.
pub same_test : (answer : Bool) (most : ℕ) (text : List ℕ) → (IsTrue answer ↔ IsName most text) → answer ≡ is_name most text
same_test answer most text h = same_from_decides answer (is_name most text) (h.0, h.1) (is_name-Decides most text)
