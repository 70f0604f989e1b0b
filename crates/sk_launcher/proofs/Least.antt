-- One with the least status, of one fault more.
use Rattle.std.proofs.Common.{◌≡◌, ◌≤◌, ◌++◌, ◌∙◌, ap, List, [], ◌∷◌, append_assoc, Option, Some, None, refl, arith, Bool, true, false}
use Rattle.std.specs.Prelude.{nat_le, if◌then◌else◌}
use Rattle.std.specs.List.{AllByRecursion}
use Rattle.std.proofs.lemmas.Bool.{leb-false, leb-true}
use Rattle.sk_launcher.specs.Faults.{status_of}
use Rattle.sk_launcher.specs.Launching.{IsLeast, IsLeastOf, lesser}
use Rattle.sk_launcher.specs.declared.launch_fault.LaunchFault.{LaunchFault}

all_end : (P : LaunchFault → Type 0) (xs : List LaunchFault) (x : LaunchFault) → AllByRecursion P xs → P x → AllByRecursion P (xs ++ x ∷ [])
all_end P [] x all last = (last, tt)
all_end P (y ∷ ys) x all last = (all.0, all_end P ys x all.1 last)

all_to : (P Q : LaunchFault → Type 0) (xs : List LaunchFault) → ((x : LaunchFault) → P x → Q x) → AllByRecursion P xs → AllByRecursion Q xs
all_to P Q [] f all = tt
all_to P Q (y ∷ ys) f all = (f y all.0, all_to P Q ys f all.1)

by_test : (xs : List LaunchFault) (least f : LaunchFault) (b : Bool) → nat_le (status_of least) (status_of f) ≡ b → IsLeast least xs
    → IsLeast (if b then least else f) (xs ++ f ∷ [])
by_test xs least f true is one = record {
  front = one.front;
  rest = one.rest ++ f ∷ [];
  are = ap (λ z. z ++ f ∷ []) one.are ∙ append_assoc one.front (least ∷ one.rest) (f ∷ []);
  least = all_end (λ other. status_of least ≤ status_of other) xs f one.least (leb-true (status_of least) (status_of f) is);
}
by_test xs least f false is one = record {
  front = xs;
  rest = [];
  are = refl;
  least = all_end (λ other. status_of f ≤ status_of other) xs f
      (all_to (λ other. status_of least ≤ status_of other) (λ other. status_of f ≤ status_of other) xs (λ other le. omega (arith, leb-false (status_of least) (status_of f) is, le)) one.least) (omega arith);
}

pub least_more : (xs : List LaunchFault) (o : Option LaunchFault) (f : LaunchFault) → IsLeastOf xs o → IsLeastOf (xs ++ f ∷ []) (Some (lesser o f))
least_more xs None f none = record { front = xs; rest = []; are = refl; least = rw none (omega arith, tt) }
least_more xs (Some least) f one = by_test xs least f (nat_le (status_of least) (status_of f)) refl one
