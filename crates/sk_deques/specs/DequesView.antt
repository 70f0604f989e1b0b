-- What contracts see of deques.
use Rattle.std.specs.Prelude.{ℕ, List, refl}
use Rattle.std.specs.Coded.{Coded, code_by, coded×, coded_ℕ, coded_list}
use Rattle.sk_undo.specs.Versions.{Versions, versions_code}

pub record DequesView (T : Type 0) : Type 0 where
  -- the items of each deque
  pub lists : Versions (List (List T))
  -- for how many items each has memory
  pub spaces : List ℕ
  -- how many further edits can't fail
  pub room : ℕ

abbrev pub deques_view_code : {T : Type 0} → Coded T → Coded (DequesView T)
deques_view_code {T} c = code_by (Versions (List (List T)) × (List ℕ × ℕ)) (coded× (versions_code (coded_list (coded_list c))) (coded× (coded_list coded_ℕ) coded_ℕ)) (λ s. (s.lists, (s.spaces, s.room))) (λ p. record { lists = p.0; spaces = p.1.0; room = p.1.1 }) (λ _. refl)
