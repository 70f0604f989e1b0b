-- What contracts see of a list, a map or a set with undo.
use Rattle.std.specs.Prelude.{ℕ, refl}
use Rattle.std.specs.Coded.{Coded, code_by, coded×, coded_ℕ}
use Rattle.sk_undo.specs.Versions.{Versions, versions_code}

-- what is kept, with its step, and how many further edits can't fail
pub record UndoView (A : Type 0) : Type 0 where
  pub list : Versions A
  pub room : ℕ

abbrev pub undo_view_code : {A : Type 0} → Coded A → Coded (UndoView A)
undo_view_code {A} c = code_by (Versions A × ℕ) (coded× (versions_code c) coded_ℕ) (λ s. (s.list, s.room)) (λ p. record { list = p.0; room = p.1 }) (λ _. refl)
