-- What contracts see of counts with undo.
use Rattle.std.specs.Prelude.{ℕ, List, refl}
use Rattle.std.specs.Coded.{Coded, code_by, coded×, coded_list, coded_ℕ}
use Rattle.sk_resp.specs.Spelling.{Bytes}
use Rattle.sk_undo.specs.Versions.{Versions, versions_code}
use Rattle.sk_table.specs.Counts.{Counts}

-- the counts with their step, and the texts whose counts can be changed without memory
pub record CountsView : Type 0 where
  pub list : Versions Counts
  pub ready : List Bytes

abbrev pub counts_view_code : Coded CountsView
counts_view_code = code_by (Versions Counts × List Bytes) (coded× (versions_code (coded_list (coded× (coded_list coded_ℕ) coded_ℕ))) (coded_list (coded_list coded_ℕ))) (λ s. (s.list, s.ready)) (λ p. record { list = p.0; ready = p.1 }) (λ _. refl)
