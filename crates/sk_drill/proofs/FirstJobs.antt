-- The jobs that are pushed in one command.
use Rattle.std.specs.Prelude.{◌≡◌, ℕ, ◌+◌, suc, List, [], ◌∷◌, ◌++◌, None, codes}
use Rattle.std.proofs.Common.{◌∙◌, ap, sym, append_assoc, add-one}
use Rattle.std.proofs.lemmas.List.{append-nil}
use Rattle.sk_resp.specs.Spelling.{Bytes}
use Rattle.sk_drill.specs.Jobs.{job_text}
use Rattle.sk_drill.specs.Requests.{first_jobs}

-- One more stands behind the others.
pub one_more_job : (words front : List Bytes) (k : ℕ) (text : Bytes) → words ≡ front ++ first_jobs k → text ≡ job_text (k + 1) (codes "default") None
    → words ++ text ∷ [] ≡ front ++ first_jobs (k + 1)
unfolding first_jobs
one_more_job words front k text so_far is =
    rw (is, add-one) (ap (λ ws. ws ++ job_text (suc k) (codes "default") None ∷ []) so_far ∙ append_assoc front (first_jobs k) (job_text (suc k) (codes "default") None ∷ []))

-- No job leaves what is there.
pub no_job : (front : List Bytes) → front ≡ front ++ first_jobs 0
unfolding first_jobs
no_job front = sym (append-nil front)
