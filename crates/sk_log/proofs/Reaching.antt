-- How far a log was read.
use Rattle.std.proofs.Common.{◌≡◌, inl, inr, ◌≤◌, ◌+◌, ◌^◌, ℕ, List, [], ◌∷◌, ◌++◌, length, drop, refl, sym, ◌∙◌, ap, subst, arith, length-append}
use Rattle.std.proofs.lemmas.List.{drop_at}
use Rattle.sk_disk.specs.Images.{Images, Narrows}
use Rattle.sk_log.specs.File.{Begins, Body, front}
use Rattle.sk_log.specs.Reading.{HasFront, HasRun, IsBroken, IsBrokenBehind, IsClosed, IsOpened, IsShut, IsWhole, RunsAll}
use Rattle.sk_log.proofs.Writing.{fit-push, front-push, length-push}

-- ## One file

pub no_bodies : (c : List ℕ) → Begins c → HasFront [] 8 c
no_bodies c b = record { rest = b.byte ∷ b.rest; fit = tt; is = b.is; at_is = refl }

module _ (bodies : List Body) (at : ℕ) (c : List ℕ) (r : HasFront bodies at c) where
  rest_is : drop at c ≡ r.rest
  rest_is = ap (λ (l : List ℕ). drop at l) r.is ∙ drop_at (front bodies) r.rest at (sym r.at_is)

  pub reach_shut : IsShut (drop at c) → IsClosed bodies at c
  reach_shut s = (record { fit = r.fit; gate = s.gate; rest = s.rest; closed = s.closed; is = r.is ∙ ap (λ (l : List ℕ). front bodies ++ l) (sym rest_is ∙ s.is) }, r.at_is)

  pub reach_on : (body : Body) → IsWhole body (drop at c) → HasFront (bodies ++ body ∷ []) (at + (5 + length body)) c
  reach_on body w = record {
    rest = w.framed.rest;
    fit = fit-push bodies body r.fit w.framed.fits;
    is = r.is ∙ ap (λ (l : List ℕ). front bodies ++ l) (sym rest_is ∙ w.is ∙ ap (λ (l : List ℕ). 1 ∷ l) w.framed.is) ∙ sym (front-push bodies body w.framed.rest);
    at_is = omega (arith, r.at_is, length-push bodies body);
  }

  module _ {R : Type 0} (refuses : R → Body → Type 0) (state : R) (begins : Begins c) where
    pub reach_broken : IsBroken (drop at c) → IsBrokenBehind refuses bodies at state c
    reach_broken b = record { begins = begins; before = r; why = inl (subst (λ (l : List ℕ). IsBroken l) rest_is b) }

    pub reach_refused : (body : Body) → IsWhole body (drop at c) → refuses state body → IsBrokenBehind refuses bodies at state c
    reach_refused body w refused = record { begins = begins; before = r; why = inr (body, (subst (λ (l : List ℕ). IsWhole body l) rest_is w, refused)) }

    pub reach_end : 2 ^ 60 ≤ at → length c ≤ 2 ^ 60 → IsBrokenBehind refuses bodies at state c
    reach_end far short =
        let none : length r.rest ≡ 0 = omega (arith, far, short, r.at_is, ap length r.is, length-append (front bodies) r.rest) in
        record {
          begins = begins;
          before = r;
          why = inl (record { not_shut = λ s. absurd (omega (arith, none, ap length s.is)); not_whole = λ body w. absurd (omega (arith, none, ap length w.is)) });
        }

-- ## What was run

-- a body more
pub runs_push : {R : Type 0} (runs : R → Body → R → Type 0) (old mid new : R) (bodies : List Body) (body : Body) → RunsAll runs old bodies mid → runs mid body new → RunsAll runs old (bodies ++ body ∷ []) new
runs_push runs old mid new [] body ran last = (new, subst (λ r. runs r body new) ran last, refl)
runs_push runs old mid new (first ∷ bodies) body ran last = (ran.0, ran.1, runs_push runs ran.0 mid new bodies body ran.2 last)

module _ {R : Type 0} (runs : R → Body → R → Type 0) (files : Images) (at : ℕ) (old now : R) (r : HasRun runs HasFront files at old now) where
  pub run_shut : ((c : List ℕ) → files c → IsShut (drop at c)) → HasRun runs IsClosed files at old now
  run_shut shut = record { bodies = r.bodies; ran = r.ran; each = λ c is. reach_shut r.bodies at c (r.each c is) (shut c is) }

  pub run_on : (body : Body) (new : R) → runs now body new → ((c : List ℕ) → files c → IsWhole body (drop at c)) → HasRun runs HasFront files (at + (5 + length body)) old new
  run_on body new ran whole = record {
    bodies = r.bodies ++ body ∷ [];
    ran = runs_push runs old now new r.bodies body r.ran ran;
    each = λ c is. reach_on r.bodies at c (r.each c is) body (whole c is);
  }

-- Each file that was read is one of these, and each image that a crash may leave was read.
pub opened : {R : Type 0} (runs : R → Body → R → Type 0) (files reads may_leave : Images) (at : ℕ) (old new : R) → HasRun runs IsClosed files at old new → Narrows files reads → Narrows reads may_leave
    → IsOpened runs reads may_leave at old new
opened runs files reads may_leave at old new r among settled = record {
  bodies = r.bodies;
  ran = r.ran;
  read = λ c is. (r.each c (among c is)).0;
  ready = λ c is. record { gate_is = (r.each c (among c is)).1; stood = λ image left. (r.each image (among image (settled image left))).0 };
}
