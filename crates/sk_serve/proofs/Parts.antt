-- The parts of the passes of loops that have run.
use Rattle.std.proofs.Common.{◌≡◌, ℕ, ◌+◌, ◌*◌, List, ◌++◌, length, take, refl, sym, ◌∙◌, subst}
use Rattle.std.specs.Prelude.{All}
use Rattle.std.specs.List.{AllZip}
use Rattle.std.proofs.lemmas.List.{take_at}
use Rattle.std.proofs.lemmas.List.Elements.{length_all_zip}
use Rattle.sk_edge.specs.declared.door.Ear as an_ear
use Rattle.sk_serve.specs.Server.{IsFresh, LoopView, Runs}
use Rattle.sk_serve.specs.Attending.{Attending}
use Rattle.sk_serve.proofs.Counting.{all_back}
use Rattle.sk_serve.proofs.Loops.{numbers_kept}

module _ {E C K : Type 0} (Ear : an_ear.Ghosts E C) (Attended : Attending C K) (others : ℕ) where
  -- As many come back as were given to these loops, which stood in a vector.
  pub parts_back : (n count given total mid last : ℕ) (first old new rest : List (LoopView E K)) → AllZip (Runs Ear Attended others) old new → All (IsFresh n) first → old ≡ first → length old ≡ count
      → ((k : ℕ) → All (λ it. it.numbers ≡ k) (take count (new ++ rest)) → last ≡ mid + 2 * (k * count)) → mid + 2 * (n * given) ≡ total → count ≡ given → last ≡ total
  parts_back n count given total mid last first old new rest ran fresh same long took gave all =
      let back = take_at new rest count (sym (length_all_zip (Runs Ear Attended others) old new ran) ∙ long) in
      let kept = numbers_kept Ear Attended others n old new ran (subst (All (IsFresh n)) (sym same) fresh) in
      all_back last mid total total n count given (took n (subst (All (λ it. it.numbers ≡ n)) (sym back) kept)) gave all refl
