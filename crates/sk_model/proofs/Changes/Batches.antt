-- What the laws ask of a change of the batches, when so much was fired with it. It holds of one change after another.
use Rattle.std.proofs.Common.{◌≡◌, ℕ, ◌+◌, sym, ap, ◌∙◌, ◌⊎◌, inl, inr, arith, Bool, true, false, not, ◌&&◌, ◌||◌}
use Rattle.sk_resp.specs.Spelling.{Bytes}
use Rattle.sk_batch.specs.Batched.{Batched, is_there}
use Rattle.sk_batch.specs.Open.{is_settled}
use Rattle.sk_batch.specs.declared.firing.Kind.{Kind}
use Rattle.sk_batch.specs.declared.firing.Kind.TheVariants.{Complete, Success}
use Rattle.sk_batch.specs.declared.member.Mark.TheVariants.{Returned}
use Rattle.sk_places.specs.LiveJobs.{one_if}
use Rattle.sk_model.specs.Once.{settles, is_whole}
use Rattle.sk_model.proofs.Changes.Marked.{Sane, marked_nowhere}
use Rattle.sk_model.proofs.Changes.Fired.{was_fired}

-- complete of the batch was fired
abbrev pub was_completed : Batched → Bytes → Bool
was_completed s b = was_fired Complete b s.batches

-- the batch is there, and settled
abbrev pub Done : Batched → Bytes → Type 0
Done s b = (is_there b s.batches ≡ true) × (is_settled s b ≡ true)

-- of each batch that is whole, complete was fired
abbrev pub IsWhole : Batched → Type 0
IsWhole s = (b : Bytes) → is_whole s b ≡ true → was_completed s b ≡ true

-- a batch that is whole stays so
abbrev pub StaysWhole : Batched → Batched → Type 0
StaysWhole s t = (b : Bytes) → is_whole s b ≡ true → is_whole t b ≡ true

pub record Leads (s t : Batched) (n : Kind → Bytes → ℕ) : Type 0 where
  pub sane : Sane s → Sane t
  pub there : (b : Bytes) → is_there b s.batches ≡ true → is_there b t.batches ≡ true
  pub done : Sane s → (b : Bytes) → Done s b → Done t b
  -- success was fired where a batch settles
  pub success : Sane s → (b : Bytes) → n Success b ≡ one_if (settles s t b)
  -- complete was fired where that is kept of a batch for the first time
  pub complete : Sane s → (b : Bytes) → n Complete b ≡ one_if (was_completed t b && not (was_completed s b))
  pub completed : (b : Bytes) → was_completed s b ≡ true → was_completed t b ≡ true
  pub whole : Sane s → IsWhole s → IsWhole t
  pub only : Sane s → (b : Bytes) → was_completed t b ≡ true → (was_completed s b ≡ true) ⊎ (is_whole t b ≡ true)

nothing_settles : (s t : Bool) → s && ((t && not t) || not s) ≡ false
nothing_settles s t = grind arith

not_both : (p : Bool) → p && not p ≡ false
not_both p = grind arith

-- the batches are left alone
pub leads_own : (s : Batched) (n : Kind → Bytes → ℕ) → ((kind : Kind) (b : Bytes) → n kind b ≡ 0) → Leads s s n
leads_own s n none = record {
  sane = λ sane. sane;
  there = λ b h. h;
  done = λ sane b d. d;
  success = λ sane b. none Success b ∙ ap one_if (sym (nothing_settles (is_settled s b) (is_there b s.batches)));
  complete = λ sane b. none Complete b ∙ ap one_if (sym (not_both (was_completed s b)));
  completed = λ b h. h;
  whole = λ sane w. w;
  only = λ sane b h. inl h;
}

-- however the number of firings is counted
pub leads_same : (s t : Batched) (m n : Kind → Bytes → ℕ) → ((kind : Kind) (b : Bytes) → n kind b ≡ m kind b) → Leads s t m → Leads s t n
leads_same s t m n same l = record {
  sane = l.sane;
  there = l.there;
  done = l.done;
  success = λ sane b. same Success b ∙ l.success sane b;
  complete = λ sane b. same Complete b ∙ l.complete sane b;
  completed = l.completed;
  whole = l.whole;
  only = l.only;
}

-- a batch settles in the one part or in the other
settles_append : (s t u : Batched) (b : Bytes) → (Done s b → Done t b) → (Done t b → Done u b) → (is_there b s.batches ≡ true → is_there b t.batches ≡ true) → (is_there b t.batches ≡ true → is_there b u.batches ≡ true)
    → (is_there b s.batches ≡ false → is_settled s b ≡ true) → (is_there b t.batches ≡ false → is_settled t b ≡ true) → (is_there b u.batches ≡ false → is_settled u b ≡ true)
    → one_if (settles s t b) + one_if (settles t u b) ≡ one_if (settles s u b)
settles_append s t u b d1 d2 t1 t2 n1 n2 n3 = grind arith

completed_append : (p q r : Bool) → (p ≡ true → q ≡ true) → (q ≡ true → r ≡ true) → one_if (q && not p) + one_if (r && not q) ≡ one_if (r && not p)
completed_append p q r f g = grind arith

-- one change after another, where what is whole after the first stays so
pub leads_then : (s t u : Batched) (l m n : Kind → Bytes → ℕ) → ((kind : Kind) (b : Bytes) → l kind b ≡ m kind b + n kind b) → Leads s t m → Leads t u n → StaysWhole t u → Leads s u l
leads_then s t u l m n sum first then_ stays = record {
  sane = λ sane. then_.sane (first.sane sane);
  there = λ b h. then_.there b (first.there b h);
  done = λ sane b d. then_.done (first.sane sane) b (first.done sane b d);
  success = λ sane b.
      let sane' = first.sane sane in
      let join = settles_append s t u b (first.done sane b) (then_.done sane' b) (first.there b) (then_.there b) (marked_nowhere Returned s b sane) (marked_nowhere Returned t b sane') (marked_nowhere Returned u b (then_.sane sane')) in
      omega (arith, sum Success b, first.success sane b, then_.success sane' b, join);
  complete = λ sane b.
      let join = completed_append (was_completed s b) (was_completed t b) (was_completed u b) (first.completed b) (then_.completed b) in
      omega (arith, sum Complete b, first.complete sane b, then_.complete (first.sane sane) b, join);
  completed = λ b h. then_.completed b (first.completed b h);
  whole = λ sane w. then_.whole (first.sane sane) (first.whole sane w);
  only = λ sane b h. by_first b (first.only sane b) (then_.only (first.sane sane) b h);
} where
  by_then : (b : Bytes) → (was_completed s b ≡ true) ⊎ (is_whole t b ≡ true) → (was_completed s b ≡ true) ⊎ (is_whole u b ≡ true)
  by_then b (inl h) = inl h
  by_then b (inr h) = inr (stays b h)

  by_first : (b : Bytes) → (was_completed t b ≡ true → (was_completed s b ≡ true) ⊎ (is_whole t b ≡ true)) → (was_completed t b ≡ true) ⊎ (is_whole u b ≡ true) → (was_completed s b ≡ true) ⊎ (is_whole u b ≡ true)
  by_first b before (inr h) = inr h
  by_first b before (inl h) = by_then b (before h)
