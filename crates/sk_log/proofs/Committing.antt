-- What was handed out stands.
use Rattle.std.proofs.Common.{◌≡◌, inl, inr, ◌≤◌, ℕ, List, [], ◌∷◌, ◌++◌, length, sym, ap, ◌∙◌, arith, subst, append_assoc, length-append}
use Rattle.std.proofs.lemmas.List.{append-nil}
use Rattle.sk_log.specs.File.{Body, StoodOrMore}
use Rattle.sk_log.specs.Commit.{Commit, Goes, GoesAll, Hand, Keeps, Log, Move, Store, Take, WhatWasHandedStands, begun}

record Sound (c : Commit) : Type 0 where
  whole : c.journal ≡ c.stored ++ (c.taken ++ c.waiting)
  handed : c.handed ≤ length c.stored

sound_begun : (bodies : List Body) → Sound (begun bodies)
sound_begun bodies = record { whole = sym (append-nil bodies); handed = omega arith }

sound_after : (old : Commit) (move : Move) (new : Commit) → Goes old move new → Sound old → Sound new
sound_after old (Log body) new is s = subst Sound (sym is) (record {
  whole = ap (λ (l : List Body). l ++ body ∷ []) s.whole ∙ append_assoc old.stored (old.taken ++ old.waiting) (body ∷ []) ∙ ap (λ (l : List Body). old.stored ++ l) (append_assoc old.taken old.waiting (body ∷ []));
  handed = s.handed;
})
sound_after old Take new (none, is) s = subst Sound (sym is) (record {
  whole = s.whole ∙ ap (λ (l : List Body). old.stored ++ (l ++ old.waiting)) none ∙ ap (λ (l : List Body). old.stored ++ l) (sym (append-nil old.waiting));
  handed = s.handed;
})
sound_after old Store new is s = subst Sound (sym is) (record {
  whole = s.whole ∙ sym (append_assoc old.stored old.taken old.waiting);
  handed = omega (arith, s.handed, length-append old.stored old.taken);
})
sound_after old (Hand number) new (le, is) s = subst Sound (sym is) (record { whole = s.whole; handed = omega (arith, le, s.handed) })

sound_all : (old : Commit) (moves : List Move) (new : Commit) → GoesAll old moves new → Sound old → Sound new
sound_all old [] new is s = subst Sound (sym is) s
sound_all old (move ∷ moves) new (mid, goes, all) s = sound_all mid moves new all (sound_after old move mid goes s)

kept : (c : Commit) (image : List ℕ) → Sound c → StoodOrMore c.stored c.taken image → Keeps c image
kept c image s (inl stood) = record { bodies = c.stored; rest = c.taken ++ c.waiting; begins = s.whole; reaches = s.handed; stood = stood }
kept c image s (inr stood) = record {
  bodies = c.stored ++ c.taken;
  rest = c.waiting;
  begins = s.whole ∙ sym (append_assoc c.stored c.taken c.waiting);
  reaches = omega (arith, s.handed, length-append c.stored c.taken);
  stood = stood;
}

pub what_was_handed_stands : WhatWasHandedStands
what_was_handed_stands bodies moves c image goes left = kept c image (sound_all (begun bodies) moves c goes (sound_begun bodies)) left
