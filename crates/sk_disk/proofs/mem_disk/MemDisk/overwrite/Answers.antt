use Rattle.std.proofs.Common.{rules, ◌≡◌, ◌++◌, ◌∷◌, [], List, ℕ, sym, ap, ◌∙◌}
use Rattle.sk_disk.specs.declared.mem_disk.Call.{Call}
use Rattle.sk_disk.specs.declared.mem_disk.Call.TheVariants.{Wrote}
use Rattle.sk_disk.specs.Memory.{Stored, put, seen}
use Rattle.sk_disk.proofs.Calls.{seen_wrote}
use Rattle.sk_disk.proofs.mem_disk.MemDisk.overwrite.Goals as goal

pub invariant_of-self-2 : goal.invariant_of-self-2
invariant_of-self-2 c =
    let v = c.in_ok-bytes.bytes in
    let same : v.items ≡ c.args.bytes.now = search rules in
    let old : List ℕ = seen c.self.inside.first.items c.self.inside.calls.items in
    c.in_ok-new.ensures ∙ ap (λ (l : List ℕ). put c.args.at c.args.bytes.now l) (c.deref.ensures.value ∙ c.self.invariant) ∙ ap (λ (b : List ℕ). put c.args.at b old) (sym same)
    ∙ sym (seen_wrote c.self.inside.first.items c.self.inside.calls.items c.args.at v) ∙ ap (λ (cs : List Call). seen c.self.inside.first.items cs) (sym c.in_ok-push.ensures.items)

pub returns-clause-ok : goal.returns-clause-ok
returns-clause-ok c =
    let v = c.in_ok-bytes.bytes in
    let same : v.items ≡ c.args.bytes.now = search rules in (
      v,
      same,
      record {
        first = ap (λ (s : Stored). s.first) c.self.view_is;
        calls = c.in_ok-push.ensures.items ∙ ap (λ (s : Stored). s.calls ++ Wrote c.args.at v ∷ []) c.self.view_is;
      },
    )
