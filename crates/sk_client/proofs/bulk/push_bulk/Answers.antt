use Rattle.std.proofs.Common.{◌≡◌, ◌≤◌, ◌∙◌, ◌++◌, ℕ, List, All, length, ap, subst, sym}
use Rattle.sk_client.specs.Drafts.{texts}
use Rattle.sk_client.proofs.Built.{first_queue, short_texts}
use Rattle.sk_client.proofs.bulk.push_bulk.Goals as goal

pub push_slices-requires-clause-name : goal.push_slices-requires-clause-name
push_slices-requires-clause-name g c =
    rw c.text.ensures (first_queue c.args.drafts.now c.in-Some.first.now c.in-Some.ensures.value c.in_default.ensures.1).1

pub push_slices-requires-clause-short : goal.push_slices-requires-clause-short
push_slices-requires-clause-short g c =
    let built : c.deref.result.now ≡ texts c.args.drafts.now = c.deref.ensures.value ∙ c.in_default.ensures.0
    ∙ ap (λ ts. ts ++ texts c.args.drafts.now) c.new-texts.ensures.items in
    subst (All (λ (t : List ℕ). length t ≤ 1000000)) (sym built) (short_texts c.args.drafts.now c.in_default.ensures.1)
