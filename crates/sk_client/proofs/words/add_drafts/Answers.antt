use Rattle.std.proofs.Common.{◌∙◌, ◌∷◌, [], ◌++◌, ap, sym, append_assoc, take}
use Rattle.std.proofs.lemmas.Result.{err_from_is_err_and}
use Rattle.sk_payload.specs.Draft.{draft_text}
use Rattle.sk_client.specs.Drafts.{texts}
use Rattle.sk_client.proofs.Built.{NotBuilt-at, AreBuilt-at, texts-at}
use Rattle.sk_client.proofs.words.add_drafts.Goals as goal

pub returns-in_err-add_draft : goal.returns-in_err-add_draft
returns-in_err-add_draft c =
    let p = err_from_is_err_and c.from_residual.result c.from_residual.ensures.1 in
    rw (p.1, p.2) (NotBuilt-at c.args.drafts.now c.loop-draft.draft-index c.draft-item.result c.in_err-add_draft.field-0.0 c.loop-draft-test.true c.draft-item.is
    c.loop-draft.invariant.1 c.in_err-add_draft.ensures)

pub loop-draft-preserved : goal.loop-draft-preserved
loop-draft-preserved c =
    let i = c.loop-draft.draft-index in
    let text = draft_text c.draft-item.result in
    let old = c.args.words.now.items in
    let more = texts-at c.args.drafts.now i c.draft-item.result c.loop-draft-test.true c.draft-item.is in (
      c.in_ok-add_draft.ensures.0 ∙ ap (λ ws. ws ++ text ∷ []) c.loop-draft.invariant.0 ∙ append_assoc old (texts (take i c.args.drafts.now)) (text ∷ [])
          ∙ ap (λ ts. old ++ ts) (sym more),
      AreBuilt-at c.args.drafts.now i c.draft-item.result c.loop-draft-test.true c.draft-item.is c.loop-draft.invariant.1 c.in_ok-add_draft.ensures.1,
    )
