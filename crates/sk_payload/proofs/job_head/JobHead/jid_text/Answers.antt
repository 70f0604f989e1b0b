use Rattle.std.proofs.Common.{sym, ap, ◌∙◌, subst}
use Rattle.std.specs.Str.{IsUtf8}
use Rattle.sk_payload.specs.declared.head.Head.{Head}
use Rattle.sk_payload.proofs.UsualSpans.{parts_are_text}
use Rattle.sk_payload.proofs.job_head.JobHead.jid_text.Goals as goal

pub copied-requires : goal.copied-requires
copied-requires c = subst IsUtf8 (ap (λ (h : Head). h.jid) c.self.view_is ∙ sym c.jid.ensures) (parts_are_text c.self.inside.parts c.self.inside.text.now c.self.invariant).0
