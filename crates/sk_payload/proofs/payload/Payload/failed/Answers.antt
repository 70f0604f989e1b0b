use Rattle.std.proofs.Common.{ap, sym, refl, ◌∙◌, ◌≡◌, ◌≤◌, Some, option_map, arith}
use Rattle.sk_payload.specs.Head.{head}
use Rattle.sk_payload.specs.Failed.{next_head}
use Rattle.sk_payload.specs.declared.payload.Parsed.{Parsed}
use Rattle.sk_payload.proofs.Heads.{head_gen_le, follows-next}
use Rattle.sk_payload.proofs.payload.Payload.failed.Goals as goal

pub returns-then-head-ge-LAST_GENERATION-clause-limit : goal.returns-then-head-ge-LAST_GENERATION-clause-limit
returns-then-head-ge-LAST_GENERATION-clause-limit c =
    let e : head c.args.self.now ≡ Some c.in-Some.head = sym (ap head c.self.view_is) ∙ sym c.self.invariant ∙ ap (λ (k : Parsed). k.head) (sym c.deref.ensures) ∙ c.in-Some.is in
    let most : c.in-Some.head.gen_ ≤ 1000000000 = head_gen_le _ _ e in
    let least : 1000000000 ≤ c.in-Some.head.gen_ = c.if-head-ge-LAST_GENERATION.true in
    (λ _. rw e (omega arith), λ _. refl)

pub returns-clause-follows : goal.returns-clause-follows
returns-clause-follows c =
    let e : head c.args.self.now ≡ Some c.in-Some.head = sym (ap head c.self.view_is) ∙ sym c.self.invariant ∙ ap (λ (k : Parsed). k.head) (sym c.deref.ensures) ∙ c.in-Some.is in
    let text = c.bytes.ensures ∙ ap (λ (k : Parsed). k.text) c.deref-2.ensures ∙ c.self.view_is in
    let next : head c.in_ok-text.text ≡ Some (next_head c.args.now c.in-Some.head) = c.in_ok-text.ensures.head ∙ ap (option_map (next_head c.args.now)) (ap head text ∙ e) in
    rw c.in_ok-keep.ensures (follows-next c.args.now _ _ _ e next)
