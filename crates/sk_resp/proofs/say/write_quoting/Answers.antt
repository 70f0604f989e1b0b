use Rattle.std.proofs.Common.{◌++◌, ◌∙◌, ap, append_assoc}
use Rattle.sk_resp.proofs.say.write_quoting.Goals as goal

pub returns : goal.returns
returns c =
    let out = c.args.out.now.items in
    let front = c.args.front.now in
    let quoted = c.args.quoted.now in
    let behind = c.args.behind.now in
    c.in_ok-extend_from_slice-3.ensures.items
    ∙ ap (λ z. z ++ behind) (c.in_ok-extend_from_slice-2.ensures.items ∙ ap (λ z. z ++ quoted) c.in_ok-extend_from_slice.ensures.items ∙ append_assoc out front quoted)
    ∙ append_assoc out (front ++ quoted) behind
