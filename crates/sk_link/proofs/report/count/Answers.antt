use Rattle.std.proofs.Common.{◌≡◌, of_z, rules, subst, sym, to_z, w64, ◌∙◌}
use Rattle.sk_resp.specs.Number.{IsI64}
use Rattle.sk_link.specs.Report.{as_count}
use Rattle.sk_link.proofs.Reports.{none_count, some_count}
use Rattle.sk_link.proofs.report.count.Goals as goal

pub returns-in-None : goal.returns-in-None
returns-in-None c = sym (none_count c.args.reply.now (sym c.int_of.ensures ∙ c.in-None.is))

pub returns-in-Some : goal.returns-in-Some
returns-in-Some c =
    let same : to_z w64 (of_z w64 c.in-Some.n) ≡ c.in-Some.n = search rules in
    let range = subst (λ z. IsI64 z) same c.as_count.ensures.range in
    subst (λ z. c.as_count.result ≡ as_count z) same c.as_count.ensures.count
    ∙ sym (some_count c.args.reply.now c.in-Some.n (sym c.int_of.ensures ∙ c.in-Some.is) range)
