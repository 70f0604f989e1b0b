use Rattle.std.proofs.Common.{ap, sym, ◌∙◌}
use Rattle.std.specs.Prelude.{Ok}
use Rattle.sk_leases.specs.Leased.{idents}
use Rattle.sk_model.specs.Held.{if_any}
use Rattle.sk_value.specs.Answer.{Answer, one_if}
use Rattle.sk_value.specs.Values.{look_at}
use Rattle.sk_value.specs.declared.value.Value.TheVariants.{Set}
use Rattle.sk_keyspace.proofs.Living.{alive_is, among_answer}
use Rattle.sk_keyspace.proofs.looks.look_idents.Goals as goal

pub returns-in-Sismember : goal.returns-in-Sismember
returns-in-Sismember c now =
    let words = idents c.args.moment c.args.leases.now.current in
    let alive = c.alive.ensures ∙ alive_is c.in-Sismember.ident c.args.moment c.args.leases.now.current.beats in
    ap (λ look. look_at now look (if_any Set words)) c.in-Sismember.is ∙ among_answer now c.in-Sismember.ident words ∙ ap {B = Answer} (λ b. Ok (one_if b)) (sym alive) ∙ ap {B = Answer} Ok (sym c.one_if.ensures)
