use Rattle.std.proofs.Common.{◌≤◌, ℕ, sym, ap, subst, ◌∙◌, arith}
use Rattle.sk_value.specs.Answer.{AnswersWith}
use Rattle.sk_value.specs.Apply.{applied}
use Rattle.sk_value.specs.Keys.{Keys, purged}
use Rattle.sk_keys.specs.Past.{AreAhead, named}
use Rattle.sk_keys.proofs.Unseen.{clean_after, hidden_applied, on_err, on_ok}
use Rattle.sk_keys.proofs.keys.Keys.act.Goals as goal

pub settle-self-inside-requires-clause-indexed : goal.settle-self-inside-requires-clause-indexed
settle-self-inside-requires-clause-indexed c = c.self.invariant.indexed

pub settle-self-inside-requires-clause-clean : goal.settle-self-inside-requires-clause-clean
settle-self-inside-requires-clause-clean c = c.self.invariant.clean

pub act-requires : goal.act-requires
act-requires c = c.settle-self-inside.ensures.indexed

pub invariant_of-self : goal.invariant_of-self
invariant_of-self c =
    let over : ℕ = c.min-self-inside.result in
    let mid : Keys = c.settle-self-inside.new.table.entries in
    let reached : over ≤ c.args.now = grind (arith, c.min-self-inside.ensures) in
    let ahead = subst (λ n. AreAhead n (named c.args.action) mid) (sym c.min-self-inside.ensures) c.settle-self-inside.ensures.ahead in
    let same = hidden_applied over c.args.now c.args.action mid c.settle-self-inside.ensures.ordered reached ahead in
    record {
      indexed = c.act.ensures.indexed;
      clean = λ fresh.
          let clean = ap (λ n. purged n mid) c.min-self-inside.ensures ∙ c.settle-self-inside.ensures.clean fresh in
          let done = sym (ap (λ d. d.keys) same) ∙ ap (λ k. (applied c.args.now c.args.action k).keys) clean in
          clean_after over mid c.act.new.table.entries (applied c.args.now c.args.action mid).keys c.act.result done clean c.act.ensures.ok c.act.ensures.err;
    }

pub returns-clause-answer : goal.returns-clause-answer
returns-clause-answer c =
    let over : ℕ = c.min-self-inside.result in
    let mid : Keys = c.settle-self-inside.new.table.entries in
    let reached : over ≤ c.args.now = grind (arith, c.min-self-inside.ensures) in
    let ahead = subst (λ n. AreAhead n (named c.args.action) mid) (sym c.min-self-inside.ensures) c.settle-self-inside.ensures.ahead in
    let same = hidden_applied over c.args.now c.args.action mid c.settle-self-inside.ensures.ordered reached ahead in
    let view = ap (λ n. purged n mid) c.min-self-inside.ensures ∙ c.settle-self-inside.ensures.keys ∙ c.self.view_is in
    subst (λ a. AnswersWith a c.act.result) (sym (ap (λ d. d.answer) same) ∙ ap (λ k. (applied c.args.now c.args.action k).answer) view) c.act.ensures.answer

pub returns-clause-ok : goal.returns-clause-ok
returns-clause-ok c =
    let over : ℕ = c.min-self-inside.result in
    let mid : Keys = c.settle-self-inside.new.table.entries in
    let reached : over ≤ c.args.now = grind (arith, c.min-self-inside.ensures) in
    let ahead = subst (λ n. AreAhead n (named c.args.action) mid) (sym c.min-self-inside.ensures) c.settle-self-inside.ensures.ahead in
    let same = hidden_applied over c.args.now c.args.action mid c.settle-self-inside.ensures.ordered reached ahead in
    let view = ap (λ n. purged n mid) c.min-self-inside.ensures ∙ c.settle-self-inside.ensures.keys ∙ c.self.view_is in
    on_ok c.act.result (λ is. ap (purged over) is ∙ sym (ap (λ d. d.keys) same) ∙ ap (λ k. (applied c.args.now c.args.action k).keys) view) c.act.ensures.ok

pub returns-clause-err : goal.returns-clause-err
returns-clause-err c =
    let mid : Keys = c.settle-self-inside.new.table.entries in
    let view = ap (λ n. purged n mid) c.min-self-inside.ensures ∙ c.settle-self-inside.ensures.keys ∙ c.self.view_is in
    on_err c.act.result (λ is. ap (purged c.min-self-inside.result) is ∙ view) c.act.ensures.err
