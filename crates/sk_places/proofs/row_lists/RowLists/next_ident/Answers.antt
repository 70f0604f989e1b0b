use Rattle.std.proofs.Common.{◌≡◌, ap, arith, option_map, sym, ◌∙◌}
use Rattle.sk_places.specs.RowLists.{ident_from}
use Rattle.sk_places.proofs.NamedRows.{next_from, next_none}
use Rattle.sk_places.proofs.row_lists.RowLists.next_ident.Goals as goal

pub loop-at-init : goal.loop-at-init
loop-at-init c = record {
  within = omega (arith, c.rank-at.ensures.within, c.len-len.ensures.is);
  rest = ap (λ k. ident_from (option_map (λ word. word.now) c.args.after) k c.args.self.now) c.rank-at.ensures.is ∙ next_from (option_map (λ word. word.now) c.args.after) c.args.self.now.names.list.current c.args.self.now.deques.lists.current c.args.self.now.sets.list.current;
}

pub returns-in-Some : goal.returns-in-Some
returns-in-Some c = sym c.in-Some.ensures ∙ c.loop-at.invariant.rest

pub loop-at-preserved : goal.loop-at-preserved
loop-at-preserved c = record {
  within = omega (arith, c.loop-at-test.true);
  rest = sym c.in-None.ensures ∙ c.loop-at.invariant.rest;
}

pub returns : goal.returns
returns c =
    let same : c.loop-at.at ≡ c.len-len.result = omega (arith, c.loop-at.invariant.within, c.loop-at-test.false) in
    sym (next_none (option_map (λ word. word.now) c.args.after) c.args.self.now c.loop-at.at c.requires (same ∙ c.len-len.ensures.is)) ∙ c.loop-at.invariant.rest
