use Rattle.std.proofs.Common.{◌≡◌, ◌*◌, ◌++◌, ◌∷◌, [], ap, ◌∙◌, arith, rules, refl}
use Rattle.std.specs.Prelude.{Some, map, reverse, vec_len}
use Rattle.std.proofs.lemmas.List.Elements.{All-pop}
use Rattle.sk_serve.proofs.Counting.{all_moved_by, more, moved, none_yet, popped_by, sum_none, sum_popped}
use Rattle.sk_serve.proofs.server.gather.Goals as goal

pub loop-it-init : goal.loop-it-init
loop-it-init g c = record {
  parts = λ n all. (all, refl);
  few = omega (arith, c.requires.few);
  sessions = omega arith;
  amount = refl;
  ears = none_yet c.args.ears.now.items (reverse (map (λ it. it.ear) c.args.loops.items)) (omega (arith, c.requires.room));
  room = omega (arith, c.requires.room);
}

pub loop-it-preserved : goal.loop-it-preserved
loop-it-preserved g c =
    let i = c.loop-it.invariant in
    let fewer = c.in-Some.ensures.cases in
    let items = c.in-Some.ensures.items in
    let own = c.into_parts-ear.ensures in
    record {
      parts = λ n all.
          let was = i.parts n all in
          let now = All-pop (λ it. it.numbers ≡ n) c.loop-it.loops.items c.pop.new.self.items (Some c.in-Some.it) items was.0 in
          (now.0, omega (arith, more n (vec_len c.loop-it.loops) (vec_len c.pop.new.self) (omega (arith, fewer)), was.1, ap (λ p. p.parts) c.join.ensures, own.parts, now.1));
      few = search rules;
      sessions = omega (arith, i.sessions, sum_popped (λ it. it.served) c.loop-it.loops.items c.pop.new.self.items c.in-Some.it items, own.same.2, c.from-sessions.ensures);
      amount = omega (arith, i.amount, sum_popped (λ it. it.pass.amount) c.loop-it.loops.items c.pop.new.self.items c.in-Some.it items, ap (λ p. p.amount) own.same.1, ap (λ p. p.amount) c.join.ensures);
      ears = moved c.loop-it.ears.items c.push_reserved.new.self.items (reverse (map (λ it. it.ear) c.loop-it.loops.items)) (reverse (map (λ it. it.ear) c.pop.new.self.items)) c.in-Some.it.ear _
          (popped_by (λ it. it.ear) c.loop-it.loops.items c.pop.new.self.items c.in-Some.it items)
          (c.push_reserved.ensures.items ∙ ap (λ ear. c.loop-it.ears.items ++ ear ∷ []) own.same.0) i.ears;
      room = omega (arith, i.room, fewer, c.push_reserved.ensures.len, c.push_reserved.ensures.capacity);
    }

pub returns-clause-parts : goal.returns-clause-parts
returns-clause-parts g c n all =
    let was = c.loop-it.invariant.parts n all in
    let none = c.in_default.ensures.cases.0 in
    omega (arith, was.1, ap (λ k. n * k) none)

pub returns-clause-sessions : goal.returns-clause-sessions
returns-clause-sessions g c = omega (arith, c.loop-it.invariant.sessions, sum_none (λ it. it.served) c.loop-it.loops.items (omega (arith, c.in_default.ensures.cases.0)))

pub returns-clause-amount : goal.returns-clause-amount
returns-clause-amount g c = omega (arith, c.loop-it.invariant.amount, sum_none (λ it. it.pass.amount) c.loop-it.loops.items (omega (arith, c.in_default.ensures.cases.0)))

pub returns-clause-ears : goal.returns-clause-ears
returns-clause-ears g c = all_moved_by (λ it. it.ear) c.loop-it.loops.items c.loop-it.ears.items _ (omega (arith, c.in_default.ensures.cases.0)) c.loop-it.invariant.ears
