use Rattle.std.proofs.Common.{◌∙◌, ◌*◌, ap, arith, refl, subst, sym}
use Rattle.std.specs.Prelude.{All, map, reverse, vec_len}
use Rattle.std.proofs.lemmas.List.Elements.{All-push}
use Rattle.sk_serve.specs.Server.{IsFresh}
use Rattle.sk_serve.proofs.Counting.{all_moved, more, moved, none_mapped, popped, pushed_by}
use Rattle.sk_serve.proofs.server.loops_for.Goals as goal

pub loop-ear-preserved : goal.loop-ear-preserved
loop-ear-preserved g c =
    let i = c.loop-ear.invariant in
    let n = c.args.numbers in
    let grown = more n (vec_len c.push_reserved.new.self) (vec_len c.loop-ear.loops) c.push_reserved.ensures.len in
    let made = c.new.ensures in
    record {
      left = omega (arith, grown, i.left, c.split-own.ensures.count_is);
      parts = omega (arith, grown, i.parts, c.split-own.ensures.parts_are);
      amount = c.split-own.ensures.amount_is ∙ i.amount;
      fresh = subst (λ items. All (IsFresh n) items) (sym c.push_reserved.ensures.items)
          (All-push (IsFresh n) c.loop-ear.loops.items c.new.result i.fresh (record {
            numbers_are = ap (λ l. l.numbers) made;
            served_are = ap (λ l. l.served) made;
            amount_is = ap (λ l. l.pass.amount) made ∙ ap (λ p. p.amount) c.split-own.ensures.other_is;
            end_is = ap (λ l. l.end) made;
            shut_is = ap (λ l. l.shut) made;
          }));
      len = omega (arith, i.len, c.push_reserved.ensures.len, c.in-Some.ensures.cases);
      ears = moved (map (λ it. it.ear) c.loop-ear.loops.items) (map (λ it. it.ear) c.push_reserved.new.self.items) (reverse c.loop-ear.ears.items) (reverse c.pop.new.self.items) c.in-Some.ear _
          (popped c.loop-ear.ears.items c.pop.new.self.items c.in-Some.ear c.in-Some.ensures.items)
          (pushed_by (λ it. it.ear) c.loop-ear.loops.items c.push_reserved.new.self.items c.new.result c.in-Some.ear c.push_reserved.ensures.items (ap (λ l. l.ear) made)) i.ears;
      room = c.push_reserved.ensures.capacity ∙ i.room;
      emptied = c.pop.ensures.capacity ∙ i.emptied;
    }

pub loop-ear-init : goal.loop-ear-init
loop-ear-init g c =
    let none = ap (λ k. c.args.numbers * k) c.requires.room.0 in
    record {
      left = omega (arith, none);
      parts = omega (arith, none);
      amount = refl;
      fresh = λ k d less. absurd (omega (arith, less, c.requires.room));
      len = omega (arith, c.requires.room);
      ears = none_mapped (λ it. it.ear) c.args.loops.now.items _ (omega (arith, c.requires.room));
      room = refl;
      emptied = refl;
    }

pub returns-clause-ears : goal.returns-clause-ears
returns-clause-ears g c = all_moved (map (λ it. it.ear) c.loop-ear.loops.items) c.loop-ear.ears.items _ (omega (arith, c.in_default.ensures.cases.0)) c.loop-ear.invariant.ears
