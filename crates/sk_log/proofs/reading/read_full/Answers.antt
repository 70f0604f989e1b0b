use Rattle.std.proofs.Common.{◌≡◌, ◌-◌, length, take, drop, arith, rules, sym, ap, ◌∙◌, List, ℕ}
use Rattle.std.proofs.lemmas.List.{drop-drop}
use Rattle.std.proofs.lemmas.Slice.{overwrites}
use Rattle.sk_log.proofs.OnlyReading.{one_read, piece_put}
use Rattle.sk_log.proofs.reading.read_full.Goals as goal

pub loop-done-preserved : goal.loop-done-preserved
loop-done-preserved g c =
    let D = g.D.Disk in
    let inv = c.loop-done.invariant in
    let long : length c.read.new.buf ≡ length c.loop-done.buf - c.loop-done.done = search (rules, overwrites) in
    record {
      within = search (rules, overwrites);
      only_read = one_read D.reads D.may_leave D.moment D.left_since c.args.disk.now c.loop-done.disk c.read.new.self inv.only_read c.in_ok-n.ensures.same c.in_ok-n.ensures.crash c.in_ok-n.ensures.time;
      read = λ image reads. piece_put c.loop-done.done c.in_ok-n.n c.loop-done.buf c.read.new.buf (drop c.args.at image) inv.within (omega (arith, long, c.in_ok-n.ensures.within)) (inv.read image reads)
          (c.in_ok-n.ensures.told image (inv.only_read.same.forth image reads) ∙ ap (λ (l : List ℕ). take c.in_ok-n.n l) (sym (drop-drop c.loop-done.done c.args.at image)));
      small = λ k. (c.type_inv.buf k).fits;
      whole = c.in_ok-n.ensures.cause.whole ∙ inv.whole;
    }
