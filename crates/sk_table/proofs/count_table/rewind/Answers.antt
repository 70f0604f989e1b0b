use Rattle.std.proofs.Common.{◌≡◌, ◌-◌, ◌<◌, ◌≤◌, ℕ, length, suc, sym, ◌∙◌, ap, take, arith}
use Rattle.sk_table.specs.Counts.{counted, rewound}
use Rattle.sk_table.proofs.Counts.{rewound_take, there_at, there_kept}
use Rattle.sk_table.proofs.count_table.rewind.Goals as goal

pub restore-requires : goal.restore-requires
restore-requires g c =
    let inside = c.loop-left.invariant.0 in
    let some = c.loop-left-test.true in
    there_at g.K.TextKey.text c.args.log.now.items (c.loop-left.left - 1) c.index.result.now c.loop-left.table (grind (arith, inside, some)) c.index.ensures c.loop-left.invariant.2

pub loop-left-preserved : goal.loop-left-preserved
loop-left-preserved g c =
    let text_of = g.K.TextKey.text in
    let log = c.args.log.now.items in
    let edit = c.index.result.now in
    let inside = c.loop-left.invariant.0 in
    let some = c.loop-left-test.true in
    let first : suc (c.loop-left.left - 1) ≡ c.loop-left.left = grind (arith, some) in
    let step = rewound_take text_of log (c.loop-left.left - 1) edit (counted c.loop-left.table) (grind (arith, inside, some)) c.index.ensures in (
      grind (arith, inside, some),
      ap (rewound text_of (take (c.loop-left.left - 1) log)) c.restore.ensures.counts ∙ sym step ∙ ap (λ n. rewound text_of (take n log) (counted c.loop-left.table)) first ∙ c.loop-left.invariant.1,
      there_kept text_of log c.loop-left.table c.restore.new.table c.restore.ensures.keeps c.loop-left.invariant.2,
    )
