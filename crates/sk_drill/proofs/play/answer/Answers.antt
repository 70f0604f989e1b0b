use Rattle.std.proofs.Common.{◌≡◌, arith, length, refl}
use Rattle.std.proofs.lemmas.Grind.{common_steps}
use Rattle.sk_cmd.specs.declared.cmd_fault.CmdFault.TheVariants.{Unknown}
use Rattle.sk_drill.proofs.Playing.{faulted, unread}
use Rattle.sk_drill.proofs.play.answer.Goals as goal

pub returns-then-is_empty : goal.returns-then-is_empty
returns-then-is_empty c =
    let none : length c.args.words ≡ 0 = grind (arith, common_steps) in
    faulted c.args.core.now c.args.seat c.args.now c.args.words Unknown _ (unread c.args.words none) refl

pub returns-in-Err : goal.returns-in-Err
returns-in-Err c = faulted c.args.core.now c.args.seat c.args.now c.args.words c.in-Err.fault _ c.in-Err.ensures c.fault_reply.ensures
