use Rattle.std.proofs.Common.{◌≡◌, ◌∙◌, length, inl, inr, refl, sym, ap, arith, None, cond}
use Rattle.sk_talk.specs.declared.talker.Answer.{Answer}
use Rattle.sk_cmd.specs.declared.cmd_fault.CmdFault.TheVariants as fault
use Rattle.sk_serve.specs.Session.{stop_of}
use Rattle.sk_serve.proofs.Seated.{none_read, told_as}
use Rattle.sk_serve.proofs.sitting.answer_at.Goals as goal
use Rattle.sk_serve.proofs.sitting.answer_at.Goals.{then-is_ok, else-is_ok}

pub returns-then-is_empty-clause-does : goal.returns-then-is_empty-clause-does
returns-then-is_empty-clause-does g c =
    let none : length c.args.words ≡ 0 = grind (arith, ap length c.list.ensures, c.is_empty.ensures, c.if-is_empty.true) in
    inr (inl (record {
      fault = fault.Unknown;
      read = none_read c.args.words none;
      says = ap (λ (a : Answer). a.reply) c.tells.ensures;
      ends_is = ap (λ (a : Answer). a.stop) c.tells.ensures;
      same = refl;
    }))

pub returns-in-Ok-read_command-clause-does : goal.returns-in-Ok-read_command-clause-does
returns-in-Ok-read_command-clause-does g c =
    inl (record {
      c = c.in-Ok-read_command.command;
      now = c.now-now.result;
      read = c.in-Ok-read_command.ensures;
      ticked = c.now-now.ensures;
      acked = c.call-reply.ensures.acked;
      told = told_as g.D.Desk.wants_words (g.D.Desk.calls c.args.desk.now) (g.D.Desk.calls c.call-reply.new.desk) c.in-Ok.lent c.args.words c.now-now.result c.call-reply.result c.in-Ok.ensures.copy
          (g.met.D.Desk.untold c.args.desk.now) c.call-reply.ensures.told;
      ends_is = elim c.if-is_ok.branch [
        | then-is_ok w ↦ w.stop-is ∙ c.stop_of-stop.ensures.is ∙ sym (ap (λ b. cond b (stop_of c.in-Ok-read_command.command) None) (sym c.is_ok.ensures ∙ w.if-is_ok.true))
        | else-is_ok w ↦ w.stop-is ∙ sym (ap (λ b. cond b (stop_of c.in-Ok-read_command.command) None) (sym c.is_ok.ensures ∙ w.if-is_ok.false))
      ];
    })

pub returns-in-Ok-read_command-clause-heard : goal.returns-in-Ok-read_command-clause-heard
returns-in-Ok-read_command-clause-heard g c = elim c.if-is_ok.branch [
  | then-is_ok w ↦ λ lost. c.stop_of-stop.ensures.heard (sym w.stop-is ∙ lost)
  | else-is_ok w ↦ λ lost. cc (w.stop-is, lost)
]
