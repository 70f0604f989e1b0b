use Rattle.std.proofs.Common.{[], ap, subst}
use Rattle.std.specs.List.{AllZip}
use Rattle.std.specs.Prelude.{unwrap_or}
use Rattle.sk_line.specs.Lines.{ReadsAs}
use Rattle.sk_line.specs.Work.{IsLoop}
use Rattle.sk_line.proofs.cron_words.loops_of.Goals as goal

pub returns-in-Some : goal.returns-in-Some
returns-in-Some c = subst (λ words. ReadsAs (λ loops. loops.items) (AllZip IsLoop words) c.loops.result) (ap (λ found. unwrap_or found []) c.in-Some.ensures) c.loops.ensures
