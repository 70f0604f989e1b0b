use Rattle.std.proofs.Common.{◌≡◌, ◌≤◌, ◌*◌, ◌^◌, take}
use Rattle.std.specs.List.{AllByRecursion}
use Rattle.sk_resp.specs.Spelling.{total_length}
use Rattle.sk_resp.specs.Request.{IsWord}
use Rattle.sk_aof.proofs.log_event.is_command.Given as goal

abbrev pub invariant-loop-word : goal.invariant-loop-word
invariant-loop-word l = record {
  total_is : l.total ≡ total_length (take l.word-index l.list);
  small : l.total ≤ l.word-index * 2 ^ 20;
  short : AllByRecursion IsWord (take l.word-index l.list);
}
