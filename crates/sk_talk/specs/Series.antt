-- Commands that were done at once, before any of their replies was written.
use Rattle.std.specs.Prelude.{◌≡◌, ◌++◌, List, Option}
use Rattle.sk_resp.specs.Request.{Command}
use Rattle.sk_resp.specs.declared.reply.Reply.{Reply}
use Rattle.sk_talk.specs.Talk.{DoesAll, IsHeard}
use Rattle.sk_talk.specs.declared.talk_end.Stop.{Stop}

-- Some of the commands were done, from their front on, and these are left; their replies stand behind the others, and the last of them stops the talk so or goes on.
pub record DoesSome {S : Type 0} (does : S → Command → Reply → Option Stop → S → Type 0) (old : S) (commands : List Command) (before : List Reply) (stop : Option Stop) (new : S) (left : List Command) (after : List Reply) : Type 0 where
  pub done : List Command
  pub replies : List Reply
  pub front : commands ≡ done ++ left
  pub behind : after ≡ before ++ replies
  pub did : DoesAll does old done replies new stop
  pub heard : IsHeard stop
