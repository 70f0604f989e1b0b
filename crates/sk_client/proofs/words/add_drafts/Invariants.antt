use Rattle.std.proofs.Common.{◌≡◌, ◌++◌, take}
use Rattle.sk_client.specs.Drafts.{AreBuilt, texts}
use Rattle.sk_client.proofs.words.add_drafts.Given as goal

abbrev pub invariant-loop-draft : goal.invariant-loop-draft
invariant-loop-draft l = (l.words.items ≡ l.initial.words.items ++ texts (take l.draft-index l.drafts)) × AreBuilt (take l.draft-index l.drafts)
