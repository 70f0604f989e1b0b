use Rattle.std.proofs.Common.{◌≡◌, take}
use Rattle.sk_client.specs.Requests.{lpush_words}
use Rattle.sk_client.proofs.bulk.slice_words.Given as goal

abbrev pub invariant-loop-text : goal.invariant-loop-text
invariant-loop-text l = l.words.items ≡ lpush_words l.queue (take l.text-index l.texts)
