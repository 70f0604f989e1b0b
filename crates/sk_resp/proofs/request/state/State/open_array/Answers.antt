use Rattle.std.proofs.Common.{◌∙◌, refl, arith, append-nil}
use Rattle.sk_resp.specs.Spelling.{header}
use Rattle.sk_resp.proofs.request.state.State.open_array.Goals as goal

pub returns : goal.returns
returns c = record {
  is_open = rw c.new.ensures.items (record { left = c.requires.some; few = c.requires.few; short = tt; adds = refl; small = omega arith });
  seen = rw c.new.ensures.items (append-nil _ ∙ append-nil (header c.args.count));
}
