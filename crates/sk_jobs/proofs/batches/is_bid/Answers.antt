use Rattle.sk_payload.proofs.Names.{same_test}
use Rattle.sk_jobs.proofs.batches.is_bid.Goals as goal

pub returns : goal.returns
returns c = same_test c.is_name.result 64 c.args.bid.now c.is_name.ensures
