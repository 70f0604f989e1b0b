use Rattle.std.proofs.Common.{refl}
use Rattle.sk_cmd.specs.declared.argument.Side.TheVariants.{Left}
use Rattle.sk_jobs.proofs.Calling.{on_ok, pushed_aside}
use Rattle.sk_model.proofs.Tools.Room.{pushed_few}
use Rattle.sk_jobs.proofs.callbacks.push_job.Goals as goal

pub returns-in_default-clause-aside : goal.returns-in_default-clause-aside
returns-in_default-clause-aside c = λ test others aside is. is

pub returns-clause-aside : goal.returns-clause-aside
returns-clause-aside c = on_ok _ _ c.push.result (λ e. pushed_aside c.args.store.now c.push.new.self c.args.from c.have-held.result Left _ _ refl e) c.push.ensures.ok

pub returns-clause-few : goal.returns-clause-few
returns-clause-few c = pushed_few c.push.result c.args.from c.have-held.result Left _ c.args.store.now.places c.push.new.self c.push.ensures.ok
