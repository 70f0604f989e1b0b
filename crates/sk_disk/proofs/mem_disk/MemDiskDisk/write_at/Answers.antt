use Rattle.std.proofs.Common.{length}
use Rattle.sk_disk.specs.declared.mem_disk.Call.TheVariants.{Wrote}
use Rattle.sk_disk.proofs.Calls.{adds_time, still_torn, wrote_content, wrote_left, still_on, adds_on}
use Rattle.sk_disk.proofs.mem_disk.MemDiskDisk.write_at.Goals as goal

pub returns-then-not-passes-clause-crash : goal.returns-then-not-passes-clause-crash
returns-then-not-passes-clause-crash c = still_torn c.args.self.now c.passes.new.self c.args.at (length c.args.bytes.now) c.passes.ensures.same

pub returns-in_default-clause-crash : goal.returns-in_default-clause-crash
returns-in_default-clause-crash c =
    still_torn c.args.self.now c.fail.new.self c.args.at (length c.args.bytes.now) (still_on c.args.self.now c.passes.new.self c.fail.new.self c.passes.ensures.same (still_on c.passes.new.self c.overwrite.new.self c.fail.new.self c.in_default.ensures.err c.fail.ensures.same))

pub returns-clause-written : goal.returns-clause-written
returns-clause-written c = let o = c.in-Ok.ensures.ok in
    wrote_content c.args.self.now c.overwrite.new.self c.args.at o.0 c.args.bytes.now o.1 (adds_on (Wrote c.args.at o.0) c.args.self.now c.passes.new.self c.overwrite.new.self c.passes.ensures.same o.2)

pub returns-clause-crash : goal.returns-clause-crash
returns-clause-crash c = let o = c.in-Ok.ensures.ok in
    wrote_left c.args.self.now c.overwrite.new.self c.args.at o.0 c.args.bytes.now o.1 (adds_on (Wrote c.args.at o.0) c.args.self.now c.passes.new.self c.overwrite.new.self c.passes.ensures.same o.2)

pub returns-clause-time : goal.returns-clause-time
returns-clause-time c = let o = c.in-Ok.ensures.ok in
    adds_time (Wrote c.args.at o.0) c.args.self.now c.overwrite.new.self (adds_on (Wrote c.args.at o.0) c.args.self.now c.passes.new.self c.overwrite.new.self c.passes.ensures.same o.2)
