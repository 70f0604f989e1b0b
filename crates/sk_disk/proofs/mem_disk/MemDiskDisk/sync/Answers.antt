use Rattle.std.proofs.Common.{◌∙◌, sym}
use Rattle.sk_disk.specs.declared.mem_disk.Call.TheVariants.{Synced}
use Rattle.sk_disk.proofs.Calls.{adds_on, adds_time, synced_content, synced_fewer, synced_left}
use Rattle.sk_disk.proofs.mem_disk.MemDiskDisk.sync.Goals as goal

pub returns-clause-durable : goal.returns-clause-durable
returns-clause-durable c = synced_left c.args.self.now c.note_sync.new.self (adds_on Synced c.args.self.now c.passes.new.self c.note_sync.new.self c.passes.ensures.same c.in-Ok.ensures.ok)

pub returns-clause-same : goal.returns-clause-same
returns-clause-same c =
    let same = synced_content c.args.self.now c.note_sync.new.self (adds_on Synced c.args.self.now c.passes.new.self c.note_sync.new.self c.passes.ensures.same c.in-Ok.ensures.ok) in
    record { forth = λ image e. e ∙ sym same; back = λ image e. e ∙ same }

pub returns-clause-crash : goal.returns-clause-crash
returns-clause-crash c = synced_fewer c.args.self.now c.note_sync.new.self (adds_on Synced c.args.self.now c.passes.new.self c.note_sync.new.self c.passes.ensures.same c.in-Ok.ensures.ok)

pub returns-clause-time : goal.returns-clause-time
returns-clause-time c = adds_time Synced c.args.self.now c.note_sync.new.self (adds_on Synced c.args.self.now c.passes.new.self c.note_sync.new.self c.passes.ensures.same c.in-Ok.ensures.ok)
