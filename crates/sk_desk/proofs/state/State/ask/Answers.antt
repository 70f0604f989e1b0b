use Rattle.std.proofs.Common.{◌≤◌, ◌-◌, ap, subst, inl, arith}
use Rattle.sk_desk.specs.Counts.{Counts}
use Rattle.sk_desk.specs.State.{Asks, StateView}
use Rattle.sk_desk.specs.Writing.{Drafts, Settles, effect_of}
use Rattle.sk_desk.specs.declared.stamp.Effect.{Effect}
use Rattle.sk_desk.specs.declared.stamp.Stamp.{Stamp}
use Rattle.sk_desk.proofs.Journals.{asked_kept, asks, grew, opened}
use Rattle.sk_desk.proofs.Writings.{asked_written, stamp_of}
use Rattle.sk_desk.proofs.state.State.ask.Goals as goal

pub overflow_sub-added : goal.overflow_sub-added
overflow_sub-added g c =
    let more : c.self.inside.core.tally.outside ≤ c.step-reply.new.self.tally.outside = grew _ _ _ _ _ _ c.step-reply.ensures in
    omega (arith, more, ap (λ t. t.outside) c.tally-before.ensures.is, ap (λ t. t.outside) c.tally.ensures.is)

pub note-requires : goal.note-requires
note-requires g c = opened _ _ _ c.in-Ok.ensures.ok

-- what the state was, what it is now, and that the command was asked
pub invariant_of-self-2 : goal.invariant_of-self-2
invariant_of-self-2 g c =
    let book = c.self.inside.book in
    let old : StateView = record { world = c.self.inside.core; log = g.B.Book.log book; writing = g.B.Book.writing book; total = c.self.inside.total } in
    let new : StateView = record { world = c.step-reply.new.self; log = g.B.Book.log c.note.new.self; writing = g.B.Book.writing c.note.new.self; total = c.add.new.self } in
    let before = ap (λ t. t.outside) c.tally-before.ensures.is in
    let after = ap (λ t. t.outside) c.tally.ensures.is in
    let more : old.world.tally.outside ≤ new.world.tally.outside = grew _ _ _ _ _ _ c.step-reply.ensures in
    let asked = asks _ old new (g.B.Book.log c.prepare.new.self) c.args.seat c.args.now c.args.words.now c.args.command c.step-reply.result c.args.share.now c.add.new.share _ c.self.invariant.0.consistent c.step-reply.ensures c.in-Ok.ensures.ok c.note.ensures.entered (λ i. after i - before i) c.add.ensures.total c.add.ensures.share in
    let (o, may, comes) = c.step-reply.ensures in
    let stamped : Drafts g.B.Book.spells (stamp_of old.world c.args.seat c.args.now c.args.command) c.args.words.now old.writing (g.B.Book.writing c.prepare.new.self) =
    subst (λ (s : Stamp). Drafts g.B.Book.spells s c.args.words.now old.writing (g.B.Book.writing c.prepare.new.self))
    (λ i. record { seat = c.args.seat; sent_at = c.args.now; acts_at = c.acts_at.ensures i; effect = c.of.ensures i }) c.in-Ok.ensures.draft in
    let settled : Settles (effect_of c.args.command) c.step-reply.result (g.B.Book.writing c.prepare.new.self) new.writing =
    subst (λ (how : Effect). Settles how c.step-reply.result (g.B.Book.writing c.prepare.new.self) new.writing) c.of.ensures c.note.ensures.written in
    let written = asked_written g.B.Book.spells _ old.world new.world c.args.seat c.args.now c.args.words.now c.args.command o c.step-reply.result may comes.new_is comes.reply_is g.B.Book.wants_words old.writing _ new.writing c.requires.read (g.met.B.Book.unwritten book) c.self.invariant.0.kept_up stamped settled in (
      asked_kept g.B.Book.wants_words _ _ old new c.args.seat c.args.now c.args.words.now c.args.command c.step-reply.result _ _ c.self.invariant.0 c.requires.read (g.met.B.Book.untold book) asked
          (omega (arith, more, before, after, ap (λ (t : Counts). t.rows) c.add.ensures.total, c.self.invariant.0.consistent.counted)) written,
      c.self.invariant.1,
    )

pub returns-clause-asks : goal.returns-clause-asks
returns-clause-asks g c =
    let book = c.self.inside.book in
    let old : StateView = record { world = c.self.inside.core; log = g.B.Book.log book; writing = g.B.Book.writing book; total = c.self.inside.total } in
    let new : StateView = record { world = c.step-reply.new.self; log = g.B.Book.log c.note.new.self; writing = g.B.Book.writing c.note.new.self; total = c.add.new.self } in
    let before = ap (λ t. t.outside) c.tally-before.ensures.is in
    let after = ap (λ t. t.outside) c.tally.ensures.is in
    let asked = asks _ old new (g.B.Book.log c.prepare.new.self) c.args.seat c.args.now c.args.words.now c.args.command c.step-reply.result c.args.share.now c.add.new.share _ c.self.invariant.0.consistent c.step-reply.ensures c.in-Ok.ensures.ok c.note.ensures.entered (λ i. after i - before i) c.add.ensures.total c.add.ensures.share in
    subst (λ (s : StateView). Asks s new c.args.seat c.args.now c.args.words.now c.args.command c.step-reply.result c.args.share.now c.add.new.share) c.self.view_is (inl asked)
