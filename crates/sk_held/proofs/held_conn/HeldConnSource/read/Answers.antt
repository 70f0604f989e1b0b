use Rattle.std.proofs.Common.{◌≡◌, ℕ, List, Option, sym, subst}
use Rattle.sk_held.specs.Holding.{with_gathered}
use Rattle.sk_held.proofs.Handing.{held_same, pair_same}
use Rattle.sk_held.proofs.held_conn.HeldConnSource.read.Goals as goal

pub returns-in-Ok-clause-beside : goal.returns-in-Ok-clause-beside
returns-in-Ok-clause-beside g c =
    let taken = g.C.Sink.taken in
    let old = c.args.self.now in
    let new = c.receive.new.self in
    let hands = c.in-Ok.ensures.hands in
    let told = held_same (taken old.conn) old.gathered hands.sent (taken new.conn) new.gathered (g.met.C.Holdable.steady old.conn new.conn) hands.took hands.order in
    pair_same (with_gathered (taken old.conn) old.gathered) (with_gathered (taken new.conn) new.gathered) old.writes new.writes told c.in-Ok.ensures.counts.1

pub returns-clause-beside : goal.returns-clause-beside
returns-clause-beside g c =
    let taken = g.C.Sink.taken in
    let old = c.args.self.now in
    let new = c.receive.new.self in
    let hands = c.in_default.ensures.hands in
    let told = held_same (taken old.conn) old.gathered hands.sent (taken new.conn) new.gathered (g.met.C.Holdable.steady old.conn new.conn) hands.took hands.order in
    subst (λ h. ◌≡◌ {A = Option (List ℕ) × ℕ} (with_gathered (taken h.conn) h.gathered, h.writes) (with_gathered (taken old.conn) old.gathered, old.writes)) (sym c.self.view_is)
    (pair_same (with_gathered (taken old.conn) old.gathered) (with_gathered (taken new.conn) new.gathered) old.writes new.writes told c.in_default.ensures.counts.1)
