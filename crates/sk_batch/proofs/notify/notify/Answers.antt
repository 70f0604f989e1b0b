use Rattle.std.proofs.Common.{◌≡◌, ◌<◌, ◌∙◌, ℕ, List, ap, ap₂, arith, length, get_or, subst, sym}
use Rattle.std.specs.List.{position_or_len}
use Rattle.sk_undo.specs.Versions.{Versions}
use Rattle.sk_batch.specs.Along.{along}
use Rattle.sk_batch.specs.Ancestors.{ancestors}
use Rattle.sk_batch.specs.Batched.{MemberEntry, is_job}
use Rattle.sk_batch.specs.Due.{due}
use Rattle.sk_batch.specs.Fires.{retagged}
use Rattle.sk_batch.specs.Numbers.{gained}
use Rattle.sk_batch.specs.Open.{with_mark}
use Rattle.sk_batch.specs.Places.{climbed, each_once}
use Rattle.sk_batch.specs.States.{BatchInvariant, StateEntry, all_fired, seen_of, with_change}
use Rattle.sk_batch.specs.Notify.{mark_of}
use Rattle.sk_batch.specs.declared.member.Progress.{Progress}
use Rattle.sk_batch.specs.declared.firing.Firing.{Firing}
use Rattle.sk_batch.specs.declared.numbers.Change.TheVariants.{Got}
use Rattle.sk_batch.proofs.Climbs.{climbed_all}
use Rattle.sk_batch.proofs.Notifying.{due_notified, kept_notified, seen_notified}
use Rattle.sk_batch.proofs.notify.notify.Goals as goal

pub returns-clause-fires : goal.returns-clause-fires
returns-clause-fires c =
    let batches = c.args.batches.now.list.current in
    let members = c.args.members.now.list.current in
    let within : c.member_at-at.result < length members = omega (arith, c.if-at-len.false, c.len.ensures.is, c.member_at-at.ensures.within) in
    let gain : c.gained-gained.result ≡ gained (mark_of c.args.event) (get_or members c.member_at-at.result c.get.result.now).0 = c.gained-gained.ensures ∙ ap₂ (λ m (e : MemberEntry). gained m e.0) c.mark_of-mark.ensures c.get.ensures in
    let all : climbed c.deref.result.now batches ≡ ancestors batches c.args.bid.now = ap (λ (places : List ℕ). climbed places batches) c.deref.ensures.value ∙ climbed_all c.args.bid.now c.in_ok-places.places.items batches c.in_ok-places.ensures in
    c.in_ok-firings.ensures ∙ ap (due c.args.event c.gained-gained.result) all ∙ ap (λ (g : Progress). due c.args.event g (ancestors batches c.args.bid.now)) gain ∙ due_notified c.args.event batches members c.requires c.args.bid.now c.args.jid.now c.member_at-at.result c.get.result.now c.member_at-at.ensures.is within

pub returns-clause-batches : goal.returns-clause-batches
returns-clause-batches c =
    let batches = c.args.batches.now.list.current in
    let members = c.args.members.now.list.current in
    let within : c.member_at-at.result < length members = omega (arith, c.if-at-len.false, c.len.ensures.is, c.member_at-at.ensures.within) in
    let gain : c.gained-gained.result ≡ gained (mark_of c.args.event) (get_or members c.member_at-at.result c.get.result.now).0 = c.gained-gained.ensures ∙ ap₂ (λ m (e : MemberEntry). gained m e.0) c.mark_of-mark.ensures c.get.ensures in
    let all : climbed c.deref.result.now batches ≡ ancestors batches c.args.bid.now = ap (λ (places : List ℕ). climbed places batches) c.deref.ensures.value ∙ climbed_all c.args.bid.now c.in_ok-places.places.items batches c.in_ok-places.ensures in
    let fires = c.deref-3.ensures.value ∙ c.in_ok-firings.ensures ∙ ap (due c.args.event c.gained-gained.result) all ∙ ap (λ (g : Progress). due c.args.event g (ancestors batches c.args.bid.now)) gain in
    let once = ap (λ (fs : List Firing). each_once (all_fired fs batches)) (sym fires) ∙ c.in_ok-keep_fires.ensures.once in
    let current = ap (λ (s : Versions (List StateEntry)). s.current) c.in_ok-keep_fires.ensures.ok ∙ ap₂ (λ (g : Progress) (fs : List Firing). along (with_change (Got g) c.args.bid.now) (all_fired fs batches) c.args.bid.now) gain fires in
    record {
      current = ap seen_of current ∙ seen_notified c.args.event batches members c.requires c.args.bid.now c.args.jid.now c.member_at-at.result c.get.result.now c.member_at-at.ensures.is within once;
      saved = ap (λ (s : Versions (List StateEntry)). s.saved) c.in_ok-keep_fires.ensures.ok;
    }

pub returns-clause-kept : goal.returns-clause-kept
returns-clause-kept c =
    let batches = c.args.batches.now.list.current in
    let members = c.args.members.now.list.current in
    let within : c.member_at-at.result < length members = omega (arith, c.if-at-len.false, c.len.ensures.is, c.member_at-at.ensures.within) in
    let gain : c.gained-gained.result ≡ gained (mark_of c.args.event) (get_or members c.member_at-at.result c.get.result.now).0 = c.gained-gained.ensures ∙ ap₂ (λ m (e : MemberEntry). gained m e.0) c.mark_of-mark.ensures c.get.ensures in
    let all : climbed c.deref.result.now batches ≡ ancestors batches c.args.bid.now = ap (λ (places : List ℕ). climbed places batches) c.deref.ensures.value ∙ climbed_all c.args.bid.now c.in_ok-places.places.items batches c.in_ok-places.ensures in
    let fires = c.deref-3.ensures.value ∙ c.in_ok-firings.ensures ∙ ap (due c.args.event c.gained-gained.result) all ∙ ap (λ (g : Progress). due c.args.event g (ancestors batches c.args.bid.now)) gain in
    let once = ap (λ (fs : List Firing). each_once (all_fired fs batches)) (sym fires) ∙ c.in_ok-keep_fires.ensures.once in
    let current = ap (λ (s : Versions (List StateEntry)). s.current) c.in_ok-keep_fires.ensures.ok ∙ ap₂ (λ (g : Progress) (fs : List Firing). along (with_change (Got g) c.args.bid.now) (all_fired fs batches) c.args.bid.now) gain fires in
    let same = ap (λ (s : Versions (List MemberEntry)). s.current) c.in_ok-reserve.ensures.list in
    let place = c.member_at-at.ensures.is ∙ ap (λ (xs : List MemberEntry). position_or_len (is_job c.args.bid.now c.args.jid.now) xs) (sym same) in
    let marked = ap (λ (s : Versions (List MemberEntry)). s.current) (c.mark_member.ensures (is_job c.args.bid.now c.args.jid.now) place) ∙ ap₂ (λ m (xs : List MemberEntry). retagged (is_job c.args.bid.now c.args.jid.now) (with_mark m) xs) c.mark_of-mark.ensures same in
    let kept = kept_notified c.args.event batches members c.requires c.args.bid.now c.args.jid.now c.member_at-at.result c.get.result.now c.member_at-at.ensures.is within once in
    let end : List StateEntry = along (with_change (Got (gained (mark_of c.args.event) (get_or members c.member_at-at.result c.get.result.now).0)) c.args.bid.now) (all_fired (due c.args.event (gained (mark_of c.args.event) (get_or members c.member_at-at.result c.get.result.now).0) (ancestors batches c.args.bid.now)) batches) c.args.bid.now in
    subst (λ (l : List StateEntry). BatchInvariant l c.mark_member.new.members.list.current) (sym current) (subst (λ (ms : List MemberEntry). BatchInvariant end ms) (sym marked) kept)
