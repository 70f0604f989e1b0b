use Rattle.std.proofs.Common.{◌≡◌, ◌≤◌, ◌∙◌, List, ap, arith, length, subst, sym}
use Rattle.sk_undo.specs.Balance.{most}
use Rattle.sk_undo.specs.Versions.{Versions}
use Rattle.sk_batch.specs.Along.{along}
use Rattle.sk_batch.specs.Batched.{MemberEntry}
use Rattle.sk_batch.specs.Order.{put_all}
use Rattle.sk_batch.specs.States.{BatchInvariant, StateEntry, seen_of, with_change}
use Rattle.sk_batch.specs.declared.numbers.Change.TheVariants.{Came}
use Rattle.sk_batch.proofs.Invariant.{kept_came, length_members, seen_changed}
use Rattle.sk_batch.proofs.make.enter.Goals as goal

pub returns-clause-batches : goal.returns-clause-batches
returns-clause-batches c = record {
  current = ap (λ (s : Versions (List StateEntry)). seen_of s.current) c.change_ancestors.ensures.list ∙ seen_changed c.args.batches.now.list.current (Came c.len.result) c.args.bid.now c.change_ancestors.ensures.once;
  saved = ap (λ (s : Versions (List StateEntry)). s.saved) c.change_ancestors.ensures.list;
}

pub returns-clause-kept : goal.returns-clause-kept
returns-clause-kept c = λ jids is few.
    let old = c.args.batches.now.list.current in
    let members = c.args.members.now.list.current in
    let end : List StateEntry = along (with_change (Came (length jids)) c.args.bid.now) old c.args.bid.now in
    let count : c.len.result ≡ length jids = c.len.ensures ∙ c.args.news.ok.0 ∙ ap length is ∙ length_members c.args.bid.now jids in
    let current = ap (λ (s : Versions (List StateEntry)). s.current) c.change_ancestors.ensures.list ∙ ap (λ n. along (with_change (Came n) c.args.bid.now) old c.args.bid.now) count in
    let put = ap (λ (s : Versions (List MemberEntry)). s.current) c.add_members.ensures ∙ ap (λ (news : List MemberEntry). put_all news members) is in
    let short : length jids ≤ most = omega (arith, few, count, c.len.ensures) in
    let kept = kept_came old members c.args.bid.now jids c.requires.kept c.change_ancestors.ensures.once c.requires.there short (omega (arith, c.len-len.ensures.is, c.len-len.ensures.small)) in
    subst (λ (l : List StateEntry). BatchInvariant l c.add_members.new.members.list.current) (sym current) (subst (λ (ms : List MemberEntry). BatchInvariant end ms) (sym put) kept)
