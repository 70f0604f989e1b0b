use Rattle.std.proofs.Common.{Ok, Err, subst}
use Rattle.sk_iter.specs.Transcript.{GoesOn}
use Rattle.sk_iter.specs.declared.call.Call.{Call}
use Rattle.sk_iter.proofs.Calling.{not_read, read_and_went, read_and_went_from, with_cursor}
use Rattle.sk_iter.proofs.Losses.{ended_by}
use Rattle.sk_iter.proofs.iteration.go_on.Goals as goal

pub returns-in-Ok-go-clause-told : goal.returns-in-Ok-go-clause-told
returns-in-Ok-go-clause-told g c =
    let R = g.L.Link.carried c.args.link.now c.go.new.link in
    let a = g.I.Items.told c.args.items.now in
    let b = g.I.Items.told c.go.new.items in
    let call : Call = record { jid = c.args.jid; bounds = record { len = c.len-len.result; every = c.args.every; most = c.args.most }; cursor = c.in-Ok.cursor } in
    subst (λ n. GoesOn R a b c.args.jid.now (record { len = n; every = c.args.every; most = c.args.most }) (with_cursor c.in-Ok.cursor (Ok c.in-Ok-go.end))) c.len-len.ensures
    (read_and_went_from (g.L.Link.carried c.args.link.now c.read_cursor.new.link) (g.L.Link.carried c.read_cursor.new.link c.go.new.link) R a b call (Ok c.in-Ok-go.end)
    (λ cs ds p q. g.met.L.Link.carried_more c.args.link.now c.read_cursor.new.link c.go.new.link cs ds p q) c.in-Ok.ensures c.in-Ok-go.ensures.went)

pub returns-in-Ok-go-clause-ended : goal.returns-in-Ok-go-clause-ended
returns-in-Ok-go-clause-ended g c =
    let R = g.L.Link.carried c.args.link.now c.go.new.link in
    let a = g.I.Items.told c.args.items.now in
    let b = g.I.Items.told c.go.new.items in
    let call : Call = record { jid = c.args.jid; bounds = record { len = c.len-len.result; every = c.args.every; most = c.args.most }; cursor = c.in-Ok.cursor } in
    ended_by R a b c.args.jid.now call.bounds (Ok c.in-Ok-go.end) (g.L.Link.has_ended c.args.link.now) (g.L.Link.has_ended c.go.new.link)
    (λ cs p. g.met.L.Link.carried_ends c.args.link.now c.go.new.link cs p)
    (read_and_went (g.L.Link.carried c.args.link.now c.read_cursor.new.link) (g.L.Link.carried c.read_cursor.new.link c.go.new.link) R a b call (Ok c.in-Ok-go.end)
    (λ cs ds p q. g.met.L.Link.carried_more c.args.link.now c.read_cursor.new.link c.go.new.link cs ds p q) c.in-Ok.ensures c.in-Ok-go.ensures.went)

pub returns-in-Err-go-clause-told : goal.returns-in-Err-go-clause-told
returns-in-Err-go-clause-told g c =
    let R = g.L.Link.carried c.args.link.now c.go.new.link in
    let a = g.I.Items.told c.args.items.now in
    let b = g.I.Items.told c.go.new.items in
    let call : Call = record { jid = c.args.jid; bounds = record { len = c.len-len.result; every = c.args.every; most = c.args.most }; cursor = c.in-Ok.cursor } in
    subst (λ n. GoesOn R a b c.args.jid.now (record { len = n; every = c.args.every; most = c.args.most }) (with_cursor c.in-Ok.cursor (Err c.in-Err-go.fault))) c.len-len.ensures
    (read_and_went_from (g.L.Link.carried c.args.link.now c.read_cursor.new.link) (g.L.Link.carried c.read_cursor.new.link c.go.new.link) R a b call (Err c.in-Err-go.fault)
    (λ cs ds p q. g.met.L.Link.carried_more c.args.link.now c.read_cursor.new.link c.go.new.link cs ds p q) c.in-Ok.ensures c.in-Err-go.ensures.went)

pub returns-in-Err-go-clause-ended : goal.returns-in-Err-go-clause-ended
returns-in-Err-go-clause-ended g c =
    let R = g.L.Link.carried c.args.link.now c.go.new.link in
    let a = g.I.Items.told c.args.items.now in
    let b = g.I.Items.told c.go.new.items in
    let call : Call = record { jid = c.args.jid; bounds = record { len = c.len-len.result; every = c.args.every; most = c.args.most }; cursor = c.in-Ok.cursor } in
    ended_by R a b c.args.jid.now call.bounds (Err c.in-Err-go.fault) (g.L.Link.has_ended c.args.link.now) (g.L.Link.has_ended c.go.new.link)
    (λ cs p. g.met.L.Link.carried_ends c.args.link.now c.go.new.link cs p)
    (read_and_went (g.L.Link.carried c.args.link.now c.read_cursor.new.link) (g.L.Link.carried c.read_cursor.new.link c.go.new.link) R a b call (Err c.in-Err-go.fault)
    (λ cs ds p q. g.met.L.Link.carried_more c.args.link.now c.read_cursor.new.link c.go.new.link cs ds p q) c.in-Ok.ensures c.in-Err-go.ensures.went)

pub returns-in-Err-clause-told : goal.returns-in-Err-clause-told
returns-in-Err-clause-told g c =
    let P = g.L.Link.carried c.args.link.now c.read_cursor.new.link in
    let a = g.I.Items.told c.args.items.now in
    subst (λ n. GoesOn P a a c.args.jid.now (record { len = n; every = c.args.every; most = c.args.most }) (Err c.in-Err.fault)) c.len-len.ensures
    (not_read P a c.args.jid.now (record { len = c.len-len.result; every = c.args.every; most = c.args.most }) c.in-Err.fault c.in-Err.ensures)

pub returns-in-Err-clause-ended : goal.returns-in-Err-clause-ended
returns-in-Err-clause-ended g c =
    let P = g.L.Link.carried c.args.link.now c.read_cursor.new.link in
    let a = g.I.Items.told c.args.items.now in
    ended_by P a a c.args.jid.now (record { len = c.len-len.result; every = c.args.every; most = c.args.most }) (Err c.in-Err.fault)
    (g.L.Link.has_ended c.args.link.now) (g.L.Link.has_ended c.read_cursor.new.link) (λ cs p. g.met.L.Link.carried_ends c.args.link.now c.read_cursor.new.link cs p)
    (not_read P a c.args.jid.now (record { len = c.len-len.result; every = c.args.every; most = c.args.most }) c.in-Err.fault c.in-Err.ensures)
