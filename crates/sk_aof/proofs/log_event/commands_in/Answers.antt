use Rattle.std.proofs.Common.{◌≡◌, ◌++◌, ◌∙◌, true, ap, subst, List, ℕ}
use Rattle.sk_resp.specs.Stream.{Reads, Stops}
use Rattle.sk_aof.specs.Read.{is_shortage}
use Rattle.sk_aof.proofs.Bodies.{cut_short, faulty_body}
use Rattle.sk_aof.proofs.log_event.commands_in.Goals as goal

pub returns : goal.returns
returns c =
    let body = c.args.body.now in
    let ok = c.in_default.ensures.ok in
    let reads = subst (λ (kept : List ℕ). Reads (kept ++ body) ok.2.0 c.feed.new.self.rest) (ap (λ f. f.rest) c.new-feeder.ensures) ok.2.2 in
    cut_short body ok.2.0 c.feed.new.self.rest (λ e.
    let rests : c.at_rest.result ≡ true = (c.at_rest.ensures ok.1).1 e in
    cc (rests, c.if-at_rest.false)) reads

pub returns-in-Err : goal.returns-in-Err
returns-in-Err c =
    let body = c.args.body.now in
    let err = c.in-Err.ensures.fault (ap (λ f. f.fault) c.new-feeder.ensures) in
    let stops = subst (λ (kept : List ℕ). Stops (kept ++ body) err.0 c.in-Err.fault) (ap (λ f. f.rest) c.new-feeder.ensures) err.2 in
    faulty_body body err.0 c.in-Err.fault (stops.faulty (λ e. cc (c.is_shortage.ensures ∙ ap is_shortage e, c.if-is_shortage.false)))
