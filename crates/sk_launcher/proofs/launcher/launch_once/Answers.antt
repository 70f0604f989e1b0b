use Rattle.std.proofs.Common.{◌≡◌, ◌∙◌, ap, map, refl, rules, sym, subst}
use Rattle.sk_base.specs.Outside.{Rose}
use Rattle.sk_link.specs.Wire.{WireCarries}
use Rattle.sk_worker.specs.Promises.{Answers}
use Rattle.sk_launcher.specs.Connections.{door_tells}
use Rattle.sk_launcher.specs.Counting.{no_turns, total_from}
use Rattle.sk_launcher.specs.Launching.{IsLeastOf, Process, launched, office}
use Rattle.sk_launcher.specs.Patience.{either}
use Rattle.sk_launcher.specs.Polling.{own_poller}
use Rattle.sk_launcher.specs.Teams.{HaveReturned, done_in, teams_of}
use Rattle.sk_launcher.specs.declared.launch_fault.LaunchFault.TheVariants as fault
use Rattle.sk_launcher.specs.Working.{worker_settings}
use Rattle.sk_launcher.proofs.Launches.{answered_by, are_done, never_began, polls_same, process_within, rose_within, same_watch, some_by}
use Rattle.sk_launcher.proofs.launcher.launch_once.Goals as goal

pub returns-clause-told : goal.returns-clause-told
returns-clause-told g c =
    let settings = c.args.own.now in
    let ready = c.in-Ok-make_ready.ready in
    let given = c.in-Ok-make_ready.ensures.given in
    let begun = c.start_poller-poller.ensures.begun in
    let first = c.make_ready.new.net in
    let last = c.run_process.new.net in
    let returns = c.run_process.new.returns in
    let counts = map (λ t. t.counts) returns.tallies.items in
    let poller = own_poller g.C.Clock.moments c.start_poller-poller.result in
    let door = door_tells (g.N.Door.dialled first) (g.N.Door.kept first) in
    let after = door_tells (g.N.Door.dialled last) (g.N.Door.kept last) in
    let teams_then = teams_of (λ v. (goal.Job-dyn g v).runs v.1) c.args.teams.now.items in
    let teams_now = teams_of (λ v. (goal.Job-dyn g v).runs v.1) returns.teams.items in
    let teams : c.from.result.items ≡ c.args.teams.now.items = search rules in
    let plain : c.from-2.result.items ≡ c.args.rules.now.items = search rules in
    let offset : c.new-2.result.offset ≡ settings.offset = search rules in
    let end = c.settle.result in
    let own = either end.fault (total_from no_turns counts) in
    let least = subst (λ e. IsLeastOf returns.faults.items e.fault) (sym c.settle.ensures.same) c.answer-back.ensures.fault in
    record {
      own = own;
      own_is = refl;
      counted = ap (λ (e : _). e.counts) c.settle.ensures.same ∙ c.answer-back.ensures.counts;
      launch = launched own (record {
        conn = ready.conn;
        door_first = door;
        own = ready.own;
        others = ready.others.items;
        fresh = begun.0;
        begun = poller;
        faults = returns.faults.items;
        counts = counts;
        seeded = c.in-Ok-make_ready.ensures.seeded;
        gives = given.1;
        is_fresh = record {
          link = begun.1;
          watch_is = begun.2 ∙ same_watch settings.ident _ settings.loops.items _ settings.offset _ (c.new-2.ensures.ident ∙ given.0)
              (c.new-2.ensures.loops ∙ ap (λ (v : _). v.items) c.replace-loops.ensures.value) offset;
          dice_is = begun.3;
          taken = begun.4;
          whole = begun.5;
        };
        polled = begun.6;
        once = c.start_poller-poller.ensures.once;
        process = process_within _ _ _ _ (rose_within _ _ _ c.make_ready.ensures.later) _ _ _ _ _ _ _ _
            (subst (λ ts. Process (WireCarries g.N.Conn.Sink.taken g.N.Conn.Source.left g.N.Conn.Source.read_faults g.N.Conn.Sink.write_faults) Answers
            (Rose (g.N.Door.door_faults first) (g.N.Door.door_faults last)) (worker_settings settings.ident settings.order settings.prefetch) settings.threads settings.turns poller
            (office door (teams_of (λ v. (goal.Job-dyn g v).runs v.1) ts) c.args.rules.now.items ready.others.items) after returns.faults.items counts) teams
            (subst (λ rs. Process (WireCarries g.N.Conn.Sink.taken g.N.Conn.Source.left g.N.Conn.Source.read_faults g.N.Conn.Sink.write_faults) Answers
            (Rose (g.N.Door.door_faults first) (g.N.Door.door_faults last)) (worker_settings settings.ident settings.order settings.prefetch) settings.threads settings.turns poller
            (office door (teams_of (λ v. (goal.Job-dyn g v).runs v.1) c.from.result.items) rs ready.others.items) after returns.faults.items counts) plain
            c.run_process.ensures.process));
        answered = answered_by returns.faults.items counts end.fault least;
        some = some_by settings.turns end.fault (total_from no_turns counts) c.settle.ensures.turns;
        done = are_done _ _ returns.faults.items counts own own (answered_by returns.faults.items counts end.fault least) refl (λ none.
            subst (λ ts. HaveReturned teams_then (teams_of (λ v. (goal.Job-dyn g v).runs v.1) ts) (done_in counts)) (sym c.answer-back.ensures.teams)
            (subst (λ ts. HaveReturned (teams_of (λ v. (goal.Job-dyn g v).runs v.1) ts) teams_now (done_in counts)) teams (c.run_process.ensures.done none)));
      });
    }

pub returns-in_default-clause-told : goal.returns-in_default-clause-told
returns-in_default-clause-told g c = never_began _ _ _ _ _ _ _ _ _ fault.Memory c.hindered.ensures.counts c.hindered.ensures.fault tt refl

pub returns-in-Err-clause-told : goal.returns-in-Err-clause-told
returns-in-Err-clause-told g c =
    never_began _ _ _ _ _ _ _ _ _ c.in-Err.fault c.hindered-in-Err.ensures.counts c.hindered-in-Err.ensures.fault c.in-Err.ensures.cause c.in-Err.ensures.err

pub returns-clause-loops : goal.returns-clause-loops
returns-clause-loops g c =
    let begun = c.start_poller-poller.ensures.begun in
    c.run_process.ensures.loops ∙ ap (λ (w : _). w.loops) (polls_same _ _ _ begun.6 ∙ begun.2) ∙ c.new-2.ensures.loops ∙ ap (λ (v : _). v.items) c.replace-loops.ensures.value
