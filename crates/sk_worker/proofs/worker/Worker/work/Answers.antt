use Rattle.std.proofs.Common.{◌≡◌, ◌∙◌, inl, inr, [], ◌∷◌, None, Some, IsSome, MatchOption, drop, map, refl, slice_get, sym, subst, codes, arith}
use Rattle.std.proofs.lemmas.Bool.{true≢false}
use Rattle.sk_link.specs.Call.{Call, answered}
use Rattle.sk_link.specs.declared.asking.Answer.TheVariants as answer
use Rattle.sk_worker.specs.Event.{asked, choices, ran, runs as runs_in}
use Rattle.sk_worker.specs.Request.{script_words}
use Rattle.sk_worker.specs.Run.{Run, place_of}
use Rattle.sk_worker.specs.Stage.{JobTranscript, Line, ended, failed, fail as fail_row, fail_unknown, holding, raised, runs, start, started}
use Rattle.sk_worker.proofs.Events.{parts_call, parts_calls, parts_ran, parts_run, parts_same}
use Rattle.sk_worker.proofs.Runs.{RunsTold-first, RunsTold-none, RunsTold-nothing}
use Rattle.sk_worker.proofs.Walks.{first_of, none_held, said, job_unsaid, job_later}
use Rattle.sk_worker.proofs.Works.{RulesAnswered-by, attempted, same_error, same_items, works_on, works_on_none}
use Rattle.sk_worker.proofs.worker.Worker.work.Goals as goal

pub returns-in_default-clause-told : goal.returns-in_default-clause-told
returns-in_default-clause-told g c = λ w e k.
    let held = c.args.self.now.held.items in
    let none : held ≡ [] = none_held held _ c.args.self.now.held.ok.0 (λ some. true≢false (sym (c.in_default.ensures.variant.1 some))) in
    ([], parts_calls [] (g.met.L.Link.carried_none _) (RunsTold-none c.args.registry.now.classes _) refl refl (record { each = tt }), works_on_none w held none)

pub returns-in_default-head-clause-told : goal.returns-in_default-head-clause-told
returns-in_default-head-clause-told g c = λ w e k.
    let held = c.args.self.now.held.items in
    let payload = c.in-Some.payload.now in
    let items : held ≡ payload ∷ drop 1 held = first_of held payload (omega (arith, c.args.self.now.held.ok.0, c.in-Some.ensures.variant.0 refl)) c.in-Some.ensures.lookup in
    let t = c.bury_bare.ensures w e in
    (map asked t.0, parts_calls t.0 t.1 (RunsTold-none c.args.registry.now.classes _) refl refl (record { each = tt }), works_on w held _ payload _ _ items t.2)

pub returns-in-Err-clause-told : goal.returns-in-Err-clause-told
returns-in-Err-clause-told g c = λ w e k.
    let held = c.args.self.now.held.items in
    let payload = c.in-Some.payload.now in
    let head = c.in-Some-head.head.now in
    let items : held ≡ payload ∷ drop 1 held = first_of held payload (omega (arith, c.args.self.now.held.ok.0, c.in-Some.ensures.variant.0 refl)) c.in-Some.ensures.lookup in
    let request = script_words (codes "SK.START") payload in
    let t = job_unsaid (λ cs. g.L.Link.carried c.args.link.now c.say.new.link cs) w
    (holding payload) request answer.Okay (λ _. started payload head) c.in-Err.fault
    (start payload head (sym c.in-Some-head.ensures.value)) (c.in-Err.ensures request c.script-words.ensures) in
    (map asked t.0, parts_calls t.0 t.1 (RunsTold-none c.args.registry.now.classes _) refl refl (record { each = tt }), works_on w held _ payload _ _ items t.2)

pub returns-in-Err-attempt-clause-told : goal.returns-in-Err-attempt-clause-told
returns-in-Err-attempt-clause-told g c = λ w e k.
    let held = c.args.self.now.held.items in
    let payload = c.in-Some.payload.now in
    let head = c.in-Some-head.head.now in
    let items : held ≡ payload ∷ drop 1 held = first_of held payload (omega (arith, c.args.self.now.held.ok.0, c.in-Some.ensures.variant.0 refl)) c.in-Some.ensures.lookup in
    let request = script_words (codes "SK.START") payload in
    let call : Call = answered request c.in-Ok.field-0 in
    let s = c.in-Ok.ensures request c.script-words.ensures in (
      asked call ∷ [],
      parts_calls (call ∷ []) s.0 c.in-Err-attempt.ensures.err refl refl (record { each = tt }),
      works_on w held _ payload _ _ items
          (started payload head, said w (holding payload) request answer.Okay _ c.in-Ok.field-0 (start payload head (sym c.in-Some-head.ensures.value)) s.1),
    )

pub returns-in-Ok-Returned-clause-told : goal.returns-in-Ok-Returned-clause-told
returns-in-Ok-Returned-clause-told g c = λ w e k.
    let held = c.args.self.now.held.items in
    let payload = c.in-Some.payload.now in
    let head = c.in-Some-head.head.now in
    let classes = c.args.registry.now.classes in
    let items : held ≡ payload ∷ drop 1 held = first_of held payload (omega (arith, c.args.self.now.held.ok.0, c.in-Some.ensures.variant.0 refl)) c.in-Some.ensures.lookup in
    let request = script_words (codes "SK.START") payload in
    let call : Call = answered request c.in-Ok.field-0 in
    let s = c.in-Ok.ensures request c.script-words.ensures in
    let o = c.in-Ok-Returned.field-0 in
    let run : Run = record { head = head; outcome = o } in
    let t = c.finish.ensures w e in
    elim (attempted (place_of classes head.class) c.in-Ok-Returned.ensures.ran) [
      | inl h ↦ absurd (cc (sym c.in-Ok-Returned.field-0-is ∙ h.1.1))
      | inr h ↦ (
        asked call ∷ ran run ∷ map asked t.0,
        parts_call call (ran run ∷ map asked t.0) (λ cs more. g.met.L.Link.carried_more _ _ _ (call ∷ []) cs s.0 more)
            (parts_ran run t.0 t.1 h.1 refl refl (record { each = tt })),
        works_on w held _ payload _ _ items (job_later w (holding payload) (started payload head) (asked call ∷ []) (ran run ∷ map asked t.0) c.finish.result
            (said w (holding payload) request answer.Okay _ c.in-Ok.field-0 (start payload head (sym c.in-Some-head.ensures.value)) s.1)
            (job_later w (started payload head) (ended payload head o) (ran run ∷ []) (map asked t.0) c.finish.result
            (_, runs payload head o (subst (λ names. IsSome (place_of names head.class)) (sym k) h.0), refl)
            (subst (λ end. JobTranscript w (ended payload head end) (map asked t.0) c.finish.result) (sym c.in-Ok-Returned.field-0-is) t.2))),
      )
    ]

pub returns-in-Ok-Raised-clause-told : goal.returns-in-Ok-Raised-clause-told
returns-in-Ok-Raised-clause-told g c = λ w e k.
    let held = c.args.self.now.held.items in
    let payload = c.in-Some.payload.now in
    let head = c.in-Some-head.head.now in
    let classes = c.args.registry.now.classes in
    let rules = c.args.registry.now.rules.items in
    let plain = c.args.self.now.plain in
    let rule = c.rule_of-rule.result.now in
    let items : held ≡ payload ∷ drop 1 held = first_of held payload (omega (arith, c.args.self.now.held.ok.0, c.in-Some.ensures.variant.0 refl)) c.in-Some.ensures.lookup in
    let request = script_words (codes "SK.START") payload in
    let call : Call = answered request c.in-Ok.field-0 in
    let s = c.in-Ok.ensures request c.script-words.ensures in
    let o = c.in-Ok-Raised.field-0 in
    let raised_ = c.in-Ok-Raised.raised in
    let run : Run = record { head = head; outcome = o } in
    let starts = said w (holding payload) request answer.Okay _ c.in-Ok.field-0 (start payload head (sym c.in-Some-head.ensures.value)) s.1 in
    let of_class : MatchOption (place_of classes head.class) (rule ≡ plain) (λ i. slice_get rules i ≡ Some rule)
    = subst (λ names. MatchOption (place_of names head.class) (rule ≡ plain) (λ i. slice_get rules i ≡ Some rule)) c.in-Ok-Raised.ensures.classes
    (subst (λ found. MatchOption (place_of c.attempt.new.self.classes head.class) (rule ≡ plain) (λ i. slice_get found i ≡ Some rule))
    (same_items _ _ c.in-Ok-Raised.ensures.rules) c.rule_of-rule.ensures) in
    elim (attempted (place_of classes head.class) c.in-Ok-Raised.ensures.ran) [
      | inl h ↦
          let none : place_of w.classes head.class ≡ None = subst (λ names. place_of names head.class ≡ None) (sym k) h.0 in
          let line : Line w (started payload head) (script_words (codes "SK.FAIL") payload) answer.List (λ _. failed payload head raised_)
          = subst (λ r. Line w (started payload head) (script_words (codes "SK.FAIL") payload) answer.List (λ _. failed payload head r))
          (sym (same_error raised_ _ o c.in-Ok-Raised.field-0-is h.1.1)) (fail_unknown payload head none) in
          let t = c.fail.ensures w (started payload head) e line in (
            asked call ∷ t.0,
            parts_call call t.0 (λ cs more. g.met.L.Link.carried_more _ _ _ (call ∷ []) cs s.0 more)
                (parts_same t.0 (λ no_runs. RunsTold-nothing classes (runs_in t.0) _ _ no_runs h.1.0)
                (λ chosen. RulesAnswered-by _ classes head.class rules plain rule (choices t.0) of_class chosen) t.1),
            works_on w held _ payload _ _ items (job_later w (holding payload) (started payload head) (asked call ∷ []) t.0 c.fail.result starts t.2),
          )
      | inr h ↦
          let t = c.fail.ensures w (raised payload head raised_) e (fail_row payload head raised_) in (
            asked call ∷ ran run ∷ t.0,
            parts_call call (ran run ∷ t.0) (λ cs more. g.met.L.Link.carried_more _ _ _ (call ∷ []) cs s.0 more)
                (parts_run run t.0 (λ no_runs. RunsTold-first classes run (runs_in t.0) _ _ no_runs h.1) (λ no_runs. no_runs)
                (λ chosen. RulesAnswered-by _ classes head.class rules plain rule (choices t.0) of_class chosen) t.1),
            works_on w held _ payload _ _ items (job_later w (holding payload) (started payload head) (asked call ∷ []) (ran run ∷ t.0) c.fail.result starts
                (job_later w (started payload head) (ended payload head o) (ran run ∷ []) t.0 c.fail.result
                (_, runs payload head o (subst (λ names. IsSome (place_of names head.class)) (sym k) h.0), refl)
                (subst (λ end. JobTranscript w (ended payload head end) t.0 c.fail.result) (sym c.in-Ok-Raised.field-0-is) t.2))),
          )
    ]
