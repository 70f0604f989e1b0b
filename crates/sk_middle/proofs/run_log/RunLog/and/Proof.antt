-- `and` makes the empty struct, whose ghost field is what the old one's was and the run behind it.
use Rattle.std.proofs.Common.{[], ◌∷◌, ◌++◌, refl}
use Rattle.std.proofs.raw_atomic.Walks.{proved}
use mir.Syntax.{named}
use mir.Val.{vstruct, vnil}
use types.Kit.{‵, raw, ◌⊛◌, ◌$◌, ◌∵◌, !, qed, move, keep, split, suffices, done}
use types.Run.{enter, returns, no_more}
use types.Part.{agg}
use types.ByLocal.{alloc_all, pass_all, free_all, look_at, sets}
use denote.Exit.{yes}
use denote.Ref.{shr_vals, shr_Tells}
use denote.RattleType.{owns}
use denote.Shadow.{pure_i}
use denote.Signature.{plain, types_at}
use denote.Triple.Entry.{alive}
use denote.Triple.Walked.{Stays, stay_none_ref, Goes-none_ref, walk_of, says, ends_at}
use Rattle.sk_payload.specs.contracts.head.Head.{the_row as head_row}
use Rattle.sk_worker.specs.contracts.job.Outcome.{the_row as outcome_row}
use Rattle.sk_middle.specs.contracts.runner.Runner.{the_row as runner_row}
use Rattle.sk_middle.specs.contracts.run_log.RunLog.{the_row}
use Rattle.sk_middle.specs.contracts.run_log.RunLog.and as f
use Rattle.sk_middle.proofs.run_log.RunLog.and.Statement.{statement}
use Rattle.sk_middle.proofs.run_log.RunLog.and.Code as code

abbrev stayed : Stays f.ended.signature.params f.ended.kept
stayed = (
  stay_none_ref (0 ∷ []) tt (plain (λ _. the_row)) yes,
  (stay_none_ref (1 ∷ []) tt (plain (λ _. head_row)) yes, (stay_none_ref (2 ∷ []) tt (plain (λ _. outcome_row)) yes, (stay_none_ref (3 ∷ []) tt (plain (λ _. runner_row)) yes, tt))),
)

pub and_spec : {M : Type 1} → statement M
and_spec 𝓤 𝓛 𝓜 𝓡 wired =
    let c = f.clauses 𝓛 𝓜.mem 𝓡.returns in let W = walk_of 𝓛 f.ended stayed c in
    proved 𝓛 f.ended stayed c 𝓜 𝓡 (Goes-none_ref 𝓛 4 (0 ∷ []) tt (plain (λ _. the_row)) yes, (Goes-none_ref 𝓛 4 (1 ∷ []) tt (plain (λ _. head_row)) yes, (Goes-none_ref 𝓛 4 (2 ∷ []) tt (plain (λ _. outcome_row)) yes, (Goes-none_ref 𝓛 4 (3 ∷ []) tt (plain (λ _. runner_row)) yes, tt))))
    f.Key.name code.function (code.unfolded 𝓤 𝓛.H 𝓜 𝓡 wired)
    (λ κs. (shr_vals, (shr_vals, (shr_vals, (shr_vals, tt)))))
    (λ κs. (shr_Tells (named 0) κs.0 the_row, (shr_Tells (named 1) κs.1.0 head_row, (shr_Tells (named 2) κs.1.1.0 outcome_row, (shr_Tells (named 3) κs.1.1.1.0 runner_row, tt)))))
    (λ κs qs bounds a g are.
    let y : W.Ghost = ((κs, qs, bounds, a, (shr_vals a.0, (shr_vals a.1.0, (shr_vals a.1.1.0, (shr_vals a.1.1.1.0, tt))))), g) in
    let made : the_row.Denot = record { gated = a.0.now.gated ++ record { run = record { head = a.1.0.now; outcome = a.1.1.0.now }; by = a.1.1.1.0.now } ∷ [] } in
    qed 𝓛 ((raw (alive 𝓛 f.signature κs qs) ⊛ ‵ (owns (types_at f.signature.params κs) a y.0.4)) ∷ raw ((c κs a).requires g) ∷ []) ∵
    keep ! (0 ∷ []) $ split ! $
    enter ! _ _ _ _ _ $ alloc_all ! (λ l. pass_all ! refl ((tt, tt), ((tt, tt), ((tt, tt), ((tt, tt), tt)))) $
    sets ! (agg ! (no_more !)) refl (tt, tt) $
    returns ! (look_at ! 0 refl) $ free_all ! refl $
    suffices ! _ (ends_at 𝓛 f.ended stayed c y (vstruct vnil) made (tt, (tt, (tt, (tt, tt)))) (tt, (tt, (tt, (tt, tt))))) $ says ! refl $
    pure_i ! (the_row.own_val made (vstruct vnil ∷ [])) ((λ vss. (tt, tt)), tt) ((tt, (refl, tt)), tt) $
    move ! (1 ∷ 2 ∷ 0 ∷ []) $ done !))
