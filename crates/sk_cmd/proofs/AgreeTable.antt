-- Words are one command, or have one first fault.
use Rattle.std.proofs.Common.{[], ◌∷◌, sym, ◌∙◌, length}
use Rattle.sk_resp.specs.Request.{Command as Words}
use Rattle.sk_resp.specs.declared.name.Name.{Name}
use Rattle.sk_resp.specs.declared.name.Name.TheVariants as name
use Rattle.sk_cmd.specs.Counts.{is_odd}
use Rattle.sk_cmd.specs.Options.{no_set_options, no_range_options}
use Rattle.sk_cmd.specs.Table.{IsKeyWhole, IsKeyRange, IsRanks, Reads}
use Rattle.sk_cmd.specs.Laws.{OneCommand}
use Rattle.sk_cmd.proofs.Agree.{Agree, is_agrees, bool_agrees, memory_agrees, then_agrees, follows_agrees, option_agrees}
use Rattle.sk_cmd.proofs.Names.{names_same}
use Rattle.sk_cmd.proofs.AgreeCounts.{zero_agrees, one_agrees, two_agrees, three_agrees, four_agrees, some_agrees, one_and_agrees, two_and_agrees, three_and_agrees, five_and_agrees}
use Rattle.sk_cmd.proofs.AgreeArguments.{side_agrees, due_set_agrees, scored_agrees, whole_agrees, slot_agrees, limit_agrees, bound_agrees, score_option_agrees, pairs_agree, scores_agree, set_options_agree, range_options_agree, with_scores_agree}

key_whole_agrees : (name : Name) (words : Words) → Agree (IsKeyWhole name words)
key_whole_agrees name words = then_agrees (two_agrees name words) (λ w. then_agrees (whole_agrees w.1) (λ n. is_agrees _))

key_range_agrees : (name : Name) (words : Words) → Agree (IsKeyRange name words)
key_range_agrees name words = then_agrees (three_agrees name words) (λ w. then_agrees (whole_agrees w.1) (λ first. then_agrees (whole_agrees w.2) (λ last. is_agrees _)))

ranks_agrees : (name : Name) (words : Words) → Agree (IsRanks name words)
ranks_agrees name words = then_agrees (three_and_agrees name _ words) (λ w. then_agrees (whole_agrees w.1) (λ first. then_agrees (whole_agrees w.2) (λ last. is_agrees _)))

reads_agree : (name : Name) (words : Words) → Agree (Reads name words)
reads_agree name.Ping [] = is_agrees _
reads_agree name.Ping (text ∷ words) = then_agrees (one_agrees name.Ping (text ∷ words)) (λ w. is_agrees _)
reads_agree name.Echo words = then_agrees (one_agrees name.Echo words) (λ w. is_agrees _)
reads_agree name.Quit words = then_agrees (zero_agrees name.Quit words) (λ w. is_agrees _)
reads_agree name.Shutdown words = then_agrees (zero_agrees name.Shutdown words) (λ w. is_agrees _)
reads_agree name.Flushall words = then_agrees (zero_agrees name.Flushall words) (λ w. is_agrees _)
reads_agree name.Get words = then_agrees (one_agrees name.Get words) (λ w. is_agrees _)
reads_agree name.Set words = then_agrees (two_and_agrees name.Set _ words) (λ w. then_agrees (set_options_agree w.2 no_set_options) (λ o. is_agrees _))
reads_agree name.Del words = then_agrees (some_agrees name.Del words) (λ w. is_agrees _)
reads_agree name.Exists words = then_agrees (some_agrees name.Exists words) (λ w. is_agrees _)
reads_agree name.KindOf words = then_agrees (one_agrees name.KindOf words) (λ w. is_agrees _)
reads_agree name.Incrby words = then_agrees (key_whole_agrees name.Incrby words) (λ w. is_agrees _)
reads_agree name.Pexpire words = then_agrees (key_whole_agrees name.Pexpire words) (λ w. is_agrees _)
reads_agree name.Pttl words = then_agrees (one_agrees name.Pttl words) (λ w. is_agrees _)
reads_agree name.Give words = then_agrees (two_agrees name.Give words) (λ w. is_agrees _)
reads_agree name.Lpush words = then_agrees (one_and_agrees name.Lpush _ words) (λ w. is_agrees _)
reads_agree name.Rpush words = then_agrees (one_and_agrees name.Rpush _ words) (λ w. is_agrees _)
reads_agree name.Lrange words = then_agrees (key_range_agrees name.Lrange words) (λ w. is_agrees _)
reads_agree name.Llen words = then_agrees (one_agrees name.Llen words) (λ w. is_agrees _)
reads_agree name.Lrem words = then_agrees (three_agrees name.Lrem words) (λ w. then_agrees (whole_agrees w.1) (λ n. is_agrees _))
reads_agree name.Lmove words = then_agrees (four_agrees name.Lmove words) (λ w. then_agrees (side_agrees w.2) (λ from. then_agrees (side_agrees w.3) (λ to. is_agrees _)))
reads_agree name.Sadd words = then_agrees (one_and_agrees name.Sadd _ words) (λ w. is_agrees _)
reads_agree name.Srem words = then_agrees (one_and_agrees name.Srem _ words) (λ w. is_agrees _)
reads_agree name.Smembers words = then_agrees (one_agrees name.Smembers words) (λ w. is_agrees _)
reads_agree name.Scard words = then_agrees (one_agrees name.Scard words) (λ w. is_agrees _)
reads_agree name.Sismember words = then_agrees (two_agrees name.Sismember words) (λ w. is_agrees _)
reads_agree name.Hset words = then_agrees (one_and_agrees name.Hset _ words) (λ w. then_agrees (memory_agrees (pairs_agree w.1 [])) (λ pairs. is_agrees _))
reads_agree name.Hget words = then_agrees (two_agrees name.Hget words) (λ w. is_agrees _)
reads_agree name.Hlen words = then_agrees (one_agrees name.Hlen words) (λ w. is_agrees _)
reads_agree name.Hdel words = then_agrees (one_and_agrees name.Hdel _ words) (λ w. is_agrees _)
reads_agree name.Hgetall words = then_agrees (one_agrees name.Hgetall words) (λ w. is_agrees _)
reads_agree name.Zadd words = then_agrees (one_and_agrees name.Zadd _ words) (λ w. bool_agrees (is_odd (length w.1)) (is_agrees _) (then_agrees (memory_agrees (scores_agree w.1 [])) (λ scores. is_agrees _)))
reads_agree name.Zrem words = then_agrees (one_and_agrees name.Zrem _ words) (λ w. is_agrees _)
reads_agree name.Zcard words = then_agrees (one_agrees name.Zcard words) (λ w. is_agrees _)
reads_agree name.Zscore words = then_agrees (two_agrees name.Zscore words) (λ w. is_agrees _)
reads_agree name.Zrange words = then_agrees (ranks_agrees name.Zrange words) (λ w. then_agrees (with_scores_agree w.3) (λ scores. is_agrees _))
reads_agree name.Zrangebyscore words = then_agrees (three_and_agrees name.Zrangebyscore _ words) (λ w. then_agrees (bound_agrees w.1) (λ low. then_agrees (bound_agrees w.2) (λ high. then_agrees (range_options_agree w.3 no_range_options) (λ o. is_agrees _))))
reads_agree name.Zremrangebyrank words = then_agrees (key_range_agrees name.Zremrangebyrank words) (λ w. is_agrees _)
reads_agree name.Zremrangebyscore words = then_agrees (three_agrees name.Zremrangebyscore words) (λ w. then_agrees (bound_agrees w.1) (λ low. then_agrees (bound_agrees w.2) (λ high. is_agrees _)))
reads_agree name.Beat words = then_agrees (one_agrees name.Beat words) (λ w. is_agrees _)
reads_agree name.Join words = then_agrees (one_agrees name.Join words) (λ w. is_agrees _)
reads_agree name.Start words = then_agrees (one_agrees name.Start words) (λ w. is_agrees _)
reads_agree name.Ok words = then_agrees (one_agrees name.Ok words) (λ w. is_agrees _)
reads_agree name.Fail words = then_agrees (one_agrees name.Fail words) (λ w. is_agrees _)
reads_agree name.Drop words = then_agrees (one_agrees name.Drop words) (λ w. is_agrees _)
reads_agree name.Bury words = then_agrees (one_agrees name.Bury words) (λ w. is_agrees _)
reads_agree name.Back words = then_agrees (one_agrees name.Back words) (λ w. is_agrees _)
reads_agree name.Due words = then_agrees (two_agrees name.Due words) (λ w. then_agrees (due_set_agrees w.0) (λ set. then_agrees (limit_agrees w.1) (λ limit. is_agrees _)))
reads_agree name.Rescue words = then_agrees (zero_agrees name.Rescue words) (λ w. is_agrees _)
reads_agree name.Upush words = then_agrees (one_and_agrees name.Upush _ words) (λ w. then_agrees (score_option_agrees w.1) (λ score. is_agrees _))
reads_agree name.Bpush words = then_agrees (five_and_agrees name.Bpush words) (λ w. is_agrees _)
reads_agree name.Badd words = then_agrees (one_and_agrees name.Badd _ words) (λ w. is_agrees _)
reads_agree name.Bstat words = then_agrees (one_agrees name.Bstat words) (λ w. is_agrees _)
reads_agree name.Lead words = then_agrees (one_agrees name.Lead words) (λ w. is_agrees _)
reads_agree name.Cron words = then_agrees (four_agrees name.Cron words) (λ w. then_agrees (slot_agrees w.2) (λ slot. is_agrees _))
reads_agree name.Revive words = then_agrees (two_agrees name.Revive words) (λ w. then_agrees (scored_agrees w.0) (λ set. is_agrees _))
reads_agree name.Kill words = then_agrees (two_agrees name.Kill words) (λ w. then_agrees (due_set_agrees w.0) (λ set. is_agrees _))
reads_agree name.Where words = then_agrees (one_agrees name.Where words) (λ w. is_agrees _)
reads_agree name.Status words = then_agrees (zero_agrees name.Status words) (λ w. is_agrees _)
reads_agree name.As words = is_agrees _
reads_agree name.Now words = is_agrees _
reads_agree name.Cut words = is_agrees _

-- ## Commands

pub one_command : OneCommand
one_command [] a b p q na nb = p ∙ sym q
one_command (word ∷ words) a b p q na nb = follows_agrees (names_same word) (λ found. option_agrees found (is_agrees _) (λ name. reads_agree name words)) a b p q na nb
