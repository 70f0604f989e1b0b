-- Any words are a command, or have a first fault.
use Rattle.std.proofs.Common.{◌≡◌, [], ◌∷◌, length, Err}
use Rattle.sk_resp.specs.Request.{Command as Words}
use Rattle.sk_resp.specs.declared.name.Name.{Name}
use Rattle.sk_resp.specs.declared.name.Name.TheVariants as name
use Rattle.sk_cmd.specs.declared.cmd_fault.CmdFault.TheVariants as fault
use Rattle.sk_cmd.specs.Counts.{is_odd}
use Rattle.sk_cmd.specs.Options.{no_set_options, no_range_options}
use Rattle.sk_cmd.specs.Table.{IsKeyWhole, IsKeyRange, IsRanks, Reads}
use Rattle.sk_cmd.specs.Laws.{SomeCommand}
use Rattle.sk_cmd.proofs.Exists.{Exists, ok_exists, err_exists, bool_exists, memory_exists, then_exists, follows_exists, option_exists}
use Rattle.sk_cmd.proofs.Names.{name_exists}
use Rattle.sk_cmd.proofs.ExistsCounts.{zero_exists, one_exists, two_exists, three_exists, four_exists, some_exists, one_and_exists, two_and_exists, three_and_exists, five_and_exists}
use Rattle.sk_cmd.proofs.ExistsArguments.{side_exists, due_set_exists, scored_exists, whole_exists, slot_exists, limit_exists, bound_exists, score_option_exists, pairs_exist, scores_exist, set_options_exist, range_options_exist, with_scores_exist}

unknown_exists : {A : Type 0} → Exists {A = A} (λ out. out ≡ Err fault.Unknown)
unknown_exists = err_exists fault.Unknown (λ e. cc e)

key_whole_exists : (name : Name) (words : Words) → Exists (IsKeyWhole name words)
key_whole_exists name words = then_exists (two_exists name words) (λ w. then_exists (whole_exists w.1) (λ n. ok_exists _))

key_range_exists : (name : Name) (words : Words) → Exists (IsKeyRange name words)
key_range_exists name words = then_exists (three_exists name words) (λ w. then_exists (whole_exists w.1) (λ first. then_exists (whole_exists w.2) (λ last. ok_exists _)))

ranks_exists : (name : Name) (words : Words) → Exists (IsRanks name words)
ranks_exists name words = then_exists (three_and_exists name _ words) (λ w. then_exists (whole_exists w.1) (λ first. then_exists (whole_exists w.2) (λ last. ok_exists _)))

reads_exist : (name : Name) (words : Words) → Exists (Reads name words)
reads_exist name.Ping [] = ok_exists _
reads_exist name.Ping (text ∷ words) = then_exists (one_exists name.Ping (text ∷ words)) (λ w. ok_exists _)
reads_exist name.Echo words = then_exists (one_exists name.Echo words) (λ w. ok_exists _)
reads_exist name.Quit words = then_exists (zero_exists name.Quit words) (λ w. ok_exists _)
reads_exist name.Shutdown words = then_exists (zero_exists name.Shutdown words) (λ w. ok_exists _)
reads_exist name.Flushall words = then_exists (zero_exists name.Flushall words) (λ w. ok_exists _)
reads_exist name.Get words = then_exists (one_exists name.Get words) (λ w. ok_exists _)
reads_exist name.Set words = then_exists (two_and_exists name.Set _ words) (λ w. then_exists (set_options_exist w.2 no_set_options) (λ o. ok_exists _))
reads_exist name.Del words = then_exists (some_exists name.Del words) (λ w. ok_exists _)
reads_exist name.Exists words = then_exists (some_exists name.Exists words) (λ w. ok_exists _)
reads_exist name.KindOf words = then_exists (one_exists name.KindOf words) (λ w. ok_exists _)
reads_exist name.Incrby words = then_exists (key_whole_exists name.Incrby words) (λ w. ok_exists _)
reads_exist name.Pexpire words = then_exists (key_whole_exists name.Pexpire words) (λ w. ok_exists _)
reads_exist name.Pttl words = then_exists (one_exists name.Pttl words) (λ w. ok_exists _)
reads_exist name.Give words = then_exists (two_exists name.Give words) (λ w. ok_exists _)
reads_exist name.Lpush words = then_exists (one_and_exists name.Lpush _ words) (λ w. ok_exists _)
reads_exist name.Rpush words = then_exists (one_and_exists name.Rpush _ words) (λ w. ok_exists _)
reads_exist name.Lrange words = then_exists (key_range_exists name.Lrange words) (λ w. ok_exists _)
reads_exist name.Llen words = then_exists (one_exists name.Llen words) (λ w. ok_exists _)
reads_exist name.Lrem words = then_exists (three_exists name.Lrem words) (λ w. then_exists (whole_exists w.1) (λ n. ok_exists _))
reads_exist name.Lmove words = then_exists (four_exists name.Lmove words) (λ w. then_exists (side_exists w.2) (λ from. then_exists (side_exists w.3) (λ to. ok_exists _)))
reads_exist name.Sadd words = then_exists (one_and_exists name.Sadd _ words) (λ w. ok_exists _)
reads_exist name.Srem words = then_exists (one_and_exists name.Srem _ words) (λ w. ok_exists _)
reads_exist name.Smembers words = then_exists (one_exists name.Smembers words) (λ w. ok_exists _)
reads_exist name.Scard words = then_exists (one_exists name.Scard words) (λ w. ok_exists _)
reads_exist name.Sismember words = then_exists (two_exists name.Sismember words) (λ w. ok_exists _)
reads_exist name.Hset words = then_exists (one_and_exists name.Hset _ words) (λ w. then_exists (memory_exists (pairs_exist w.1 [])) (λ pairs. ok_exists _))
reads_exist name.Hget words = then_exists (two_exists name.Hget words) (λ w. ok_exists _)
reads_exist name.Hlen words = then_exists (one_exists name.Hlen words) (λ w. ok_exists _)
reads_exist name.Hdel words = then_exists (one_and_exists name.Hdel _ words) (λ w. ok_exists _)
reads_exist name.Hgetall words = then_exists (one_exists name.Hgetall words) (λ w. ok_exists _)
reads_exist name.Zadd words = then_exists (one_and_exists name.Zadd _ words) (λ w. bool_exists (is_odd (length w.1)) (err_exists fault.Syntax (λ e. cc e)) (then_exists (memory_exists (scores_exist w.1 [])) (λ scores. ok_exists _)))
reads_exist name.Zrem words = then_exists (one_and_exists name.Zrem _ words) (λ w. ok_exists _)
reads_exist name.Zcard words = then_exists (one_exists name.Zcard words) (λ w. ok_exists _)
reads_exist name.Zscore words = then_exists (two_exists name.Zscore words) (λ w. ok_exists _)
reads_exist name.Zrange words = then_exists (ranks_exists name.Zrange words) (λ w. then_exists (with_scores_exist w.3) (λ scores. ok_exists _))
reads_exist name.Zrangebyscore words = then_exists (three_and_exists name.Zrangebyscore _ words) (λ w. then_exists (bound_exists w.1) (λ low. then_exists (bound_exists w.2) (λ high. then_exists (range_options_exist w.3 no_range_options) (λ o. ok_exists _))))
reads_exist name.Zremrangebyrank words = then_exists (key_range_exists name.Zremrangebyrank words) (λ w. ok_exists _)
reads_exist name.Zremrangebyscore words = then_exists (three_exists name.Zremrangebyscore words) (λ w. then_exists (bound_exists w.1) (λ low. then_exists (bound_exists w.2) (λ high. ok_exists _)))
reads_exist name.Beat words = then_exists (one_exists name.Beat words) (λ w. ok_exists _)
reads_exist name.Join words = then_exists (one_exists name.Join words) (λ w. ok_exists _)
reads_exist name.Start words = then_exists (one_exists name.Start words) (λ w. ok_exists _)
reads_exist name.Ok words = then_exists (one_exists name.Ok words) (λ w. ok_exists _)
reads_exist name.Fail words = then_exists (one_exists name.Fail words) (λ w. ok_exists _)
reads_exist name.Drop words = then_exists (one_exists name.Drop words) (λ w. ok_exists _)
reads_exist name.Bury words = then_exists (one_exists name.Bury words) (λ w. ok_exists _)
reads_exist name.Back words = then_exists (one_exists name.Back words) (λ w. ok_exists _)
reads_exist name.Due words = then_exists (two_exists name.Due words) (λ w. then_exists (due_set_exists w.0) (λ set. then_exists (limit_exists w.1) (λ limit. ok_exists _)))
reads_exist name.Rescue words = then_exists (zero_exists name.Rescue words) (λ w. ok_exists _)
reads_exist name.Upush words = then_exists (one_and_exists name.Upush _ words) (λ w. then_exists (score_option_exists w.1) (λ score. ok_exists _))
reads_exist name.Bpush words = then_exists (five_and_exists name.Bpush words) (λ w. ok_exists _)
reads_exist name.Badd words = then_exists (one_and_exists name.Badd _ words) (λ w. ok_exists _)
reads_exist name.Bstat words = then_exists (one_exists name.Bstat words) (λ w. ok_exists _)
reads_exist name.Lead words = then_exists (one_exists name.Lead words) (λ w. ok_exists _)
reads_exist name.Cron words = then_exists (four_exists name.Cron words) (λ w. then_exists (slot_exists w.2) (λ slot. ok_exists _))
reads_exist name.Revive words = then_exists (two_exists name.Revive words) (λ w. then_exists (scored_exists w.0) (λ set. ok_exists _))
reads_exist name.Kill words = then_exists (two_exists name.Kill words) (λ w. then_exists (due_set_exists w.0) (λ set. ok_exists _))
reads_exist name.Where words = then_exists (one_exists name.Where words) (λ w. ok_exists _)
reads_exist name.Status words = then_exists (zero_exists name.Status words) (λ w. ok_exists _)
reads_exist name.As words = unknown_exists
reads_exist name.Now words = unknown_exists
reads_exist name.Cut words = unknown_exists

-- ## Commands

pub some_command : SomeCommand
some_command [] = unknown_exists
some_command (word ∷ words) = follows_exists (name_exists word) (λ found. option_exists found unknown_exists (λ name. reads_exist name words))
