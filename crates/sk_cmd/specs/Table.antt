-- The table of commands: what follows each name, one line a command. A line says how many words there are, what each of them is, and the command.
use Rattle.std.specs.Prelude.{◌≡◌, ℤ, nat_le, ◌&&◌, [], ◌∷◌, length, Option, Some, None, Ok, Err, MatchOption, IsTrue}
use Rattle.std.specs.Bool.{MatchBool}
use Rattle.std.specs.Str.{str_eq_ignore_ascii_case}
use Rattle.sk_resp.specs.Spelling.{Bytes}
use Rattle.sk_resp.specs.Name.{spelling}
use Rattle.sk_resp.specs.Request.{Command as Words}
use Rattle.sk_resp.specs.declared.name.Name.{Name}
use Rattle.sk_resp.specs.declared.name.Name.TheVariants as name
use Rattle.sk_cmd.specs.declared.cmd_fault.CmdFault.TheVariants as fault
use Rattle.sk_cmd.specs.declared.command.Command.{Command}
use Rattle.sk_cmd.specs.declared.command.Command.TheVariants as command
use Rattle.sk_cmd.specs.declared.command.PlainCommand.{PlainCommand}
use Rattle.sk_cmd.specs.declared.command.PlainCommand.TheVariants as plain
use Rattle.sk_cmd.specs.declared.command.ScriptCommand.{ScriptCommand}
use Rattle.sk_cmd.specs.declared.command.ScriptCommand.TheVariants as script
use Rattle.sk_cmd.specs.Reading.{Read, Then, OrMemory}
use Rattle.sk_cmd.specs.Counts.{IsZero, IsOne, IsTwo, IsThree, IsFour, IsSome, IsOneAnd, IsTwoAnd, IsThreeAnd, IsFiveAnd, is_odd, is_from, is_range_count}
use Rattle.sk_cmd.specs.Arguments.{IsSide, IsDueSet, IsScored, IsWhole, IsSlot, IsLimit, IsBound, IsScoreOption, IsPairs, IsScores}
use Rattle.sk_cmd.specs.Options.{no_set_options, IsSetOptions, no_range_options, IsRangeOptions, IsWithScores}

abbrev pub IsPlain : PlainCommand → Read Command → Type 0
IsPlain c out = out ≡ Ok (command.Plain c)

abbrev pub IsScript : ScriptCommand → Read Command → Type 0
IsScript c out = out ≡ Ok (command.Script c)

-- ## Forms that several commands have

-- a key, and one or more texts
abbrev pub IsKeyTexts : Name → Words → Read (Bytes × Words) → Type 0
IsKeyTexts name words out = IsOneAnd name (nat_le 2 (length words)) words out

-- a key and an integer
abbrev pub IsKeyWhole : Name → Words → Read (Bytes × ℤ) → Type 0
IsKeyWhole name words out = Then (IsTwo name words) out (λ w. Then (IsWhole w.1) out (λ n. out ≡ Ok (w.0, n)))

-- a key and two indices
abbrev pub IsKeyRange : Name → Words → Read (Bytes × ℤ × ℤ) → Type 0
IsKeyRange name words out = Then (IsThree name words) out (λ w. Then (IsWhole w.1) out (λ first. Then (IsWhole w.2) out (λ last. out ≡ Ok (w.0, first, last))))

-- a key and two indices, and at most one word more
abbrev pub IsRanks : Name → Words → Read (Bytes × ℤ × ℤ × Words) → Type 0
IsRanks name words out = Then (IsThreeAnd name (is_from 3 4 (length words)) words) out (λ w. Then (IsWhole w.1) out (λ first. Then (IsWhole w.2) out (λ last. out ≡ Ok (w.0, first, last, w.3))))

-- ## The table

abbrev pub Reads : Name → Words → Read Command → Type 0
-- The server, and keys that hold strings
Reads name.Ping [] out = IsPlain (plain.Ping None) out
Reads name.Ping (text ∷ words) out = Then (IsOne name.Ping (text ∷ words)) out (λ w. IsPlain (plain.Ping (Some w)) out)
Reads name.Echo words out = Then (IsOne name.Echo words) out (λ w. IsPlain (plain.Echo w) out)
Reads name.Quit words out = Then (IsZero name.Quit words) out (λ _. IsPlain plain.Quit out)
Reads name.Shutdown words out = Then (IsZero name.Shutdown words) out (λ _. IsPlain plain.Shutdown out)
Reads name.Flushall words out = Then (IsZero name.Flushall words) out (λ _. IsPlain plain.Flushall out)
Reads name.Get words out = Then (IsOne name.Get words) out (λ w. IsPlain (plain.Get w) out)
Reads name.Set words out = Then (IsTwoAnd name.Set (is_from 2 5 (length words)) words) out (λ w. Then (IsSetOptions w.2 no_set_options) out (λ o. IsPlain (plain.Set w.0 w.1 o) out))
Reads name.Del words out = Then (IsSome name.Del words) out (λ w. IsPlain (plain.Del w) out)
Reads name.Exists words out = Then (IsSome name.Exists words) out (λ w. IsPlain (plain.Exists w) out)
Reads name.KindOf words out = Then (IsOne name.KindOf words) out (λ w. IsPlain (plain.KindOf w) out)
Reads name.Incrby words out = Then (IsKeyWhole name.Incrby words) out (λ w. IsPlain (plain.Incrby w.0 w.1) out)
Reads name.Pexpire words out = Then (IsKeyWhole name.Pexpire words) out (λ w. IsPlain (plain.Pexpire w.0 w.1) out)
Reads name.Pttl words out = Then (IsOne name.Pttl words) out (λ w. IsPlain (plain.Pttl w) out)
Reads name.Give words out = Then (IsTwo name.Give words) out (λ w. IsPlain (plain.Give w.0 w.1) out)
-- Lists
Reads name.Lpush words out = Then (IsKeyTexts name.Lpush words) out (λ w. IsPlain (plain.Lpush w.0 w.1) out)
Reads name.Rpush words out = Then (IsKeyTexts name.Rpush words) out (λ w. IsPlain (plain.Rpush w.0 w.1) out)
Reads name.Lrange words out = Then (IsKeyRange name.Lrange words) out (λ w. IsPlain (plain.Lrange w.0 w.1 w.2) out)
Reads name.Llen words out = Then (IsOne name.Llen words) out (λ w. IsPlain (plain.Llen w) out)
Reads name.Lrem words out = Then (IsThree name.Lrem words) out (λ w. Then (IsWhole w.1) out (λ count. IsPlain (plain.Lrem w.0 count w.2) out))
Reads name.Lmove words out = Then (IsFour name.Lmove words) out (λ w. Then (IsSide w.2) out (λ from. Then (IsSide w.3) out (λ to. IsPlain (plain.Lmove w.0 w.1 from to) out)))
-- Sets
Reads name.Sadd words out = Then (IsKeyTexts name.Sadd words) out (λ w. IsPlain (plain.Sadd w.0 w.1) out)
Reads name.Srem words out = Then (IsKeyTexts name.Srem words) out (λ w. IsPlain (plain.Srem w.0 w.1) out)
Reads name.Smembers words out = Then (IsOne name.Smembers words) out (λ w. IsPlain (plain.Smembers w) out)
Reads name.Scard words out = Then (IsOne name.Scard words) out (λ w. IsPlain (plain.Scard w) out)
Reads name.Sismember words out = Then (IsTwo name.Sismember words) out (λ w. IsPlain (plain.Sismember w.0 w.1) out)
-- Hashes
Reads name.Hset words out = Then (IsOneAnd name.Hset (nat_le 3 (length words) && is_odd (length words)) words) out (λ w. Then (OrMemory (IsPairs w.1 [])) out (λ pairs. IsPlain (plain.Hset w.0 pairs) out))
Reads name.Hget words out = Then (IsTwo name.Hget words) out (λ w. IsPlain (plain.Hget w.0 w.1) out)
Reads name.Hlen words out = Then (IsOne name.Hlen words) out (λ w. IsPlain (plain.Hlen w) out)
Reads name.Hdel words out = Then (IsKeyTexts name.Hdel words) out (λ w. IsPlain (plain.Hdel w.0 w.1) out)
Reads name.Hgetall words out = Then (IsOne name.Hgetall words) out (λ w. IsPlain (plain.Hgetall w) out)
-- Sorted sets
Reads name.Zadd words out = Then (IsOneAnd name.Zadd (nat_le 3 (length words)) words) out (λ w.
    MatchBool (is_odd (length w.1)) (out ≡ Err fault.Syntax) (Then (OrMemory (IsScores w.1 [])) out (λ scores. IsPlain (plain.Zadd w.0 scores) out)))
Reads name.Zrem words out = Then (IsKeyTexts name.Zrem words) out (λ w. IsPlain (plain.Zrem w.0 w.1) out)
Reads name.Zcard words out = Then (IsOne name.Zcard words) out (λ w. IsPlain (plain.Zcard w) out)
Reads name.Zscore words out = Then (IsTwo name.Zscore words) out (λ w. IsPlain (plain.Zscore w.0 w.1) out)
Reads name.Zrange words out = Then (IsRanks name.Zrange words) out (λ w. Then (IsWithScores w.3) out (λ scores. IsPlain (plain.Zrange w.0 w.1 w.2 scores) out))
Reads name.Zrangebyscore words out = Then (IsThreeAnd name.Zrangebyscore (is_range_count (length words)) words) out (λ w. Then (IsBound w.1) out (λ low. Then (IsBound w.2) out (λ high.
    Then (IsRangeOptions w.3 no_range_options) out (λ o. IsPlain (plain.Zrangebyscore w.0 low high o) out))))
Reads name.Zremrangebyrank words out = Then (IsKeyRange name.Zremrangebyrank words) out (λ w. IsPlain (plain.Zremrangebyrank w.0 w.1 w.2) out)
Reads name.Zremrangebyscore words out = Then (IsThree name.Zremrangebyscore words) out (λ w. Then (IsBound w.1) out (λ low. Then (IsBound w.2) out (λ high. IsPlain (plain.Zremrangebyscore w.0 low high) out)))
-- Jobs, batches, workers and leases
Reads name.Beat words out = Then (IsOne name.Beat words) out (λ w. IsScript (script.Beat w) out)
Reads name.Join words out = Then (IsOne name.Join words) out (λ w. IsScript (script.Join w) out)
Reads name.Start words out = Then (IsOne name.Start words) out (λ w. IsScript (script.Start w) out)
Reads name.Ok words out = Then (IsOne name.Ok words) out (λ w. IsScript (script.Ok w) out)
Reads name.Fail words out = Then (IsOne name.Fail words) out (λ w. IsScript (script.Fail w) out)
Reads name.Drop words out = Then (IsOne name.Drop words) out (λ w. IsScript (script.Drop w) out)
Reads name.Bury words out = Then (IsOne name.Bury words) out (λ w. IsScript (script.Bury w) out)
Reads name.Back words out = Then (IsOne name.Back words) out (λ w. IsScript (script.Back w) out)
Reads name.Due words out = Then (IsTwo name.Due words) out (λ w. Then (IsDueSet w.0) out (λ set. Then (IsLimit w.1) out (λ limit. IsScript (script.Due set limit) out)))
Reads name.Rescue words out = Then (IsZero name.Rescue words) out (λ _. IsScript script.Rescue out)
Reads name.Upush words out = Then (IsOneAnd name.Upush (is_from 1 2 (length words)) words) out (λ w. Then (IsScoreOption w.1) out (λ score. IsScript (script.Upush w.0 score) out))
Reads name.Bpush words out = Then (IsFiveAnd name.Bpush words) out (λ w. IsScript (script.Bpush w.0 w.1 w.2 w.3 w.4 w.5) out)
Reads name.Badd words out = Then (IsKeyTexts name.Badd words) out (λ w. IsScript (script.Badd w.0 w.1) out)
Reads name.Bstat words out = Then (IsOne name.Bstat words) out (λ w. IsScript (script.Bstat w) out)
Reads name.Lead words out = Then (IsOne name.Lead words) out (λ w. IsScript (script.Lead w) out)
Reads name.Cron words out = Then (IsFour name.Cron words) out (λ w. Then (IsSlot w.2) out (λ slot. IsScript (script.Cron w.0 w.1 slot w.3) out))
Reads name.Revive words out = Then (IsTwo name.Revive words) out (λ w. Then (IsScored w.0) out (λ set. IsScript (script.Revive set w.1) out))
Reads name.Kill words out = Then (IsTwo name.Kill words) out (λ w. Then (IsDueSet w.0) out (λ set. IsScript (script.Kill set w.1) out))
Reads name.Where words out = Then (IsOne name.Where words) out (λ w. IsScript (script.Where w) out)
Reads name.Status words out = Then (IsZero name.Status words) out (λ _. IsScript script.Status out)
-- Words that only a pipe knows
Reads name.As words out = out ≡ Err fault.Unknown
Reads name.Now words out = out ≡ Err fault.Unknown
Reads name.Cut words out = out ≡ Err fault.Unknown

-- ## A command

-- the name that the word is, in upper or lower case
abbrev pub Names : Bytes → Option Name → Type 0
Names word None = (name : Name) → IsTrue (str_eq_ignore_ascii_case word (spelling name)) → ⊥
Names word (Some name) = IsTrue (str_eq_ignore_ascii_case word (spelling name))

-- what all the words of a command are read as
abbrev pub IsRead : Words → Read Command → Type 0
IsRead [] out = out ≡ Err fault.Unknown
IsRead (word ∷ words) out = (found : Option Name) × Names word found × MatchOption found (out ≡ Err fault.Unknown) (λ name. Reads name words out)
