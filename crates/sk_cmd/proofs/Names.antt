-- A word is the name of one command, or of none.
use Rattle.std.proofs.Common.{◌≡◌, List, [], ◌∷◌, refl, sym, ap, subst, ◌∙◌, Bool, true, false, Option, Some, None, IsTrue}
use Rattle.std.specs.Prelude.{cond}
use Rattle.std.specs.Str.{str_eq_ignore_ascii_case, str_to_ascii_lowercase, bytes_eq}
use Rattle.std.proofs.lemmas.Slice.Eq.{bytes_eq-Decides}
use Rattle.sk_resp.specs.Spelling.{Bytes}
use Rattle.sk_resp.specs.Name.{spelling}
use Rattle.sk_resp.specs.declared.name.Name.{Name}
use Rattle.sk_resp.specs.declared.name.Name.TheVariants as name
use Rattle.sk_cmd.specs.Table.{Names}

every : List Name
every = name.Lpush ∷ name.Rpush ∷ name.Lmove ∷ name.Lrange ∷ name.Llen ∷ name.Lrem ∷ name.Ping ∷ name.Echo ∷ name.Quit ∷ name.Shutdown ∷ name.Flushall ∷ name.Get ∷ name.Set ∷ name.Del ∷ name.Exists ∷ name.KindOf ∷ name.Incrby ∷ name.Pexpire ∷ name.Pttl ∷ name.Sadd ∷ name.Srem ∷ name.Smembers ∷ name.Scard ∷ name.Sismember ∷ name.Hset ∷ name.Hget ∷ name.Hlen ∷ name.Hdel ∷ name.Hgetall ∷ name.Zadd ∷ name.Zrem ∷ name.Zcard ∷ name.Zscore ∷ name.Zrange ∷ name.Zrangebyscore ∷ name.Zremrangebyrank ∷ name.Zremrangebyscore ∷ name.Beat ∷ name.Join ∷ name.Start ∷ name.Ok ∷ name.Fail ∷ name.Drop ∷ name.Bury ∷ name.Back ∷ name.Due ∷ name.Rescue ∷ name.Upush ∷ name.Bpush ∷ name.Badd ∷ name.Bstat ∷ name.Lead ∷ name.Cron ∷ name.Revive ∷ name.Kill ∷ name.Where ∷ name.Status ∷ name.Give ∷ name.As ∷ name.Now ∷ name.Cut ∷ []

lower : Name → Bytes
lower name = str_to_ascii_lowercase (spelling name)

find : Bytes → List Name → Option Name
find text [] = None
find text (name ∷ names) = cond (bytes_eq text (lower name)) (Some name) (find text names)

-- no two commands have one spelling
found : (name : Name) → find (lower name) every ≡ Some name
unfolding every lower find
found name.Lpush = refl
found name.Rpush = refl
found name.Lmove = refl
found name.Lrange = refl
found name.Llen = refl
found name.Lrem = refl
found name.Ping = refl
found name.Echo = refl
found name.Quit = refl
found name.Shutdown = refl
found name.Flushall = refl
found name.Get = refl
found name.Set = refl
found name.Del = refl
found name.Exists = refl
found name.KindOf = refl
found name.Incrby = refl
found name.Pexpire = refl
found name.Pttl = refl
found name.Sadd = refl
found name.Srem = refl
found name.Smembers = refl
found name.Scard = refl
found name.Sismember = refl
found name.Hset = refl
found name.Hget = refl
found name.Hlen = refl
found name.Hdel = refl
found name.Hgetall = refl
found name.Zadd = refl
found name.Zrem = refl
found name.Zcard = refl
found name.Zscore = refl
found name.Zrange = refl
found name.Zrangebyscore = refl
found name.Zremrangebyrank = refl
found name.Zremrangebyscore = refl
found name.Beat = refl
found name.Join = refl
found name.Start = refl
found name.Ok = refl
found name.Fail = refl
found name.Drop = refl
found name.Bury = refl
found name.Back = refl
found name.Due = refl
found name.Rescue = refl
found name.Upush = refl
found name.Bpush = refl
found name.Badd = refl
found name.Bstat = refl
found name.Lead = refl
found name.Cron = refl
found name.Revive = refl
found name.Kill = refl
found name.Where = refl
found name.Status = refl
found name.Give = refl
found name.As = refl
found name.Now = refl
found name.Cut = refl

lower_is : (word : Bytes) (name : Name) → IsTrue (str_eq_ignore_ascii_case word (spelling name)) → str_to_ascii_lowercase word ≡ lower name
unfolding lower
lower_is word name t = (bytes_eq-Decides (str_to_ascii_lowercase word) (str_to_ascii_lowercase (spelling name))).0 t

pub names_same : (word : Bytes) (m n : Option Name) → Names word m → Names word n → m ≡ n
names_same word None None p q = refl
names_same word None (Some n) p q = absurd (p n q)
names_same word (Some m) None p q = absurd (q m p)
names_same word (Some m) (Some n) p q = sym (found m) ∙ ap (λ text. find text every) (sym (lower_is word m p) ∙ lower_is word n q) ∙ found n

-- what is found is the word's name
found_from : (word : Bytes) (names : List Name) (name : Name) → find (str_to_ascii_lowercase word) names ≡ Some name → IsTrue (str_eq_ignore_ascii_case word (spelling name))
unfolding find lower
found_from word [] name e = absurd (cc e)
found_from word (m ∷ names) name e = by (bytes_eq (str_to_ascii_lowercase word) (lower m)) refl (found_from word names name) e
  where
    by : (same : Bool) → bytes_eq (str_to_ascii_lowercase word) (lower m) ≡ same
        → (find (str_to_ascii_lowercase word) names ≡ Some name → IsTrue (str_eq_ignore_ascii_case word (spelling name)))
        → cond same (Some m) (find (str_to_ascii_lowercase word) names) ≡ Some name → IsTrue (str_eq_ignore_ascii_case word (spelling name))
    by true is later e = let same : m ≡ name = cc e in subst (λ n. bytes_eq (str_to_ascii_lowercase word) (lower n) ≡ true) same is
    by false is later e = later e

pub name_exists : (word : Bytes) → (name : Option Name) × Names word name
name_exists word = by (find (str_to_ascii_lowercase word) every) refl
  where
    by : (name : Option Name) → find (str_to_ascii_lowercase word) every ≡ name → (name : Option Name) × Names word name
    by (Some name) e = (Some name, found_from word every name e)
    by None e = (None, λ name t. cc (sym e ∙ ap (λ text. find text every) (lower_is word name t) ∙ found name))
