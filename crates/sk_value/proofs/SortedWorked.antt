-- Worked rows of sorted sets, computed from the definitions.
use Rattle.std.proofs.Common.{◌≡◌, ◌*◌, ℕ, ℤ, [], ◌∷◌, refl, arith, List}
use Rattle.std.specs.Prelude.{pos, negsuc, codes, Option, Some, None, Ok, Err, false, true}
use Rattle.std.specs.Fmt.{decimal}
use Rattle.sk_base.specs.Score.{score_text}
use Rattle.sk_base.specs.declared.bound.Bound.TheVariants as bound
use Rattle.sk_resp.specs.Spelling.{Bytes}
use Rattle.sk_resp.specs.declared.reply.Reply.TheVariants as reply
use Rattle.sk_resp.specs.declared.say.Say.TheVariants as say
use Rattle.sk_resp.specs.declared.kind.Kind.TheVariants as kind
use Rattle.sk_zset.specs.Pair.{Pair}
use Rattle.sk_zset.specs.Pairs.{put, without}
use Rattle.sk_value.specs.declared.keys_fault.KeysFault.TheVariants as fault
use Rattle.sk_value.specs.declared.value.Value.{Value}
use Rattle.sk_value.specs.declared.value.Value.TheVariants as value
use Rattle.sk_value.specs.declared.read_op.ReadOp.{ReadOp}
use Rattle.sk_value.specs.declared.read_op.ReadOp.TheVariants as look
use Rattle.sk_value.specs.declared.write_op.WriteOp.TheVariants as edit
use Rattle.sk_value.specs.Answer.{counted, texts}
use Rattle.sk_value.specs.Lists.{edit_list}
use Rattle.sk_value.specs.Sorted.{edit_sorted}
use Rattle.sk_value.specs.Apply.{answers, edit_at}
use Rattle.sk_value.proofs.Worked.{abc, edits, holds, k, looks, one_text, spelled}

-- so many whole ones, as a score
abbrev score : ℕ → ℤ
score n = pos (n * 1000000)

abbrev sorted : List Pair → Value
sorted pairs = value.Sorted pairs

-- 1 c, 2 a, 2 b
abbrev cab : Value
cab = sorted ((score 1, codes "c") ∷ (score 2, codes "a") ∷ (score 2, codes "b") ∷ [])

-- what a command that reads `cab` gives
abbrev gives : ReadOp → List Bytes → Type 0
gives l list = looks l (k cab) ≡ answers (Ok (texts list)) (k cab)

-- options of ZRANGEBYSCORE
abbrev by_score : Option (ℤ × ℤ) → ReadOp
by_score limit = look.Zrangebyscore bound.Low bound.High (record { with_scores = false; limit = limit })

-- ## Adding

-- equal scores stand by the members' bytes
zadd_in_order : edits (edit.Zadd ((score 2, codes "b") ∷ (score 1, codes "c") ∷ (score 2, codes "a") ∷ [])) [] ≡ answers (Ok (counted 3)) (k cab)
unfolding edit_at edit_sorted put without
zadd_in_order = refl

zadd_there : edits (edit.Zadd ((score 3, codes "c") ∷ [])) (holds cab (Some 2000)) ≡ answers (Ok (counted 0)) (holds (sorted ((score 2, codes "a") ∷ (score 2, codes "b") ∷ (score 3, codes "c") ∷ [])) (Some 2000))
unfolding edit_at edit_sorted put without
zadd_there = refl

-- one member twice is new once, and the last score stands
zadd_twice_the_same : edits (edit.Zadd ((score 2, codes "a") ∷ (score 1, codes "a") ∷ [])) [] ≡ answers (Ok (counted 1)) (k (sorted ((score 1, codes "a") ∷ [])))
unfolding edit_at edit_sorted put without
zadd_twice_the_same = refl

zadd_below_zero : edits (edit.Zadd ((pos 0, codes "b") ∷ (negsuc 499999, codes "a") ∷ (negsuc 1499999, codes "c") ∷ [])) [] ≡ answers (Ok (counted 3)) (k (sorted ((negsuc 1499999, codes "c") ∷ (negsuc 499999, codes "a") ∷ (pos 0, codes "b") ∷ [])))
unfolding edit_at edit_sorted put without
zadd_below_zero = refl

-- ## Reading

zrangebyscore_past_one : gives (look.Zrangebyscore (bound.Past (score 1)) bound.High (record { with_scores = false; limit = None })) (codes "a" ∷ codes "b" ∷ [])
zrangebyscore_past_one = refl

zrangebyscore_from_one_to_one : gives (look.Zrangebyscore (bound.At (score 1)) (bound.At (score 1)) (record { with_scores = false; limit = None })) (codes "c" ∷ [])
zrangebyscore_from_one_to_one = refl

limit_the_second : gives (by_score (Some (pos 1, pos 1))) (codes "a" ∷ [])
limit_the_second = refl

-- a count below zero means all
limit_count_below_zero : gives (by_score (Some (pos 1, negsuc 0))) (codes "a" ∷ codes "b" ∷ [])
limit_count_below_zero = refl

-- a skip below zero gives none
limit_skip_below_zero : gives (by_score (Some (negsuc 0, negsuc 0))) []
limit_skip_below_zero = refl

limit_none : gives (by_score (Some (pos 0, pos 0))) []
limit_none = refl

zrange_the_last_two : gives (look.Zrange (negsuc 1) (negsuc 0) false) (codes "a" ∷ codes "b" ∷ [])
zrange_the_last_two = refl

zrange_past_the_end : gives (look.Zrange (pos 2) (pos 9) false) (codes "b" ∷ [])
zrange_past_the_end = refl

million_text : decimal 1000000 ≡ codes "1000000"
million_text = spelled (codes "1000000") refl (omega arith) (λ e. omega (arith, e)) (omega arith)

half_text : decimal 1500000 ≡ codes "1500000"
half_text = spelled (codes "1500000") refl (omega arith) (λ e. omega (arith, e)) (omega arith)

score_of_one : score_text (score 1) ≡ codes "1"
score_of_one = simp (one_text, million_text)

score_of_minus_one_and_a_half : score_text (negsuc 1499999) ≡ codes "-1.5"
score_of_minus_one_and_a_half = simp (one_text, half_text)

-- -1.5 b, 1 a
abbrev ba : Value
ba = sorted ((negsuc 1499999, codes "b") ∷ (score 1, codes "a") ∷ [])

zrange_withscores : looks (look.Zrange (pos 0) (negsuc 0) true) (k ba) ≡ answers (Ok (texts (codes "b" ∷ codes "-1.5" ∷ codes "a" ∷ codes "1" ∷ []))) (k ba)
zrange_withscores = simp (score_of_one, score_of_minus_one_and_a_half)

zscore_there : looks (look.Zscore (codes "b")) (k ba) ≡ answers (Ok (reply.Bulk (codes "-1.5"))) (k ba)
zscore_there = simp (score_of_minus_one_and_a_half)

zscore_absent : looks (look.Zscore (codes "d")) (k cab) ≡ answers (Ok reply.Null) (k cab)
zscore_absent = refl

zcard_there : looks look.Zcard (k cab) ≡ answers (Ok (counted 3)) (k cab)
zcard_there = refl

zcard_absent : looks look.Zcard [] ≡ answers (Ok (counted 0)) []
zcard_absent = refl

type_there : looks look.KindOf (k cab) ≡ answers (Ok (reply.Say (say.Kind kind.Sorted))) (k cab)
type_there = refl

-- ## Taking out

zrem_twice_the_same : edits (edit.Zrem (codes "a" ∷ codes "d" ∷ codes "a" ∷ [])) (k cab) ≡ answers (Ok (counted 1)) (k (sorted ((score 1, codes "c") ∷ (score 2, codes "b") ∷ [])))
unfolding edit_at edit_sorted without
zrem_twice_the_same = refl

zremrangebyrank_all_but_the_last : edits (edit.Zremrangebyrank (pos 0) (negsuc 1)) (k cab) ≡ answers (Ok (counted 2)) (k (sorted ((score 2, codes "b") ∷ [])))
unfolding edit_at edit_sorted
zremrangebyrank_all_but_the_last = refl

zremrangebyrank_past_the_end : edits (edit.Zremrangebyrank (pos 3) (pos 9)) (k cab) ≡ answers (Ok (counted 0)) (k cab)
unfolding edit_at edit_sorted
zremrangebyrank_past_the_end = refl

zremrangebyscore_below_two : edits (edit.Zremrangebyscore bound.Low (bound.Past (score 2))) (k cab) ≡ answers (Ok (counted 1)) (k (sorted ((score 2, codes "a") ∷ (score 2, codes "b") ∷ [])))
unfolding edit_at edit_sorted
zremrangebyscore_below_two = refl

-- one with nothing in it is no key
zremrangebyrank_of_all : edits (edit.Zremrangebyrank (pos 0) (negsuc 0)) (holds cab (Some 2000)) ≡ answers (Ok (counted 3)) []
unfolding edit_at edit_sorted
zremrangebyrank_of_all = refl

zrem_absent : edits (edit.Zrem (codes "a" ∷ [])) [] ≡ answers (Ok (counted 0)) []
unfolding edit_at edit_sorted without
zrem_absent = refl

-- ## Other kinds

zcard_list : looks look.Zcard (k abc) ≡ answers (Err fault.WrongType) (k abc)
zcard_list = refl

zadd_list : edits (edit.Zadd ((score 1, codes "a") ∷ [])) (k abc) ≡ answers (Err fault.WrongType) (k abc)
unfolding edit_at edit_list
zadd_list = refl

incrby_sorted : edits (edit.Incrby (pos 1)) (k cab) ≡ answers (Err fault.WrongType) (k cab)
unfolding edit_at edit_sorted
incrby_sorted = refl
