-- The hash of a text, and the addresses of hashes as a table grows.
use Rattle.std.specs.Prelude.{◌+◌, ◌-◌, ◌/◌, ◌%◌, ◌^◌, ℕ, cond, nat_eq, nat_lt}
use Rattle.std.specs.Hash.FoldHasher as folding
use Rattle.sk_resp.specs.Spelling.{Bytes}

-- the upper half of the 64 bits that a `FoldHasher` makes of the text
unfoldable pub hash_of : Bytes → ℕ
hash_of text = folding.finish (folding.write folding.initial text) / 2 ^ 32

-- the greatest number of buckets is twice this
abbrev pub most_half : ℕ
most_half = 2 ^ 30

-- The address of a hash where there are `count` buckets, at least `half` and at most twice as many: by linear hashing, a hash whose address among
-- twice `half` has no bucket yet is where it was among `half`. 0 where there is no bucket.
unfoldable pub address : ℕ → ℕ → ℕ → ℕ
address half count hash = cond (nat_eq half 0) 0 (cond (nat_lt (hash % (half + half)) count) (hash % (half + half)) (hash % (half + half) - half))
