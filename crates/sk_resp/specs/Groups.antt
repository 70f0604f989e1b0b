-- Bytes as one number, by which many are compared at once.
use Rattle.std.specs.Prelude.{ℕ, zero, suc, ◌+◌, ◌*◌, ◌^◌, slice_index}
use Rattle.sk_resp.specs.Spelling.{Bytes}

-- so many bytes from a place on as a number, the first of them the highest
abbrev pub group_at : ℕ → ℕ → Bytes → ℕ
group_at zero at bytes = 0
group_at (suc rest) at bytes = slice_index bytes at * 256 ^ rest + group_at rest (suc at) bytes
