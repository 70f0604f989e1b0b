-- What is read from a list of leases in order, and how it is edited.
use Rattle.std.specs.Prelude.{ℕ, not, ◌&&◌, List, filter, map}
use Rattle.std.specs.List.{insert, position_or_len, count_by}
use Rattle.sk_resp.specs.Spelling.{Bytes}
use Rattle.sk_leases.specs.Lease.{Lease, names, stands_at, precedes}

-- the list with one more lease, at its place in the order
unfoldable pub put : Lease → List Lease → List Lease
put p ps = insert ps (position_or_len (precedes p) ps) p

-- the list without the name's leases
abbrev pub without : Bytes → List Lease → List Lease
without name ps = filter (λ p. not (names name p)) ps

-- what stands at the moment
abbrev pub standing : ℕ → List Lease → List Lease
standing now ps = filter (stands_at now) ps

-- how many of the name's leases stand at the moment
abbrev pub count_standing : Bytes → ℕ → List Lease → ℕ
count_standing name now ps = count_by (λ p. names name p && stands_at now p) ps

-- the names, each as often as it has a lease
abbrev pub names_of : List Lease → List Bytes
names_of ps = map (λ p. p.0) ps
