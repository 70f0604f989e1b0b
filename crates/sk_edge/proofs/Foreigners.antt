-- Streams that may begin with a handshake of TLS, as well as with a request of HTTP.
use Rattle.std.proofs.Common.{◌≡◌, ◌≢◌, ◌<◌, ℕ, [], ◌∷◌, ◌++◌, length, get_or, arith, append_assoc, inl, inr}
use Rattle.sk_edge.specs.RequestLine.{Bytes, BeginsHttp, NeverHttp}
use Rattle.sk_edge.specs.Foreign.{BeginsTls, IsForeign, Passes}

pub tls_at : (bytes : Bytes) → 0 < length bytes → get_or bytes 0 0 ≡ 22 → BeginsTls bytes
tls_at [] some is = absurd (omega (arith, some))
tls_at (b ∷ bytes) some is = is

pub tls_not : (bytes : Bytes) → get_or bytes 0 0 ≢ 22 → BeginsTls bytes → ⊥
tls_not [] other tls = tls
tls_not (b ∷ bytes) other tls = other tls

-- bytes that begin with neither
pub passes_both : (bytes : Bytes) → 0 < length bytes → (BeginsTls bytes → ⊥) → NeverHttp bytes → Passes bytes
passes_both [] some no_tls no_http = absurd (omega (arith, some))
passes_both (b ∷ bytes) some no_tls no_http = λ more h. elim h [
  | inl http ↦ no_http more http
  | inr tls ↦ no_tls tls
]

-- whatever comes behind them
pub foreign_more : (bytes more : Bytes) → IsForeign bytes → IsForeign (bytes ++ more)
foreign_more bytes more (inl http) = inl (record {
  line = http.line;
  behind = http.behind ++ more;
  request = http.request;
  no_lf = http.no_lf;
  no_star = http.no_star;
  short = http.short;
  is = cc (http.is, append_assoc http.line (10 ∷ http.behind) more);
})
foreign_more [] more (inr tls) = absurd tls
foreign_more (b ∷ bytes) more (inr tls) = inr tls
