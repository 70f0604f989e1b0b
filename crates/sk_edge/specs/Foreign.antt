-- What a page of another site can make a browser send to a port: a request of HTTP, and a handshake of TLS, whose session ticket may be any bytes.
use Rattle.std.specs.Prelude.{◌≡◌, ◌⊎◌, ◌++◌, ◌∷◌, ℕ, []}
use Rattle.sk_edge.specs.RequestLine.{Bytes, BeginsHttp}

-- the first byte of a record of a handshake: its content type (RFC 8446, section 5.1)
abbrev pub handshake : ℕ
handshake = 22

-- The stream begins with a handshake of TLS.
abbrev pub BeginsTls : Bytes → Type 0
BeginsTls [] = ⊥
BeginsTls (b ∷ bytes) = b ≡ handshake

-- It begins with one of these.
abbrev pub IsForeign : Bytes → Type 0
IsForeign bytes = BeginsHttp bytes ⊎ BeginsTls bytes

-- Whatever comes behind these bytes, it begins with neither.
abbrev pub Passes : Bytes → Type 0
Passes bytes = (more : Bytes) → IsForeign (bytes ++ more) → ⊥
