-- The values of options.
use Rattle.std.specs.Prelude.{◌≡◌, ◌≢◌, ◌≤◌, ◌-◌, ◌^◌, ◌&&◌, ℕ, ℤ, pos, negsuc, nat_le, List, [], Option, Some, None, Ok, true, codes, if◌then◌else◌}
use Rattle.sk_base.specs.declared.limits.TheConstants.{MOST_RETRIES, MOST_SECONDS}
use Rattle.std.specs.Fmt.{decimal}
use Rattle.clap.specs.Words.{Row, Text, first_of}
use Rattle.serde_json.specs.Read.{read}
use Rattle.sk_base.specs.Name.{is_name}
use Rattle.sk_base.specs.Score.{IsScore}
use Rattle.sk_payload.specs.Draft.{args_data}
use Rattle.sk_payload.specs.declared.args.Args.{Args}
use Rattle.sk_payload.specs.declared.head.Retry.{Retry}
use Rattle.sk_payload.specs.declared.head.Retry.TheVariants.{Default, Never, Count}

-- The value of the option with this name, given or its own.
abbrev pub Has : {V : Type 0} → (Text → V → Type 0) → List Row → Text → V → Type 0
Has Is rows name value = (text : Text) × (first_of name rows ≡ Some text) × Is text value

-- The value of an option that may be missing.
abbrev pub MayHave : {V : Type 0} → (Text → V → Type 0) → List Row → Text → Option V → Type 0
MayHave Is rows name (Some value) = Has Is rows name value
MayHave Is rows name None = first_of name rows ≡ None

-- ## What a text stands for

-- itself
abbrev pub IsText : Text → Text → Type 0
IsText text value = value ≡ text

-- itself, as the path of a file, which isn't empty
abbrev pub IsPath : Text → Text → Type 0
IsPath text value = (text ≢ []) × (value ≡ text)

-- itself, as a name of at most so many bytes
abbrev pub IsNamed : ℕ → Text → Text → Type 0
IsNamed most text value = (is_name most text ≡ true) × (value ≡ text)

-- the whole number from least to most whose one spelling the text is: digits without a leading zero
pub record IsNumber (least most : ℕ) (text : Text) (value : ℕ) : Type 0 where
  pub least_is : least ≤ value
  pub most_is : value ≤ most
  pub is : text ≡ decimal value

-- what a run is made from: any word of 64 bits
abbrev pub IsSeed : Text → ℕ → Type 0
IsSeed = IsNumber 0 (2 ^ 64 - 1)

-- a port of TCP
abbrev pub IsPort : Text → ℕ → Type 0
IsPort = IsNumber 1 65535

-- seconds for which something holds
abbrev pub IsSeconds : Text → ℕ → Type 0
IsSeconds = IsNumber 1 MOST_SECONDS

-- how often a job is tried again: `true`, `false`, or a count
abbrev pub IsRetry : Text → Retry → Type 0
IsRetry text Default = text ≡ codes "true"
IsRetry text Never = text ≡ codes "false"
IsRetry text (Count n) = IsNumber 0 MOST_RETRIES text n

-- a score, in whole millionths
abbrev pub IsScoreText : Text → ℤ → Type 0
IsScoreText text value = IsScore text (Ok value)

-- a JSON array
abbrev pub IsArgs : Text → Args → Type 0
IsArgs text args = read text ≡ Some (args_data args)

-- ## The same, as a test

-- the number within these bounds that an integer is
abbrev pub within : ℕ → ℕ → Option ℤ → Option ℕ
within least most (Some (pos n)) = if nat_le least n && nat_le n most then Some n else None
within least most (Some (negsuc n)) = None
within least most None = None
