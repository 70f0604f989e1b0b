-- Orders of queues that are refused.
use Rattle.std.proofs.Common.{◌≡◌, ◌∙◌, ◌<◌, ◌^◌, ℕ, Bool, true, false, List, Result, Ok, Err, inl, inr, length, get_or, ap, ap₂, arith, codes, refl, subst, sym}
use Rattle.std.specs.Bool.{MatchBool}
use Rattle.std.specs.Result.{IsErrAnd}
use Rattle.std.proofs.lemmas.Fmt.{decimal_injective}
use Rattle.clap.specs.Words.{Row, Text}
use Rattle.sk_policy.specs.Order.{IsFault, IsOrder, Order}
use Rattle.sk_policy.specs.declared.order_fault.OrderFault.{OrderFault}
use Rattle.sk_policy.specs.declared.order_fault.OrderFault.TheVariants as fault
use Rattle.sk_line.specs.Lines.{Reads}
use Rattle.sk_line.specs.Values.{Has, IsNumber}
use Rattle.sk_line.specs.Work.{IsFlag, IsOrderLine, IsQueue, IsQueues, IsWeighed, by_order, is_weighed, order_of, parts}
use Rattle.sk_line.specs.declared.fault.LineFault.{LineFault}
use Rattle.sk_line.proofs.Lists.{zip_same}

-- ## A text stands for one value

number_same : (least most : ℕ) (text : Text) (a b : ℕ) → most < 2 ^ 64 → IsNumber least most text a → IsNumber least most text b → a ≡ b
number_same least most text a b small p q = decimal_injective a b (omega (arith, p.most_is)) (omega (arith, q.most_is)) (sym p.is ∙ q.is)

weighed_same : (texts : List Text) (a b : Text × ℕ) → IsWeighed texts a → IsWeighed texts b → a ≡ b
weighed_same texts a b p q = ap₂ (λ x y. (x, y)) (p.name ∙ sym q.name) (number_same 1 100 _ a.1 b.1 (omega arith) p.weight q.weight)

queue_by : (w : Bool) (word : Text) (texts : List Text) (a b : Text × ℕ) → MatchBool w (IsWeighed texts a) (a ≡ (word, 1)) → MatchBool w (IsWeighed texts b) (b ≡ (word, 1)) → a ≡ b
queue_by true word texts a b p q = weighed_same texts a b p q
queue_by false word texts a b p q = p ∙ sym q

queue_same : (word : Text) (a b : Text × ℕ) → IsQueue word a → IsQueue word b → a ≡ b
queue_same word a b p q = queue_by (is_weighed (parts 58 word)) word (parts 58 word) a b p q

flag_same : (text : Text) (a b : Bool) → IsFlag text a → IsFlag text b → a ≡ b
flag_same text true true p q = refl
flag_same text false false p q = refl
flag_same text true false p q = let first : 116 ≡ 102 = ap (λ t. get_or t 0 0) (sym p ∙ q) in absurd (omega (arith, first))
flag_same text false true p q = let first : 102 ≡ 116 = ap (λ t. get_or t 0 0) (sym p ∙ q) in absurd (omega (arith, first))

has_same : {V : Type 0} (Is : Text → V → Type 0) (one : (text : Text) (a b : V) → Is text a → Is text b → a ≡ b) (rows : List Row) (name : Text) (a b : V)
    → Has Is rows name a → Has Is rows name b → a ≡ b
has_same Is one rows name a b p q =
    let same : q.0 ≡ p.0 = cc in
    one p.0 a b p.2 (subst (λ text. Is text b) same q.2)

-- ## Refused orders

no_order : (order : Order) (f : OrderFault) → IsFault order f → (f ≡ fault.Memory → ⊥) → IsOrder order → ⊥
no_order order fault.Empty h other o = let none : 0 < 0 = subst (λ names. 0 < length names) h o.some in omega (arith, none)
no_order order (fault.Name i) h other o = let q = o.queues i h.0.there in h.1 q.room q.name
no_order order (fault.Repeated i) h other o = let bad : true ≡ false = sym h.3 ∙ (o.queues i h.0.there).new in cc
no_order order (fault.Weight i) h other o = let q = o.queues i h.0.there in elim h.4 [
  | inl few ↦ omega (arith, few, q.some)
  | inr many ↦ omega (arith, many, q.most)
]
no_order order fault.Memory h other o = other refl

no_line : (rows : List Row) (strict : Bool) (queues : List (Text × ℕ)) (f : OrderFault) → Has IsFlag rows (codes "strict") strict → Has IsQueues rows (codes "queues") queues
    → IsFault (order_of strict queues) f → (f ≡ fault.Memory → ⊥) → (order : Order) → IsOrderLine rows order → ⊥
no_line rows strict queues f is_strict are_queues h other order p =
    let s : p.strict ≡ strict = has_same IsFlag flag_same rows _ _ _ p.strict_is is_strict in
    let q : p.queues ≡ queues = has_same IsQueues (λ text. zip_same IsQueue queue_same (parts 44 text)) rows _ _ _ p.queues_are are_queues in
    no_order (order_of strict queues) f h other (subst IsOrder (p.is ∙ ap₂ order_of s q) p.accepted)

-- an order that is refused is no order of the line
pub order_refused : (rows : List Row) (strict : Bool) (queues : List (Text × ℕ)) (f : OrderFault) (r : Result Order LineFault) → Has IsFlag rows (codes "strict") strict
    → Has IsQueues rows (codes "queues") queues → IsFault (order_of strict queues) f → IsErrAnd r (λ e. e ≡ by_order f) → Reads (IsOrderLine rows) r
order_refused rows strict queues f (Ok order) a b h e = absurd e
order_refused rows strict queues fault.Empty (Err x) a b h e = subst (λ y. Reads (IsOrderLine rows) (Err y)) (sym e) (no_line rows strict queues fault.Empty a b h (λ z. cc))
order_refused rows strict queues (fault.Name i) (Err x) a b h e = subst (λ y. Reads (IsOrderLine rows) (Err y)) (sym e) (no_line rows strict queues (fault.Name i) a b h (λ z. cc))
order_refused rows strict queues (fault.Repeated i) (Err x) a b h e = subst (λ y. Reads (IsOrderLine rows) (Err y)) (sym e) (no_line rows strict queues (fault.Repeated i) a b h (λ z. cc))
order_refused rows strict queues (fault.Weight i) (Err x) a b h e = subst (λ y. Reads (IsOrderLine rows) (Err y)) (sym e) (no_line rows strict queues (fault.Weight i) a b h (λ z. cc))
order_refused rows strict queues fault.Memory (Err x) a b h e = subst (λ y. Reads (IsOrderLine rows) (Err y)) (sym e) tt
