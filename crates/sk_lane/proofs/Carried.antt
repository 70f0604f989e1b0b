-- What a link that stands at one moment carried.
use Rattle.std.proofs.Common.{◌≡◌, ◌+◌, ◌++◌, ◌||◌, ◌∙◌, inl, inr, ℕ, Bool, true, false, List, [], ◌∷◌, map, Option, Some, None, Result, Ok, Err, IfSome, refl, sym, ap, subst, append-nil, append_assoc}
use Rattle.std.specs.List.{AllByRecursion}
use Rattle.std.proofs.lemmas.Bool.{true≢false}
use Rattle.std.proofs.Math.Bool.{or-true}
use Rattle.std.proofs.lemmas.List.{map-append}
use Rattle.sk_base.specs.Yields.{Yields, YieldsAll}
use Rattle.sk_resp.specs.Spelling.{Bytes}
use Rattle.sk_resp.specs.declared.reply.Reply.{Reply}
use Rattle.sk_link.specs.Asking.{Asked as LinkAsked, is_okay}
use Rattle.sk_link.specs.declared.asking.Answer.TheVariants as answers
use Rattle.sk_link.specs.declared.asking.AskFault.{AskFault}
use Rattle.sk_link.specs.declared.asking.AskFault.TheVariants as ask_fault
use Rattle.sk_link.specs.Call.{Call as LinkCall, answered}
use Rattle.sk_link.specs.declared.link.LinkFault.{LinkFault}
use Rattle.sk_link.specs.declared.link.LinkFault.TheVariants.{Failed, Unreadable, Ended, Memory}
use Rattle.sk_worker.specs.Request.{join_words}
use Rattle.sk_worker.specs.Saying.{JoinOf}
use Rattle.sk_worker.specs.declared.turn.WorkFault.{WorkFault}
use Rattle.sk_worker.specs.declared.turn.WorkFault.TheVariants as work_fault
use Rattle.sk_desk.specs.Calls.{AddsCall, call_of}
use Rattle.sk_desk.specs.declared.call.Call.{Call}
use Rattle.sk_desk.specs.declared.entry.Ask.{Ask}
use Rattle.sk_lane.specs.Asks.{AreCalls, answered_ask, ask_of, asks_at, with_ask}
use Rattle.sk_lane.specs.Carrying.{Carries, KeepsAsk, LinkState}
use Rattle.sk_lane.specs.CarryLaws.{passed_on}
use Rattle.sk_lane.specs.Drawing.{Draws, DrawsFor, Passes, drew, undrawn, is_off}
use Rattle.sk_lane.specs.Progress.{Said, Stands}
use Rattle.sk_lane.specs.Turns.{moment}
use Rattle.sk_lane.specs.declared.crashes.Drawing.{Drawing}

-- ## Clocks that stand

pub stands_on : (told later : Option (ℕ → ℕ)) (now : ℕ) → Yields told now later → Stands told → (now ≡ moment) × Stands later
stands_on None later now y s = absurd (let e : None ≡ Some s.next = s.tells in cc)
stands_on (Some g) None now y s = absurd y.1
stands_on (Some g) (Some k) now y s =
    let same : g ≡ s.next = cc s.tells in
    (y.0 ∙ (ap (λ (f : ℕ → ℕ). f 0) same ∙ s.at 0), record { next = k; tells = refl; at = λ n. y.1 n ∙ (ap (λ (f : ℕ → ℕ). f (n + 1)) same ∙ s.at (n + 1)) })

pub stands_all : (told : Option (ℕ → ℕ)) (read : List ℕ) (later : Option (ℕ → ℕ)) → YieldsAll told read later → Stands told →
    Stands later × AllByRecursion (λ now. now ≡ moment) read
stands_all told [] later y s = (subst Stands (sym y) s, tt)
stands_all told (now ∷ read) later y s =
    let one = stands_on told y.0 now y.1 s in
    let rest = stands_all y.0 read later y.2 one.1 in
    (rest.0, (one.0, rest.1))

-- ## Calls

-- what a link that stands carried
pub record CarriedAt (a b : LinkState) (calls : List LinkCall) : Type 0 where
  pub asked : b.asks ≡ a.asks ++ asks_at moment calls
  pub drawn : Draws a.drawing calls b.drawing
  pub stands : Stands b.moments

kept_one : (a b : LinkState) (request : List Bytes) (reply : Result Reply LinkFault) → KeepsAsk a request reply b → Stands a.moments →
    (b.asks ≡ a.asks ++ with_ask moment request reply []) × Stands b.moments
kept_one a b request (Ok answer) k s =
    let one = stands_on a.moments b.moments k.now k.at s in
    (k.kept ∙ ap (λ n. a.asks ++ answered_ask n request answer ∷ []) one.0, one.1)
kept_one a b request (Err Failed) k s = (k.1 ∙ sym (append-nil a.asks), subst Stands (sym k.0) s)
kept_one a b request (Err (Unreadable text)) k s = (k.1 ∙ sym (append-nil a.asks), subst Stands (sym k.0) s)
kept_one a b request (Err Ended) k s = (k.1 ∙ sym (append-nil a.asks), subst Stands (sym k.0) s)
kept_one a b request (Err Memory) k s = (k.1 ∙ sym (append-nil a.asks), (stands_all a.moments k.0.0 b.moments k.0.1 s).0)

with_more : (now : ℕ) (request : List Bytes) (reply : Result Reply LinkFault) (later : List Ask) → with_ask now request reply [] ++ later ≡ with_ask now request reply later
with_more now request (Ok answer) later = refl
with_more now request (Err f) later = refl

pub carried_at : (a b : LinkState) (calls : List LinkCall) → Carries a b calls → Stands a.moments → CarriedAt a b calls
carried_at a b [] p s = record {
  asked = ap (λ (l : LinkState). l.asks) p ∙ sym (append-nil a.asks);
  drawn = ap (λ (l : LinkState). l.drawing) p;
  stands = subst (λ (l : LinkState). Stands l.moments) (sym p) s;
}
carried_at a b (call ∷ calls) p s =
    let one = kept_one a p.0 call.request call.reply p.1.kept s in
    let rest = carried_at p.0 b calls p.2 one.1 in
    record {
      asked = rest.asked ∙ (ap (λ l. l ++ asks_at moment calls) one.0 ∙ (append_assoc a.asks (with_ask moment call.request call.reply []) (asks_at moment calls)
          ∙ ap (λ l. a.asks ++ l) (with_more moment call.request call.reply (asks_at moment calls))));
      drawn = (p.0.drawing, p.1.drawn, rest.drawn);
      stands = rest.stands;
    }

-- ## One request outside of a turn

are_more : (request : List Bytes) (answer : Reply) (now : ℕ) (asks after : List Ask) (calls calls_now : Option (List Call)) → AreCalls calls asks →
    after ≡ asks ++ answered_ask now request answer ∷ [] → AddsCall calls (call_of request now answer) calls_now → AreCalls calls_now after
are_more request answer now asks after None calls_now are kept adds = subst (λ o. AreCalls o after) (sym adds) tt
are_more request answer now asks after (Some cs) calls_now are kept (inl e) = subst (λ o. AreCalls o after) (sym e)
    (kept ∙ (ap (λ l. l ++ answered_ask now request answer ∷ []) are ∙ sym (map-append ask_of cs (call_of request now answer ∷ []))))
are_more request answer now asks after (Some cs) calls_now are kept (inr e) = subst (λ o. AreCalls o after) (sym e) tt

rested : (a b : Drawing) → Passes a b → a.in_turn ≡ false → b ≡ a
rested a b (drew _ _ on may word now) rest = absurd (true≢false (sym may.0 ∙ rest))
rested a b (undrawn _ _ on why now) rest = now

pub said : (a b : LinkState) (request : List Bytes) (answer : Reply) (okay : Bool) → Carries a b (answered request answer ∷ []) → Stands a.moments →
    a.drawing.in_turn ≡ false → is_okay answer ≡ okay → Said request a b okay
said a b request answer okay p s rest is =
    let all = carried_at a b (answered request answer ∷ []) p s in
    record {
      answer = answer;
      kept = all.asked;
      is = is;
      served = p.1.drawn.1;
      undrawn = ap (λ (l : LinkState). l.drawing) p.2 ∙ rested a.drawing p.0.drawing p.1.drawn.0 rest;
      stands = all.stands;
      same = λ are. subst (λ (l : LinkState). AreCalls l.calls l.asks) (sym p.2)
          (are_more request answer p.1.kept.now a.asks p.0.asks a.calls p.0.calls are p.1.kept.kept p.1.kept.told);
    }

pub said_asked : (a b : LinkState) (words request : List Bytes) (answer : Reply) (okay : Bool) → words ≡ request →
    Carries a b (answered words answer ∷ []) × (is_okay answer ≡ okay) → Stands a.moments → a.drawing.in_turn ≡ false → Said request a b okay
said_asked a b words request answer okay e p s rest = subst (λ r. Said r a b okay) e (said a b words answer okay p.0 s rest p.1)

pub said_refused : (a b : LinkState) (words request : List Bytes) (f : AskFault) (answer : Reply) → words ≡ request → f ≡ ask_fault.Refused answer →
    LinkAsked (λ calls. Carries a b calls) words answers.Okay (Err f) → Stands a.moments → a.drawing.in_turn ≡ false → Said request a b false
said_refused a b words request f answer e is asked s rest =
    said_asked a b words request answer false e (subst (λ g. LinkAsked (λ calls. Carries a b calls) words answers.Okay (Err g)) is asked) s rest

pub joined_refused : (a b : LinkState) (ident : Bytes) (ended : Bool) (f : WorkFault) (answer : Reply) → ended ≡ false → f ≡ work_fault.Refused answer →
    JoinOf ended (λ calls. Carries a b calls) ident (Err f) → Stands a.moments → a.drawing.in_turn ≡ false → Said (join_words ident) a b false
joined_refused a b ident ended f answer whole is told s rest =
    let said_no : JoinOf false (λ calls. Carries a b calls) ident (Err (work_fault.Refused answer)) =
    subst (λ e. JoinOf e (λ calls. Carries a b calls) ident (Err (work_fault.Refused answer))) whole
    (subst (λ g. JoinOf ended (λ calls. Carries a b calls) ident (Err g)) is told) in
    said_asked a b (join_words ident) (join_words ident) answer false refl said_no s rest

pub joined_okay : (a b : LinkState) (ident : Bytes) (ended : Bool) (done : Unit {0}) → ended ≡ false → JoinOf ended (λ calls. Carries a b calls) ident (Ok done) →
    Stands a.moments → a.drawing.in_turn ≡ false → Said (join_words ident) a b true
joined_okay a b ident ended done whole told s rest =
    let yes_told : JoinOf false (λ calls. Carries a b calls) ident (Ok done) = subst (λ e. JoinOf e (λ calls. Carries a b calls) ident (Ok done)) whole told in
    said_asked a b (join_words ident) (join_words ident) yes_told.0 true refl yes_told.1 s rest

-- ## A desk's calls

-- Where the link has ended, nothing more is drawn.
off_stays : (a b : LinkState) (calls : List LinkCall) → Carries a b calls → is_off a.drawing ≡ true → b.drawing ≡ a.drawing
off_stays a b [] p off = ap (λ (l : LinkState). l.drawing) p
off_stays a b (call ∷ calls) p off =
    let same = off_one a.drawing p.0.drawing call.reply p.1.drawn off in
    off_stays p.0 b calls p.2 (ap (λ (d : Drawing). is_off d) same ∙ off) ∙ same
  where
    off_one : (a b : Drawing) (came : Result Reply LinkFault) → DrawsFor a came b → is_off a ≡ true → b ≡ a
    off_one a b (Ok answer) d off = absurd (true≢false (sym off ∙ passed_on a b d.0))
    off_one a b (Err Failed) d off = absurd (true≢false (sym off ∙ d.on))
    off_one a b (Err (Unreadable text)) d off = absurd d
    off_one a b (Err Ended) d off = d.same
    off_one a b (Err Memory) d off = absurd (true≢false (sym off ∙ passed_on a d.mid d.passed))

-- As long as there was memory, the asks are the desk's calls.
pub are_calls : (a b : LinkState) (calls : List LinkCall) → Carries a b calls → b.drawing.starved ≡ false → AreCalls a.calls a.asks → AreCalls b.calls b.asks
are_calls a b [] p fed are = subst (λ (l : LinkState). AreCalls l.calls l.asks) (sym p) are
are_calls a b (call ∷ calls) p fed are = are_calls p.0 b calls p.2 fed (one a p.0 call.request call.reply p.1.drawn p.1.kept are
    (λ off. sym fed ∙ ap (λ (d : Drawing). d.starved) (off_stays p.0 b calls p.2 off)))
  where
    one : (a m : LinkState) (request : List Bytes) (reply : Result Reply LinkFault) → DrawsFor a.drawing reply m.drawing → KeepsAsk a request reply m → AreCalls a.calls a.asks →
        (is_off m.drawing ≡ true → false ≡ m.drawing.starved) → AreCalls m.calls m.asks
    one a m request (Ok answer) d k are fed = are_more request answer k.now a.asks m.asks a.calls m.calls are k.kept k.told
    one a m request (Err Failed) d k are fed = subst (λ o. AreCalls o m.asks) (sym k.2) (subst (λ l. AreCalls a.calls l) (sym k.1) are)
    one a m request (Err (Unreadable text)) d k are fed = absurd d
    one a m request (Err Ended) d k are fed = subst (λ o. AreCalls o m.asks) (sym k.2) (subst (λ l. AreCalls a.calls l) (sym k.1) are)
    one a m request (Err Memory) d k are fed =
        let starved = ap (λ (d : Drawing). d.starved) d.now in
        absurd (true≢false (sym starved ∙ sym (fed (ap (λ (d : Drawing). is_off d) d.now ∙ or-true d.mid.crashed))))

-- ## The same request

pub said_is : (request : List Bytes) (a b : LinkState) (x y : Bool) → x ≡ y → Said request a b x → Said request a b y
said_is request a b x y e said = subst (λ okay. Said request a b okay) e said

pub said_by : (i j : Bytes) (a b : LinkState) (x y : Bool) → i ≡ j → x ≡ y → Said (join_words i) a b x → Said (join_words j) a b y
said_by i j a b x y e f said = subst (λ k. Said (join_words k) a b y) e (subst (λ okay. Said (join_words i) a b okay) f said)

either_off : (a b : Bool) → (a || b) ≡ false → b ≡ false
either_off true b e = absurd (true≢false e)
either_off false b e = e

-- A link that is on had memory.
pub not_starved : (d : Drawing) → is_off d ≡ false → d.starved ≡ false
not_starved d e = either_off d.crashed d.starved e

-- A desk that made no call yet.
pub fresh_calls : (calls : Option (List Call)) (asks : List Ask) → IfSome calls (λ cs. cs ≡ []) → asks ≡ [] → AreCalls calls asks
fresh_calls None asks fresh none = tt
fresh_calls (Some cs) asks fresh none = none ∙ sym (ap (λ l. map ask_of l) fresh)
