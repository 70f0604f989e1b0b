use Rattle.std.proofs.Common.{◌≡◌, ◌+◌, ◌-◌, ◌≤◌, List, ℕ, arith, sym, ap, ◌∙◌, subst, take, drop}
use Rattle.sk_log.specs.Window.{Piece, Stands}
use Rattle.sk_log.proofs.Pieces.{piece_long, piece_stands}
use Rattle.sk_log.proofs.window.Window.piece.Goals as goal

pub returns-clause-long : goal.returns-clause-long
returns-clause-long c =
    let skip : ℕ = c.args.at - c.self.inside.from in
    let len : skip + c.args.len - skip ≡ c.args.len = omega arith in
    let le : skip + c.args.len ≤ c.self.inside.len = omega (arith, c.if-skip-self.false, c.if-len-self.false) in
    piece_long c.self.inside.buf.items skip c.self.inside.len c.args.len le c.self.invariant (take (skip + c.args.len - skip) (drop skip c.deref.result.now))
    (ap (λ (n : ℕ). take n (drop skip c.deref.result.now)) len ∙ ap (λ (l : List ℕ). take c.args.len (drop skip l)) c.deref.ensures.value)

pub returns-clause-stands : goal.returns-clause-stands
returns-clause-stands c = λ image stands.
    let skip : ℕ = c.args.at - c.self.inside.from in
    let len : skip + c.args.len - skip ≡ c.args.len = omega arith in
    let le : skip + c.args.len ≤ c.self.inside.len = omega (arith, c.if-skip-self.false, c.if-len-self.false) in
    piece_stands c.self.inside.buf.items skip c.self.inside.len c.args.len le c.self.invariant (take (skip + c.args.len - skip) (drop skip c.deref.result.now))
    (ap (λ (n : ℕ). take n (drop skip c.deref.result.now)) len ∙ ap (λ (l : List ℕ). take c.args.len (drop skip l)) c.deref.ensures.value) image c.self.inside.from c.args.at
    (omega (arith, c.if-at-self.false)) (subst (λ (p : Piece). Stands image p) (sym c.self.view_is) stands)
