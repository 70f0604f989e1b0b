use Rattle.std.proofs.Common.{refl}
use Rattle.sk_payload.proofs.sketch.drawn.Goals as goal

pub returns : goal.returns
returns c = rw (c.in_ok-text_of.ensures, c.in_ok-text_of-2.ensures, c.in_ok-text_of-3.ensures, c.in_ok-text_of-4.ensures, c.in_ok-bid_text.ensures, c.requires.0, c.requires.1, c.requires.2, c.requires.3, c.requires.4, c.lock_of.ensures) refl
