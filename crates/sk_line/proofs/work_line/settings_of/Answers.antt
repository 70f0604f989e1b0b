use Rattle.sk_line.proofs.Reading.{passed}
use Rattle.sk_line.proofs.work_line.settings_of.Goals as goal

pub returns-in_err-address : goal.returns-in_err-address
returns-in_err-address c = passed _ _ c.from_residual-in_err-address.ensures.1 c.in_err-address.ensures (λ settings p. (settings.address, p.address))

pub returns-in_err-ident : goal.returns-in_err-ident
returns-in_err-ident c = passed _ _ c.from_residual-in_err-ident.ensures.1 c.in_err-ident.ensures (λ settings p. (settings.ident, p.ident))

pub returns-in_err-order : goal.returns-in_err-order
returns-in_err-order c = passed _ _ c.from_residual-in_err-order.ensures.1 c.in_err-order.ensures (λ settings p. (settings.order, p.order))

pub returns-in_err-threads : goal.returns-in_err-threads
returns-in_err-threads c = passed _ _ c.from_residual.ensures.1 c.in_err-threads.ensures (λ settings p. (settings.threads, p.threads))

pub returns-in_err-turns : goal.returns-in_err-turns
returns-in_err-turns c = passed _ _ c.from_residual-in_err-turns.ensures.1 c.in_err-turns.ensures (λ settings p. (settings.turns, p.turns))

pub returns-in_err-offset : goal.returns-in_err-offset
returns-in_err-offset c = passed _ _ c.from_residual-in_err-offset.ensures.1 c.in_err-offset.ensures (λ settings p. (settings.offset, p.offset))

pub returns-in_err-prefetch : goal.returns-in_err-prefetch
returns-in_err-prefetch c = passed _ _ c.from_residual-in_err-prefetch.ensures.1 c.in_err-prefetch.ensures (λ settings p. (settings.prefetch, p.prefetch))

pub returns-in_err-patience : goal.returns-in_err-patience
returns-in_err-patience c = passed _ _ c.from_residual-in_err-patience.ensures.1 c.in_err-patience.ensures (λ settings p. (settings.patience, p.patience))

pub returns-in_err-loops : goal.returns-in_err-loops
returns-in_err-loops c = passed _ _ c.from_residual-in_err-loops.ensures.1 c.in_err-loops.ensures (λ settings p. (settings.loops.items, p.loops))
