pub mod Deque
pub mod DequeEdits
pub mod DequeMoves
pub mod DequesView
pub mod UndoDeques
