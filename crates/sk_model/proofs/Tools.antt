-- Lists, texts and outcomes: what the others lean on.
pub mod DueRows
pub mod Outcomes
pub mod Room
pub mod RowsTaken
pub mod RowsThatGo
pub mod Texts
pub mod Works
