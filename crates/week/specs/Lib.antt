-- Crate week: the week page.
-- What a reader believes: the definitions.
pub mod Days
pub mod PageText
pub mod Pages
-- What is proved of them.
pub mod DayLaws
pub mod WeekSums
pub mod Figures
pub mod FigureLaws
pub mod LineLaws
pub mod PageLength
pub mod PageLaws
pub mod OutputLaws
