-- The writer: its definitions stand in crate request_log.
-- How the code comes by it, and why that is the same.
pub mod ContentsLaws
pub mod WriteLaws
