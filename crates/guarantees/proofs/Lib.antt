-- What is proved of the pages of specs/, where an edit of a page changes what stands below it.
pub mod Demand3
pub mod Sources
pub mod Closes
pub mod Quotes
pub mod SheetColumns
pub mod EndedClass
pub mod PriceFiles
pub mod Uploads
pub mod UploadLogs
pub mod WeekPage
