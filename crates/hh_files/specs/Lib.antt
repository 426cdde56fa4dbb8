pub mod FilePasses
pub mod FilePieces
pub mod OnceReports
pub mod Report
pub mod TableFiles
pub mod SummaryFiles
pub mod TopFiles
