pub mod Reports
pub mod AllReports
