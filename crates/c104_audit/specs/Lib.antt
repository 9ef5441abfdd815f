pub mod Leads
pub mod Audits
pub mod AuditFaults
pub mod AuditedRuns
pub mod Firsts
pub mod Tests
