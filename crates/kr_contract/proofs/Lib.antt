pub mod Judged
pub mod Decided
pub mod Signalled
pub mod Programs
pub mod Verdicts
pub mod Beyond
