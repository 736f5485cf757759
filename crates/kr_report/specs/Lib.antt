pub use Rattle.kr_base.specs.Causes
pub use Rattle.kr_base.specs.Told
pub mod Texts
pub mod Reports
pub mod Endings
pub mod Summaries
pub mod Joined
pub mod Names
