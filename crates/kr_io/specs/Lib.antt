pub use Rattle.kr_base.specs.Causes
pub use Rattle.kr_base.specs.Told
pub mod Reads
pub mod Held
pub mod Memory
pub mod Outside
