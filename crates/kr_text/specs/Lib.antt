pub use Rattle.kr_base.specs.Causes
pub use Rattle.kr_base.specs.Told
pub mod Texts
pub mod Lines
pub mod Splitting
