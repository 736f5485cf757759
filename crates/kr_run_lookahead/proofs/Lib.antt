pub mod Alike
pub mod Goes
pub mod Leading
pub mod Lefts
