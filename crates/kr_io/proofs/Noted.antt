-- Of the real files no bytes are known.
use Rattle.std.proofs.Common.{◌≡◌, ℕ, List, None, take, IfOk, IfSome}
use Rattle.std.specs.Prelude.{Result, Ok, Err, Vec}
use Rattle.std.specs.declared.alloc.Global.{Global}
use Rattle.kr_io.specs.declared.files.ReadRefusal.{ReadRefusal}

pub nothing_told : (most : ℕ) (result : Result (Vec ℕ Global) ReadRefusal) → IfOk result (λ v. IfSome None (λ (all : List ℕ). v.items ≡ take most all))
nothing_told most (Ok v) = tt
nothing_told most (Err why) = tt
