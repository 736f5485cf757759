-- What the tests of a condition say.
use Rattle.std.proofs.Common.{◌≡◌, ℕ, Bool, true, false, ◌&&◌, refl, Option, Some, None}
use Rattle.kr_core.specs.States.{is_owned, is_owned_by}

pub and-left : (a b : Bool) → (a && b) ≡ true → a ≡ true
and-left true b e = refl
and-left false b e = cc

pub and-right : (a b : Bool) → (a && b) ≡ true → b ≡ true
and-right true b e = e
and-right false b e = absurd (cc (e))

pub owner_known : (seat : ℕ) (owner : Option ℕ) → is_owned_by seat owner ≡ true → is_owned owner ≡ true
owner_known seat None h = h
owner_known seat (Some x) h = refl
