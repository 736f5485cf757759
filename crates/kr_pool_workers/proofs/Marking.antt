-- A refusal stays that of the seat's own worker where the seat keeps its number.
use Rattle.std.proofs.Common.{◌≡◌, ℕ, Option, subst, sym}
use Rattle.std.specs.Option.{ForSome}
use Rattle.kr_pool_workers.specs.declared.refusal.Refusal.{Refusal}
use Rattle.kr_pool_workers.specs.Refusals.{whose}

pub own_along : (o : Option Refusal) (m n : ℕ) → n ≡ m → ForSome o (λ r. whose r ≡ m) → ForSome o (λ r. whose r ≡ n)
own_along o m n e h = subst (λ (k : ℕ). ForSome o (λ r. whose r ≡ k)) (sym e) h
