-- Optional results as lists, and results for all values.
use Rattle.std.specs.Prelude.{IfOk, Result, Ok, Err}

pub for_all : {X E A : Type 0} (r : Result X E) (Q : A → Type 0) (P : A → X → Type 0) → ((a : A) → Q a → IfOk r (P a)) → IfOk r (λ x. (a : A) → Q a → P a x)
for_all (Ok x) Q P h = h
for_all (Err e) Q P h = tt
