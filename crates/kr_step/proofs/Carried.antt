-- The entries listed of a candidate are those of its problem.
use Rattle.std.proofs.Common.{◌≡◌, ℕ, List, true, sym, subst}
use Rattle.kr_base.specs.declared.span.Bound.{Bound}
use Rattle.kr_base.specs.declared.span.Bound.TheVariants.{At}
use Rattle.kr_base.specs.Bounds.{less}
use Rattle.kr_base.specs.Cuts.{Before}
use Rattle.kr_mean.specs.Space.{Space, IsVector}
use Rattle.kr_mean.specs.Readings.{Lacks}
use Rattle.kr_mean.specs.Runs.{key_along}
use Rattle.kr_mean.specs.Entries.{IsListed}
use Rattle.kr_step.specs.Steps.{IsFirst}
use Rattle.kr_step.specs.Upto.{AllPast}

-- two orders of the same candidates
abbrev pub Same : Space → (List ℕ → List ℕ) → (List ℕ → List ℕ) → Type 0
Same S o p = (v : List ℕ) → IsVector S v → o v ≡ p v

pub turned : (S : Space) (o p : List ℕ → List ℕ) → Same S o p → Same S p o
turned S o p same v h = sym (same v h)

pub listed : (S : Space) (o p : List ℕ → List ℕ) (v : List ℕ) → Same S o p → IsListed S o v → IsListed S p v
listed S o p v same l = record {
  vector = l.vector;
  least = λ name w r m b. l.least name w r m
      (subst (λ x. Before (key_along w x) (key_along v (o v))) (sym (same w m.vector))
      (subst (λ x. Before (key_along w (p w)) (key_along v x)) (sym (same v l.vector)) b));
  settled = λ s b lacks. l.settled s b (subst (λ x. Lacks x s) (sym (same v l.vector)) lacks);
}

pub first : (S : Space) (o p : List ℕ → List ℕ) (c v : List ℕ) → Same S o p → IsFirst S o c v → IsFirst S p c v
first S o p c v same is = record {
  listed = listed S o p v same is.listed;
  later = subst (λ x. Before c (key_along v x)) (same v is.listed.vector) is.later;
  least = λ u l b b'. is.least u (listed S p o u (turned S o p same) l)
      (subst (λ x. Before c (key_along u x)) (sym (same u l.vector)) b)
      (subst (λ x. Before (key_along u x) (key_along v (o v))) (sym (same u l.vector))
      (subst (λ x. Before (key_along u (p u)) (key_along v x)) (sym (same v is.listed.vector)) b'));
}

pub past : (S : Space) (o p : List ℕ → List ℕ) (b : Bound) (c : List ℕ) → Same S o p → AllPast S o b c → AllPast S p b c
past S o p b c same all u l h = subst (λ x. less b (At (key_along u x)) ≡ true) (same u l.vector)
    (all u (listed S p o u (turned S o p same) l) (subst (λ x. Before c (key_along u x)) (sym (same u l.vector)) h))
