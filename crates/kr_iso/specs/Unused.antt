-- Between crates: which objects of a class domain are allowed next: those up to the one after the last that occurs on the path.
use Rattle.std.specs.Prelude.{◌≡◌, ℕ, ◌+◌, ◌≤◌, List, Option, Some, None}
use Rattle.kr_mean.specs.Problem.{DomainObject}
use Rattle.kr_mean.specs.Space.{Space}
use Rattle.kr_mean.specs.Choices.{IsUsed, MayStand}

-- an object of the same domain, whose number is at most one less
abbrev pub IsNear : Option DomainObject → DomainObject → Type 0
IsNear None o = ⊥
IsNear (Some other) o = (other.domain ≡ o.domain) × (o.number ≤ other.number + 1)

-- such an object occurs on the path
abbrev pub IsReached : Space → List (ℕ × ℕ) → DomainObject → Type 0
IsReached space path o = (k : ℕ) × (o.number ≤ k + 1) × IsUsed space path o.domain k

-- ---- an object that is not allowed, so that no later one of its domain is

abbrev pub MayNotStand : Space → List (ℕ × ℕ) → Option DomainObject → Type 0
MayNotStand space path None = Unit {0}
MayNotStand space path (Some o) = MayStand space path (Some o) → ⊥

abbrev pub IsBarred : Option DomainObject → DomainObject → Type 0
IsBarred None o = ⊥
IsBarred (Some before) o = (before.domain ≡ o.domain) × (before.number ≤ o.number)
