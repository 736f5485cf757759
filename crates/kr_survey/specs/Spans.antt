-- To be believed: spans that cover keys, and spans that adjoin.
use Rattle.std.specs.Prelude.{◌≡◌, ℕ, ◌+◌, List, [], ◌∷◌, Bool, true, false}
use Rattle.kr_base.specs.declared.span.Bound.{Bound}
use Rattle.kr_base.specs.declared.span.Bound.TheVariants.{At}
use Rattle.kr_base.specs.declared.span.Span.{Span}
use Rattle.kr_base.specs.Bounds.{less}
use Rattle.kr_base.specs.Entries.{is_within}

abbrev pub one : Bool → ℕ
one true = 1
one false = 0

-- how many pass a test
abbrev pub how_many : {A : Type 0} → (A → Bool) → List A → ℕ
how_many p [] = 0
how_many p (x ∷ xs) = one (p x) + how_many p xs

-- it begins before it ends
abbrev pub is_ahead : Span → Bool
is_ahead s = less (At s.after) s.upto

-- the key is above where the span begins, and not above where it ends
abbrev pub has_key : List ℕ → Span → Bool
has_key key s = is_within (At s.after) s.upto key

-- how many of the spans have the key
abbrev pub covering : List ℕ → List Span → ℕ
covering key spans = how_many (has_key key) spans

-- the spans cover each key of a span exactly once, and no other key
abbrev pub AreParts : List Span → Span → Type 0
AreParts spans whole = (key : List ℕ) → covering key spans ≡ one (has_key key whole)

-- from a bound on, each span begins where the one before it ends, up to a bound
abbrev pub Adjoins : Bound → List Span → Bound → Type 0
Adjoins a [] b = a ≡ b
Adjoins a (s ∷ ss) b = (At s.after ≡ a) × Adjoins s.upto ss b
