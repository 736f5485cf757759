-- To be believed: spans that adjoin, and lists in any order.
use Rattle.std.specs.Prelude.{◌≡◌, List, [], ◌∷◌, ◌++◌}
use Rattle.kr_base.specs.declared.span.Bound.{Bound}
use Rattle.kr_base.specs.declared.span.Bound.TheVariants.{At}
use Rattle.kr_base.specs.declared.span.Span.{Span}
use Rattle.kr_shard_laws.specs.Listings.{IsSpan}

-- Spans that adjoin: the first begins at a bound, each ends where the next begins, and the last ends at a bound.
abbrev pub Adjoin : Bound → List Span → Bound → Type 0
Adjoin from [] to = from ≡ to
Adjoin from (span ∷ spans) to = (At span.after ≡ from) × IsSpan span × Adjoin span.upto spans to

-- the first of two lists in some order
abbrev pub IsInAnyOrder : {A : Type 0} → List A → List A → Type 0
IsInAnyOrder [] ys = ys ≡ []
IsInAnyOrder {A} (x ∷ xs) ys = (before : List A) × (after : List A) × (ys ≡ before ++ x ∷ after) × IsInAnyOrder xs (before ++ after)
