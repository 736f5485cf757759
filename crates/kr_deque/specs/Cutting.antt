-- To be believed: which part of a span lies on which worker's deque.
use Rattle.std.specs.Prelude.{◌-◌, ℕ, List, [], ◌∷◌, ◌++◌, map, replicate, length}
use Rattle.kr_base.specs.declared.span.Bound.{Bound}
use Rattle.kr_base.specs.declared.span.Bound.TheVariants.{At}
use Rattle.kr_base.specs.declared.span.Span.{Span}

abbrev pub part : List ℕ → Bound → Span
part after upto = record { after = after; upto = upto }

-- a span in parts, from where it begins over these cuts to where it ends
abbrev pub parts_at : List ℕ → List (List ℕ) → Bound → List Span
parts_at after [] upto = part after upto ∷ []
parts_at after (cut ∷ cuts) upto = part after (At cut) ∷ parts_at cut cuts upto

-- a list of each alone
abbrev pub alone : List Span → List (List Span)
alone parts = map (λ s. s ∷ []) parts

-- empty lists after these, so many lists in all
abbrev pub padded : List (List Span) → ℕ → List (List Span)
padded spans n = spans ++ replicate (n - length spans) []
