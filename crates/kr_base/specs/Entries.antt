-- To be believed: entries in ascending order of keys, and the entries of a span.
use Rattle.std.specs.Prelude.{◌≡◌, ℕ, ◌⊎◌, List, [], ◌∷◌, ◌++◌, Bool, true, false, ◌&&◌, not, filter, if◌then◌else◌}
use Rattle.kr_base.specs.declared.span.Bound.{Bound}
use Rattle.kr_base.specs.declared.span.Bound.TheVariants.{At}
use Rattle.kr_base.specs.declared.entry.Mark.{Mark}
use Rattle.kr_base.specs.declared.entry.Mark.TheVariants.{Valid, Invalid, Spent}
use Rattle.kr_base.specs.declared.entry.Entry.{Entry}
use Rattle.kr_base.specs.Cuts.{Before}
use Rattle.kr_base.specs.Bounds.{less}

abbrev pub is_valid : {R : Type 0} → Mark R → Bool
is_valid (Valid row) = true
is_valid Invalid = false
is_valid Spent = false

abbrev pub is_spent : {R : Type 0} → Mark R → Bool
is_spent (Valid row) = false
is_spent Invalid = false
is_spent Spent = true

-- all keys are above k
abbrev pub AllAfter : {R : Type 0} → List ℕ → List (Entry R) → Type 0
AllAfter k [] = Unit {0}
AllAfter k (e ∷ es) = Before k e.key × AllAfter k es

abbrev pub Ascends : {R : Type 0} → List (Entry R) → Type 0
Ascends [] = Unit {0}
Ascends (e ∷ es) = AllAfter e.key es × Ascends es

abbrev pub IsAmong : {R : Type 0} → Entry R → List (Entry R) → Type 0
IsAmong e [] = ⊥
IsAmong e (f ∷ es) = (f ≡ e) ⊎ IsAmong e es

-- above a, and not above b
abbrev pub is_within : Bound → Bound → List ℕ → Bool
is_within a b key = less a (At key) && not (less b (At key))

-- the entries with keys above a and not above b
abbrev pub within : {R : Type 0} → Bound → Bound → List (Entry R) → List (Entry R)
within a b es = filter (λ e. is_within a b e.key) es

-- the entries up to and including the first spent one
abbrev pub through_spent : {R : Type 0} → List (Entry R) → List (Entry R)
through_spent [] = []
through_spent (e ∷ es) = e ∷ (if is_spent e.mark then [] else through_spent es)

-- the entries in a span, up to and including the first spent one
abbrev pub entries_in : {R : Type 0} → Bound → Bound → List (Entry R) → List (Entry R)
entries_in a b es = through_spent (within a b es)

abbrev pub NoneSpent : {R : Type 0} → List (Entry R) → Type 0
NoneSpent [] = Unit {0}
NoneSpent (e ∷ es) = (is_spent e.mark ≡ false) × NoneSpent es

-- For a not above b, b not above c, and no spent entry in the span from a to b: the entries of that span followed by
-- those from b to c are the entries from a to c.
abbrev pub ResumptionLaw : Type 0 → Type 0
ResumptionLaw R = (es : List (Entry R)) (a b c : Bound) → Ascends es → less b a ≡ false → less c b ≡ false →
    NoneSpent (entries_in a b es) → entries_in a b es ++ entries_in b c es ≡ entries_in a c es
