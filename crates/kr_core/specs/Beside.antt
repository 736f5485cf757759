-- Between crates: what is kept beside the segments, a piece for each of them, and how events move it. Pieces are joined by an
-- operation, and one of them is nothing.
use Rattle.std.specs.Prelude.{◌≡◌, ℕ, List, [], ◌∷◌, Bool, ◌==◌, if◌then◌else◌}
use Rattle.kr_base.specs.declared.span.Bound.{Bound}
use Rattle.kr_base.specs.declared.entry.Entry.{Entry}
use Rattle.kr_base.specs.Entries.{within}
use Rattle.kr_core.specs.declared.segment.Segment.{Segment}
use Rattle.kr_core.specs.declared.event.Event.{Event}
use Rattle.kr_core.specs.declared.event.Event.TheVariants.{Take, Steal, Report, GiveUp, Drain, StopAt, Look}
use Rattle.kr_core.specs.States.{State, is_closed}

-- more is added to the piece of the segment of that number; where this ends all, the later ones go
abbrev pub grown : {M : Type 0} → (M → M → M) → ℕ → M → Bool → List Segment → List M → List M
grown op n more ends [] xs = []
grown op n more ends (s ∷ ss) [] = []
grown op n more ends (s ∷ ss) (x ∷ xs) = if s.number == n then op x more ∷ (if ends then [] else xs) else x ∷ grown op n more ends ss xs

-- nothing, for a new segment directly after that one
abbrev pub parted : {M : Type 0} → M → ℕ → List Segment → List M → List M
parted none n [] xs = []
parted none n (s ∷ ss) [] = []
parted none n (s ∷ ss) (x ∷ xs) = if s.number == n then x ∷ (none ∷ xs) else x ∷ parted none n ss xs

-- the pieces of the segments up to and with the first that isn't closed
abbrev pub fronts : {M : Type 0} → List Segment → List M → List M
fronts [] xs = []
fronts (s ∷ ss) [] = []
fronts (s ∷ ss) (x ∷ xs) = x ∷ (if is_closed s then fronts ss xs else [])

-- those of the segments that stay after a drain, nothing for the first
abbrev pub emptied : {M : Type 0} → M → List Segment → List M → List M
emptied none [] xs = []
emptied none (s ∷ ss) [] = []
emptied none (s ∷ []) (x ∷ xs) = none ∷ []
emptied none (s ∷ t ∷ ss) (x ∷ xs) = if is_closed s then emptied none (t ∷ ss) xs else none ∷ xs

abbrev pub first_alone : {M : Type 0} → List M → List M
first_alone [] = []
first_alone (x ∷ xs) = x ∷ []

-- after an event; `more` is what comes with a report
abbrev pub beside : {M : Type 0} → (M → M → M) → M → State → Event → M → List M → List M
beside op none s (Take seat n) more xs = xs
beside op none s (Steal seat victim cut n) more xs = parted none victim s.segments xs
beside op none s (Report seat n reach rows tried spent) more xs = grown op n more spent s.segments xs
beside op none s (GiveUp seat n) more xs = xs
beside op none s (Drain rows) more xs = emptied none s.segments xs
beside op none s (StopAt mark) more xs = first_alone xs
beside op none s (Look seat) more xs = xs

-- all of them, joined
abbrev pub gathered : {M : Type 0} → (M → M → M) → M → List M → M
gathered op none [] = none
gathered op none (x ∷ xs) = op x (gathered op none xs)

-- The pieces of the segments after the first measure the entries of their own segment, up to its mark.
abbrev pub Others : {R M : Type 0} → (List (Entry R) → M) → List (Entry R) → List Segment → List M → Type 0
Others val es [] [] = Unit {0}
Others val es [] (x ∷ xs) = ⊥
Others val es (s ∷ ss) [] = ⊥
Others val es (s ∷ ss) (x ∷ xs) = (x ≡ val (within s.after s.mark es)) × Others val es ss xs

-- The first piece, joined to what was taken out before, measures all entries from a bound to its segment's mark.
abbrev pub Measures : {R M : Type 0} → (M → M → M) → (List (Entry R) → M) → List (Entry R) → Bound → M → List Segment → List M → Type 0
Measures op val es from d [] xs = ⊥
Measures op val es from d (s ∷ ss) [] = ⊥
Measures op val es from d (s ∷ ss) (x ∷ xs) = (op d x ≡ val (within from s.mark es)) × Others val es ss xs
