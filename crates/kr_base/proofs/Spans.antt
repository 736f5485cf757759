-- Spans of an ascending list of entries.
use Rattle.std.proofs.Common.{◌≡◌, ℕ, List, [], ◌∷◌, ◌++◌, Bool, true, false, ◌&&◌, not, refl, sym, ap, ◌∙◌, subst}
use Rattle.std.specs.Prelude.{if◌then◌else◌}
use Rattle.kr_base.specs.declared.span.Bound.{Bound}
use Rattle.kr_base.specs.declared.span.Bound.TheVariants.{At}
use Rattle.kr_base.specs.declared.entry.Entry.{Entry}
use Rattle.kr_base.specs.Bounds.{less}
use Rattle.kr_base.specs.Entries.{AllAfter, Ascends, is_spent, within, through_spent, NoneSpent, ResumptionLaw}
use Rattle.kr_base.proofs.Bounds.{less_from_before, transitive, not_above, not_above_less}

through_none : {R : Type 0} (es : List (Entry R)) → NoneSpent (through_spent es) → (through_spent es ≡ es) × NoneSpent es
through_none [] h = (refl, tt)
through_none {R} (e ∷ es) h =
    let here : is_spent e.mark ≡ false = h.0 in
    let rest : NoneSpent (through_spent es) = subst (λ (b : Bool). NoneSpent (if b then [] else through_spent es)) here h.1 in
    let both : (through_spent es ≡ es) × NoneSpent es = through_none es rest in
    (rw here (ap (λ (l : List (Entry R)). e ∷ l) both.0), (here, both.1))

pub through_append : {R : Type 0} (es fs : List (Entry R)) → NoneSpent es → through_spent (es ++ fs) ≡ es ++ through_spent fs
through_append [] fs h = refl
through_append {R} (e ∷ es) fs h = rw h.0 (ap (λ (l : List (Entry R)). e ∷ l) (through_append es fs h.1))

-- after b, an ascending list has nothing up to b
none_upto : {R : Type 0} (a b : Bound) (es : List (Entry R)) (k : List ℕ) → less b (At k) ≡ true → AllAfter k es → within a b es ≡ []
none_upto a b [] k h after = refl
none_upto a b (e ∷ es) k h after =
    let above : less b (At e.key) ≡ true = transitive b (At k) (At e.key) h (less_from_before k e.key after.0) in
    rw above (last (less a (At e.key)) (none_upto a b es k h after.1))
  where
    last : (t : Bool) → within a b es ≡ [] → (if t && false then e ∷ within a b es else within a b es) ≡ []
    last true rest = rest
    last false rest = rest

-- above b, the starts a and b select the same entries
same_start : {R : Type 0} (a b c : Bound) (es : List (Entry R)) (k : List ℕ) → less b a ≡ false → less b (At k) ≡ true → AllAfter k es → within a c es ≡ within b c es
same_start a b c [] k n h after = refl
same_start {R} a b c (e ∷ es) k n h after =
    let above : less b (At e.key) ≡ true = transitive b (At k) (At e.key) h (less_from_before k e.key after.0) in
    rw (above, not_above_less a b (At e.key) n above) (ap (λ (l : List (Entry R)). if not (less c (At e.key)) then e ∷ l else l) (same_start a b c es k n h after.1))

first_none : {R : Type 0} (a b : Bound) (e : Entry R) (es : List (Entry R)) → less b (At e.key) ≡ true → AllAfter e.key es → within a b (e ∷ es) ≡ []
first_none a b e es above after = rw above (last (less a (At e.key)) (none_upto a b es e.key above after))
  where
    last : (t : Bool) → within a b es ≡ [] → (if t && false then e ∷ within a b es else within a b es) ≡ []
    last true rest = rest
    last false rest = rest

pub within_two : {R : Type 0} (a b c : Bound) (es : List (Entry R)) → Ascends es → less b a ≡ false → less c b ≡ false → within a b es ++ within b c es ≡ within a c es
within_two a b c [] s n m = refl
within_two {R} a b c (e ∷ es) s n m = go (within_two a b c es s.1 n m) (less b (At e.key)) refl
  where
    joined : (t : Bool) → within a b es ++ within b c es ≡ within a c es → (if t && true then e ∷ within a b es else within a b es) ++ within b c es ≡ (if t && true then e ∷ within a c es else within a c es)
    joined true rest = ap (λ (l : List (Entry R)). e ∷ l) rest
    joined false rest = rest

    go : within a b es ++ within b c es ≡ within a c es → (t : Bool) → less b (At e.key) ≡ t → within a b (e ∷ es) ++ within b c (e ∷ es) ≡ within a c (e ∷ es)
    go rest true above =
        ap (λ (l : List (Entry R)). l ++ within b c (e ∷ es)) (first_none a b e es above s.0)
        ∙ rw (above, not_above_less a b (At e.key) n above) (ap (λ (l : List (Entry R)). if not (less c (At e.key)) then e ∷ l else l) (sym (same_start a b c es e.key n above s.0)))
    go rest false below = rw (below, not_above (At e.key) b c below m) (joined (less a (At e.key)) rest)

pub resumption : {R : Type 0} → ResumptionLaw R
resumption {R} es a b c s n m h =
    let t : (through_spent (within a b es) ≡ within a b es) × NoneSpent (within a b es) = through_none (within a b es) h in
    ap (λ (l : List (Entry R)). l ++ through_spent (within b c es)) t.0
    ∙ (sym (through_append (within a b es) (within b c es) t.1) ∙ ap through_spent (within_two a b c es s n m))
