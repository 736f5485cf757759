-- The numbers of values: those of a stretch follow each other.
use Rattle.std.proofs.Common.{◌≡◌, ℕ, zero, suc, ◌+◌, ◌-◌, ◌<◌, List, [], ◌∷◌, ◌++◌, refl, sym, ap, ◌∙◌, arith}
use Rattle.std.specs.Prelude.{ℤ, pos, negsuc, ◌+ℤ◌, map}
use Rattle.std.specs.List.{AllByRecursion, range_with_len}
use Rattle.std.proofs.lemmas.Int.{ints}
use Rattle.std.proofs.lemmas.List.{append-nil}
use Rattle.std.proofs.lemmas.List.Concat.{flat_map-append}
use Rattle.kr_space_rules.specs.declared.spans.Span.{Span}
use Rattle.kr_space_layout.specs.declared.stretch.Block.{Block}
use Rattle.kr_space_layout.specs.declared.stretch.Stretch.{Stretch}
use Rattle.kr_space_layout.specs.declared.stretch.Stretch.TheVariants.{Plain, Integers, Objects}
use Rattle.kr_space_layout.specs.Items.{integers_from, width_between}
use Rattle.kr_space_layout.specs.Stretches.{integer_choice, object_choice, choices_of, count_of}
use Rattle.kr_space_rules.specs.Spans.{AreTold, IsHigh, IsTold, covered, numbers_of, shifted, start_of}

next_of_negative : (n : ℕ) → negsuc (suc n) +ℤ pos 1 ≡ negsuc n
next_of_negative n = omega (arith, ints)

record IsNext (z w : ℤ) : Type 0 where
  high : IsHigh w
  is : shifted w ≡ shifted z + 1

next : (z : ℤ) → IsHigh z → IsNext z (z +ℤ pos 1)
next (pos n) h = record { high = tt; is = omega arith }
next (negsuc zero) h = record { high = tt; is = omega arith }
next (negsuc (suc n)) h = subst_next (negsuc (suc n) +ℤ pos 1) (next_of_negative n)
  where
    subst_next : (w : ℤ) → w ≡ negsuc n → IsNext (negsuc (suc n)) w
    subst_next w e = rw e record { high = omega (arith, h); is = omega (arith, h) }

integers_numbered : (z : ℤ) (n : ℕ) → IsHigh z → numbers_of (map integer_choice (integers_from z n)) ≡ range_with_len (shifted z) n
integers_numbered z zero h = refl
integers_numbered z (suc n) h =
    let m = next z h in
    ap (λ (xs : List ℕ). shifted z ∷ xs) (integers_numbered (z +ℤ pos 1) n m.high ∙ ap (λ (k : ℕ). range_with_len k n) m.is)

objects_numbered : (b : Block) (a n s : ℕ) → b.first + a + 3 ≡ s → numbers_of (map (object_choice b) (range_with_len a n)) ≡ range_with_len s n
objects_numbered b a zero s e = refl
objects_numbered b a (suc n) s e =
    ap (λ (k : ℕ). k ∷ numbers_of (map (object_choice b) (range_with_len (a + 1) n))) e
    ∙ ap (λ (xs : List ℕ). s ∷ xs) (objects_numbered b (a + 1) n (s + 1) (omega (arith, e)))

pub choices_numbered : (s : Stretch) → AreTold s → numbers_of (choices_of s) ≡ range_with_len (start_of s) (count_of s)
choices_numbered (Plain v) h = refl
choices_numbered (Integers from to) h = integers_numbered from (width_between from to) h
choices_numbered (Objects b) h = objects_numbered b 0 b.count (b.first + 3) (omega arith)

-- ---- each choice of a stretch is determined by its number

integers_told : (z : ℤ) (n : ℕ) → IsHigh z → AllByRecursion (λ c. IsTold c.value) (map integer_choice (integers_from z n))
integers_told z zero h = tt
integers_told z (suc n) h = (h, integers_told (z +ℤ pos 1) n (next z h).high)

objects_told : (b : Block) (a n : ℕ) → b.first + a + n < 4294967296 → AllByRecursion (λ c. IsTold c.value) (map (object_choice b) (range_with_len a n))
objects_told b a zero h = tt
objects_told b a (suc n) h = (omega (arith, h), objects_told b (a + 1) n (omega (arith, h)))

pub choices_told : (s : Stretch) → AreTold s → AllByRecursion (λ c. IsTold c.value) (choices_of s)
choices_told (Plain v) h = (h, tt)
choices_told (Integers from to) h = integers_told from (width_between from to) h
choices_told (Objects b) h = objects_told b 0 b.count (omega (arith, h))

-- ---- spans and what they cover

pub covered_more : (spans new : List Span) (span : Span) (s : Stretch) → AreTold s → span.start ≡ start_of s → span.count ≡ count_of s → new ≡ spans ++ span ∷ [] → covered new ≡ covered spans ++ numbers_of (choices_of s)
covered_more spans new span s t a b e =
    ap covered e
    ∙ (flat_map-append (λ (x : Span). range_with_len x.start x.count) spans (span ∷ [])
    ∙ ap (λ (xs : List ℕ). covered spans ++ xs) (append-nil (range_with_len span.start span.count) ∙ (ap (λ (n : ℕ). range_with_len n span.count) a ∙ (ap (λ (n : ℕ). range_with_len (start_of s) n) b ∙ sym (choices_numbered s t)))))
