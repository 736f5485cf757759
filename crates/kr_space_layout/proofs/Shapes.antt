-- The positions of the objects of a domain, as values join it.
use Rattle.std.proofs.Common.{◌≡◌, ℕ, zero, ◌+◌, ◌-◌, ◌<◌, ◌≤◌, ◌⊎◌, inl, inr, List, [], ◌∷◌, ◌++◌, length, get_or, Option, Some, None, Bool, true, false, nat_lt, refl, sym, ap, ◌∙◌, subst, arith}
use Rattle.std.proofs.lemmas.Bool.{cases_lt}
use Rattle.std.proofs.lemmas.Bool.Decides.{nat_tests}
use Rattle.std.proofs.lemmas.List.{get_or_append_left, get_or-append_right, length-append}
use Rattle.kr_value.specs.declared.value.Value.TheVariants.{Ref as Reference}
use Rattle.kr_iso.specs.Rows.{further_on}
use Rattle.kr_mean.specs.Problem.{Choice, DomainObject}
use Rattle.kr_mean.specs.Space.{no_choice}
use Rattle.kr_space_layout.specs.declared.shape.Shape.{Shape}
use Rattle.kr_space_layout.specs.declared.stretch.Block.{Block}
use Rattle.kr_space_layout.specs.declared.stretch.Stretch.TheVariants.{Objects}
use Rattle.kr_space_layout.specs.Shapes.{IsAlike, IsPlainShape, IsShape, object_from}
use Rattle.kr_space_layout.specs.Stretches.{IsNumbered, choices_of}
use Rattle.kr_space_layout.proofs.Pieces.{choices_long, object_at}

before_from : (from domain i : ℕ) → i < from → object_from from domain i ≡ None
before_from from domain i h = let t : nat_lt i from ≡ true = grind (arith, nat_tests) in rw t refl

behind_from : (from domain i : ℕ) → from ≤ i → object_from from domain i ≡ Some (record { domain = domain; number = i - from })
behind_from from domain i h = let t : nat_lt i from ≡ false = grind (arith, nat_tests) in rw t refl

no_objects : (cs : List Choice) (s : Shape) → IsShape cs s → s.simple ≡ true → s.from ≡ s.size → (i : ℕ) → i < length cs → (get_or cs i no_choice).object ≡ None
no_objects cs s is e f i h = is.objects e i h ∙ before_from s.from s.domain i (omega (arith, is.size, f))

pub with_plain : (cs ds : List Choice) (s : Shape) (size : ℕ) (simple : Bool) → size ≡ s.size + length ds → IsPlainShape s simple → ((j : ℕ) → j < length ds → (get_or ds j no_choice).object ≡ None) → IsShape cs s → IsShape (cs ++ ds) (record { size = size; from = size; domain = 0; first = 0; simple = simple })
with_plain cs ds s size simple e plain none is = record {
  size = all;
  within = omega arith;
  fits = omega arith;
  objects = λ t i h. here t i h (cases_lt i (length cs));
  values = λ i t ge h. absurd (omega (arith, all));
}
  where
    all : size ≡ length (cs ++ ds)
    all = omega (arith, e, is.size, length-append cs ds)

    there : (t : simple ≡ true) (i : ℕ) → i < length (cs ++ ds) → (i < length cs) ⊎ (length cs ≤ i) → (get_or (cs ++ ds) i no_choice).object ≡ None
    there t i h (inl lt) = ap (λ (c : Choice). c.object) (get_or_append_left cs ds no_choice i lt) ∙ no_objects cs s is (plain t).0 (plain t).1 i lt
    there t i h (inr ge) = ap (λ (c : Choice). c.object) (get_or-append_right cs ds (length cs) i no_choice refl ge) ∙ none (i - length cs) (omega (arith, length-append cs ds))

    here : (t : simple ≡ true) (i : ℕ) → i < length (cs ++ ds) → (i < length cs) ⊎ (length cs ≤ i) → (get_or (cs ++ ds) i no_choice).object ≡ object_from size 0 i
    here t i h o = there t i h o ∙ sym (before_from size 0 i (omega (arith, all)))

pub with_objects : (cs : List Choice) (b : Block) (s : Shape) (size : ℕ) (simple : Bool) → size ≡ s.size + b.count → IsNumbered b → IsPlainShape s simple → IsShape cs s → IsShape (cs ++ choices_of (Objects b)) (record { size = size; from = s.size; domain = b.domain; first = b.first; simple = simple })
with_objects cs b s size simple e numbered plain is = record {
  size = omega (arith, e, is.size, long, length-append cs (choices_of (Objects b)));
  within = omega (arith, e);
  fits = omega (arith, e, numbered);
  values = λ i t ge h. value i ge h;
  objects = λ t i h. here t i h (cases_lt i (length cs));
}
  where
    long : length (choices_of (Objects b)) ≡ b.count
    long = choices_long (Objects b)

    value : (i : ℕ) → s.size ≤ i → i < length (cs ++ choices_of (Objects b)) → (get_or (cs ++ choices_of (Objects b)) i no_choice).value ≡ Reference (b.first + (i - s.size))
    value i ge h =
        let k = i - length cs in
        let within : k < b.count = omega (arith, is.size, ge, h, long, length-append cs (choices_of (Objects b))) in
        let same : k ≡ i - s.size = omega (arith, is.size) in
        ap (λ (c : Choice). c.value) (get_or-append_right cs (choices_of (Objects b)) (length cs) i no_choice refl (omega (arith, is.size, ge)))
        ∙ (ap (λ (c : Choice). c.value) (object_at b k within) ∙ ap (λ (n : ℕ). Reference (b.first + n)) same)

    here : (t : simple ≡ true) (i : ℕ) → i < length (cs ++ choices_of (Objects b)) → (i < length cs) ⊎ (length cs ≤ i) → (get_or (cs ++ choices_of (Objects b)) i no_choice).object ≡ object_from s.size b.domain i
    here t i h (inl lt) =
        ap (λ (c : Choice). c.object) (get_or_append_left cs (choices_of (Objects b)) no_choice i lt)
        ∙ (no_objects cs s is (plain t).0 (plain t).1 i lt ∙ sym (before_from s.size b.domain i (omega (arith, is.size))))
    here t i h (inr ge) =
        let k = i - length cs in
        let within : k < b.count = omega (arith, long, length-append cs (choices_of (Objects b))) in
        let same : k ≡ i - s.size = omega (arith, is.size) in
        ap (λ (c : Choice). c.object) (get_or-append_right cs (choices_of (Objects b)) (length cs) i no_choice refl ge)
        ∙ (ap (λ (c : Choice). c.object) (object_at b k within)
        ∙ (ap (λ (n : ℕ). Some (record { domain = b.domain; number = n })) same ∙ sym (behind_from s.size b.domain i (omega (arith, is.size)))))

-- ---- rows

-- from an index on, where the objects begin behind what follows, or no later
plain_from : (from domain i n : ℕ) → i + n < from → object_from from domain (i + n) ≡ further_on (object_from from domain i) n
plain_from from domain i n h = before_from from domain (i + n) h ∙ sym (ap (λ (x : Option DomainObject). further_on x n) (before_from from domain i (omega (arith, h))))

objects_on : (from domain i n : ℕ) → from ≤ i → object_from from domain (i + n) ≡ further_on (object_from from domain i) n
objects_on from domain i n h =
    let same : i + n - from ≡ i - from + n = omega (arith, h) in
    behind_from from domain (i + n) (omega (arith, h))
    ∙ (ap (λ (k : ℕ). Some (record { domain = domain; number = k })) same
    ∙ sym (ap (λ (x : Option DomainObject). further_on x n) (behind_from from domain i h)))

pub alike : (cs : List Choice) (s : Shape) (i count : ℕ) → IsShape cs s → s.simple ≡ true → i + count ≤ s.size → ((n : ℕ) → n < count → object_from s.from s.domain (i + n) ≡ further_on (object_from s.from s.domain i) n) → IsAlike cs i count
alike cs s i count is t long same = record {
  within = omega (arith, is.size, long);
  each = λ n h. is.objects t (i + n) (omega (arith, is.size, long, h)) ∙ (same n h ∙ sym (ap (λ (x : Option DomainObject). further_on x n) (is.objects t i (omega (arith, is.size, long, h)))));
}

pub alike_before : (cs : List Choice) (s : Shape) (i : ℕ) → IsShape cs s → s.simple ≡ true → i < s.from → IsAlike cs i (s.from - i)
alike_before cs s i is t h = alike cs s i (s.from - i) is t (omega (arith, h, is.within)) (λ n l. plain_from s.from s.domain i n (omega (arith, h, l)))

pub alike_on : (cs : List Choice) (s : Shape) (i : ℕ) → IsShape cs s → s.simple ≡ true → s.from ≤ i → i < s.size → IsAlike cs i (s.size - i)
alike_on cs s i is t h l = alike cs s i (s.size - i) is t (omega (arith, l)) (λ n m. objects_on s.from s.domain i n h)

pub alike_alone : (cs : List Choice) (s : Shape) (i : ℕ) → IsShape cs s → i < s.size → IsAlike cs i 1
alike_alone cs s i is h = record { within = omega (arith, is.size, h); each = λ n l. alone n (omega (arith, l)) (get_or cs i no_choice).object refl }
  where
    alone : (n : ℕ) → n ≡ 0 → (x : Option DomainObject) → (get_or cs i no_choice).object ≡ x → (get_or cs (i + n) no_choice).object ≡ further_on (get_or cs i no_choice).object n
    alone n z None e =
        let at : i + n ≡ i = omega (arith, z) in
        ap (λ (k : ℕ). (get_or cs k no_choice).object) at ∙ (e ∙ sym (ap (λ (y : Option DomainObject). further_on y n) e))
    alone n z (Some o) e =
        let at : i + n ≡ i = omega (arith, z) in
        let same : o.number ≡ o.number + n = omega (arith, z) in
        ap (λ (k : ℕ). (get_or cs k no_choice).object) at ∙ (e ∙ (ap (λ (k : ℕ). Some (record { domain = o.domain; number = k })) same ∙ sym (ap (λ (y : Option DomainObject). further_on y n) e)))

-- ---- the shapes of slots, one after another

pub each_push : (P : ℕ → Shape → Type 0) (xs : List Shape) (n : ℕ) (x : Shape) → length xs ≡ n → ((k : ℕ) (s : Shape) → k < n → P k (get_or xs k s)) → P n x → (k : ℕ) (s : Shape) → k < n + 1 → P k (get_or (xs ++ x ∷ []) k s)
each_push P xs n x long all last k s h = here (cases_lt k n)
  where
    at_end : get_or (xs ++ x ∷ []) n s ≡ x
    at_end =
        let none : n - length xs ≡ zero = omega (arith, long) in
        get_or-append_right xs (x ∷ []) (length xs) n s refl (omega (arith, long)) ∙ ap (λ (j : ℕ). get_or (x ∷ []) j s) none

    here : (k < n) ⊎ (n ≤ k) → P k (get_or (xs ++ x ∷ []) k s)
    here (inl lt) = subst (P k) (sym (get_or_append_left xs (x ∷ []) s k (omega (arith, long, lt)))) (all k s lt)
    here (inr ge) =
        let at : n ≡ k = omega (arith, ge, h) in
        subst (λ (j : ℕ). P j (get_or (xs ++ x ∷ []) j s)) at (subst (P n) (sym at_end) last)
