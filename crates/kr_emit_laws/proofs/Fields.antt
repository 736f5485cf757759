-- Fields by their names: no two on a line of classes have one name, so that a name leads to the field, and to its position.
use Rattle.std.proofs.Common.{◌≡◌, ℕ, zero, suc, ◌+◌, ◌<◌, ◌≤◌, ◌⊎◌, inl, inr, Bool, true, false, ◌||◌, List, [], ◌∷◌, ◌++◌, length, get_or, Option, Some, None, refl, sym, ap, ◌∙◌, arith}
use Rattle.std.specs.Prelude.{map, flat_map, reverse, bytes_eq, drop, option_to_list, if◌then◌else◌}
use Rattle.std.proofs.lemmas.Bool.{cases_lt}
use Rattle.std.proofs.lemmas.List.{append-nil, length-append, reverse-append}
use Rattle.std.proofs.lemmas.List.Concat.{flat_map-append}
use Rattle.kr_base.proofs.ListLemmas.{append_is_nil}
use Rattle.kr_base.specs.declared.place.Place.{Place}
use Rattle.kr_classes_table.specs.Rules.{break_if, is_name_among, repeated}
use Rattle.kr_classes_table.specs.Table.{Class, Field, Table, ancestors, class_at, fields_of, is_instance, line_of, own_fields}
use Rattle.kr_classes_table.proofs.Tables.{unbroken as not_broken}
use Rattle.kr_classes_table.specs.Ancestors.{IsWhole}
use Rattle.kr_mean.specs.Program.{Program, position_from}
use Rattle.kr_laws_never_stuck.proofs.Chains.{Chain, chain}
use Rattle.kr_laws_never_stuck.proofs.Declared.{equal_names, names_equal}
use Rattle.kr_laws_never_stuck.proofs.Unbroken.{Unbroken}
use Rattle.kr_emit_laws.proofs.Creations.{declared_on}

-- how many have a name
abbrev tally : Bool → ℕ
tally true = 1
tally false = 0

abbrev times : List ℕ → List Field → ℕ
times n [] = 0
times n (f ∷ fs) = tally (bytes_eq f.name n) + times n fs

times_both : (n : List ℕ) (xs ys : List Field) → times n (xs ++ ys) ≡ times n xs + times n ys
times_both n [] ys = omega arith
times_both n (x ∷ xs) ys = omega (arith, times_both n xs ys)

times_instances : (n : List ℕ) (fs : List Field) → times n (flat_map is_instance fs) ≤ times n fs
times_instances n [] = omega arith
times_instances n (f ∷ fs) = go f.is_static (times_instances n fs)
  where
    go : (b : Bool) → times n (flat_map is_instance fs) ≤ times n fs → times n ((if b then [] else f ∷ []) ++ flat_map is_instance fs) ≤ tally (bytes_eq f.name n) + times n fs
    go true r = omega (arith, r)
    go false r = omega (arith, r)

flat_reversed : {A B : Type 0} (f : A → List B) (x : A) (xs : List A) → flat_map f (reverse (x ∷ xs)) ≡ flat_map f (reverse xs) ++ f x
flat_reversed f x xs = ap (flat_map f) (reverse-append (x ∷ []) xs) ∙ (flat_map-append f (reverse xs) (x ∷ []) ∙ ap (λ (l : List _). flat_map f (reverse xs) ++ l) (append-nil (f x)))

times_reversed : (n : List ℕ) (f : ℕ → List Field) (cs : List ℕ) → times n (flat_map f (reverse cs)) ≡ times n (flat_map f cs)
times_reversed n f [] = refl
times_reversed n f (c ∷ cs) = ap (times n) (flat_reversed f c cs) ∙ omega (arith, times_both n (flat_map f (reverse cs)) (f c), times_both n (f c) (flat_map f cs), times_reversed n f cs)

-- ---- names that aren't repeated

abbrev named_at : Field → List ℕ × Place
named_at f = (f.name, f.place)

or_left : (a b : Bool) → a ≡ true → (a || b) ≡ true
or_left true b e = refl
or_left false b e = absurd (cc (e))

or_right : (a b : Bool) → b ≡ true → (a || b) ≡ true
or_right true b e = refl
or_right false b e = e

none_among : (seen : List (List ℕ)) (fs : List Field) (n : List ℕ) → repeated 4 seen (map named_at fs) ≡ [] → is_name_among n seen ≡ true → times n fs ≡ 0
none_among seen [] n e i = refl
none_among seen (x ∷ fs) n e i =
    let parts = append_is_nil (break_if (is_name_among x.name seen) 4 x.place) (repeated 4 (x.name ∷ seen) (map named_at fs)) e in
    let new : is_name_among x.name seen ≡ false = not_broken (is_name_among x.name seen) 4 x.place parts.0 in
    go (bytes_eq x.name n) refl new (none_among (x.name ∷ seen) fs n parts.1 (or_right (bytes_eq n x.name) (is_name_among n seen) i))
  where
    go : (b : Bool) → bytes_eq x.name n ≡ b → is_name_among x.name seen ≡ false → times n fs ≡ 0 → tally b + times n fs ≡ 0
    go true q new r = absurd (cc (ap (λ (m : List ℕ). is_name_among m seen) (names_equal x.name n q), i, new))
    go false q new r = omega (arith, r)

once_among : (seen : List (List ℕ)) (fs : List Field) (n : List ℕ) → repeated 4 seen (map named_at fs) ≡ [] → times n fs ≤ 1
once_among seen [] n e = omega arith
once_among seen (x ∷ fs) n e =
    let rest : repeated 4 (x.name ∷ seen) (map named_at fs) ≡ [] = (append_is_nil (break_if (is_name_among x.name seen) 4 x.place) (repeated 4 (x.name ∷ seen) (map named_at fs)) e).1 in
    go (bytes_eq x.name n) refl rest (once_among (x.name ∷ seen) fs n rest)
  where
    go : (b : Bool) → bytes_eq x.name n ≡ b → repeated 4 (x.name ∷ seen) (map named_at fs) ≡ [] → times n fs ≤ 1 → tally b + times n fs ≤ 1
    go true q rest r = omega (arith, none_among (x.name ∷ seen) fs n rest (or_left (bytes_eq n x.name) (is_name_among n seen) (equal_names n x.name (sym (names_equal x.name n q)))))
    go false q rest r = omega (arith, r)

some_named : (n : List ℕ) (fs : List Field) → 1 ≤ times n fs → is_name_among n (map (λ (f : Field). f.name) fs) ≡ true
some_named n [] h = absurd (omega (arith, h))
some_named n (x ∷ fs) h = go (bytes_eq x.name n) refl h (λ i. some_named n fs i)
  where
    go : (b : Bool) → bytes_eq x.name n ≡ b → 1 ≤ tally b + times n fs → (1 ≤ times n fs → is_name_among n (map (λ (f : Field). f.name) fs) ≡ true) → (bytes_eq n x.name || is_name_among n (map (λ (f : Field). f.name) fs)) ≡ true
    go true q h r = or_left (bytes_eq n x.name) (is_name_among n (map (λ (f : Field). f.name) fs)) (equal_names n x.name (sym (names_equal x.name n q)))
    go false q h r = or_right (bytes_eq n x.name) (is_name_among n (map (λ (f : Field). f.name) fs)) (r (omega (arith, h)))

module _ (t : Table) (rules : Unbroken t) (whole : IsWhole t) where
  once_on : (cs : List ℕ) → Chain t rules whole cs → (n : List ℕ) → times n (flat_map (own_fields t) cs) ≤ 1
  once_on [] h n = omega arith
  once_on (c ∷ cs) h n = go (class_at t.classes c) refl (once_on cs h.1 n)
    where
      inherited : List (List ℕ)
      inherited = map (λ (f : Field). f.name) (flat_map (own_fields t) (ancestors t c))

      free : (d : Class) → class_at t.classes c ≡ Some d → repeated 4 (map (λ (f : Field). f.name) (flat_map (own_fields t) (ancestors t c))) (map named_at d.fields) ≡ []
      free d q = (append_is_nil (repeated 4 (map (λ (f : Field). f.name) (flat_map (own_fields t) (ancestors t c))) (map named_at d.fields)) (flat_map (λ k. break_if true 4 k.place) (drop 1 d.constructors)) (rules.C4 c d q)).0

      by : (d : Class) → class_at t.classes c ≡ Some d → times n (flat_map (own_fields t) cs) ≤ 1 → (times n (flat_map (own_fields t) cs) < 1) ⊎ (1 ≤ times n (flat_map (own_fields t) cs)) → times n d.fields + times n (flat_map (own_fields t) cs) ≤ 1
      by d q r (inl less) = omega (arith, once_among (map (λ (f : Field). f.name) (flat_map (own_fields t) (ancestors t c))) d.fields n (free d q), less)
      by d q r (inr more) =
          let among : is_name_among n (map (λ (f : Field). f.name) (flat_map (own_fields t) (ancestors t c))) ≡ true =
          ap (λ (l : List ℕ). is_name_among n (map (λ (f : Field). f.name) (flat_map (own_fields t) l))) (sym h.0) ∙ some_named n (flat_map (own_fields t) cs) more in
          omega (arith, r, none_among (map (λ (f : Field). f.name) (flat_map (own_fields t) (ancestors t c))) d.fields n (free d q) among)

      go : (x : Option Class) → class_at t.classes c ≡ x → times n (flat_map (own_fields t) cs) ≤ 1 → times n (own_fields t c ++ flat_map (own_fields t) cs) ≤ 1
      go None q r = omega (arith, times_both n (own_fields t c) (flat_map (own_fields t) cs), ap (λ (o : Option Class). times n (flat_map (λ d. d.fields) (option_to_list o))) q, r)
      go (Some d) q r =
          let own : times n (own_fields t c) ≡ times n d.fields = ap (λ (o : Option Class). times n (flat_map (λ d. d.fields) (option_to_list o))) q ∙ ap (times n) (append-nil d.fields) in
          omega (arith, times_both n (own_fields t c) (flat_map (own_fields t) cs), own, by d q r (cases_lt (times n (flat_map (own_fields t) cs)) 1))

  once_of : (c : ℕ) (n : List ℕ) → times n (fields_of t c) ≤ 1
  once_of c n = omega (arith, times_instances n (flat_map (own_fields t) (reverse (line_of t c))), times_reversed n (own_fields t) (line_of t c), once_on (line_of t c) (chain t rules whole c) n)

  some_at : (n : List ℕ) (fs : List Field) (j : ℕ) (d : Field) → j < length fs → bytes_eq (get_or fs j d).name n ≡ true → 1 ≤ times n fs
  some_at n [] j d h e = absurd (omega (arith, h))
  some_at n (f ∷ fs) zero d h e = omega (arith, ap tally e)
  some_at n (f ∷ fs) (suc j) d h e = omega (arith, some_at n fs j d (omega (arith, h)) e)

  position_here : (a : ℕ) (n : List ℕ) (fs : List Field) (j : ℕ) (d : Field) → times n fs ≤ 1 → j < length fs → bytes_eq (get_or fs j d).name n ≡ true → position_from a fs n ≡ Some (a + j)
  position_here a n [] j d few h e = absurd (omega (arith, h))
  position_here a n (f ∷ fs) zero d few h e = let z : a ≡ a + 0 = omega arith in ap (λ (b : Bool). let o : Option ℕ = if b then Some a else position_from (a + 1) fs n in o) e ∙ ap (λ (k : ℕ). Some k) z
  position_here a n (f ∷ fs) (suc j) d few h e = go (bytes_eq f.name n) refl few (some_at n fs j d (omega (arith, h)) e) (λ i. position_here (a + 1) n fs j d i (omega (arith, h)) e)
    where
      go : (b : Bool) → bytes_eq f.name n ≡ b → tally b + times n fs ≤ 1 → 1 ≤ times n fs → (times n fs ≤ 1 → position_from (a + 1) fs n ≡ Some (a + 1 + j)) → (if b then Some a else position_from (a + 1) fs n) ≡ Some (a + suc j)
      go true q few some r = absurd (omega (arith, few, some))
      go false q few some r = let z : a + 1 + j ≡ a + suc j = omega arith in r (omega (arith, few)) ∙ ap (λ (k : ℕ). Some k) z

  -- the position of an object's field by its name
  pub position_is : (c j : ℕ) (d : Field) → j < length (fields_of t c) → position_from 0 (fields_of t c) (get_or (fields_of t c) j d).name ≡ Some j
  position_is c j d h = let z : 0 + j ≡ j = omega arith in position_here 0 (get_or (fields_of t c) j d).name (fields_of t c) j d (once_of c (get_or (fields_of t c) j d).name) h (equal_names (get_or (fields_of t c) j d).name (get_or (fields_of t c) j d).name refl) ∙ ap (λ (k : ℕ). Some k) z

-- ---- how many fields a line declares

instances_both : (xs ys : List Field) → length (flat_map is_instance (xs ++ ys)) ≡ length (flat_map is_instance xs) + length (flat_map is_instance ys)
instances_both xs ys = ap (λ (l : List Field). length l) (flat_map-append is_instance xs ys) ∙ length-append (flat_map is_instance xs) (flat_map is_instance ys)

declared_reversed : (program : Program) (cs : List ℕ) → declared_on program cs ≡ length (flat_map is_instance (flat_map (own_fields program.table) (reverse cs)))
declared_reversed program [] = refl
declared_reversed program (c ∷ cs) =
    omega (arith, declared_reversed program cs, instances_both (flat_map (own_fields program.table) (reverse cs)) (own_fields program.table c), ap (λ (l : List Field). length (flat_map is_instance l)) (flat_reversed (own_fields program.table) c cs))

pub declared_all : (program : Program) (c : ℕ) → declared_on program (line_of program.table c) ≡ length (fields_of program.table c)
declared_all program c = declared_reversed program (line_of program.table c)
