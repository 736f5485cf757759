-- Fields and methods of classes: the class that declares them, and the position of a field.
use Rattle.std.proofs.Common.{◌≡◌, refl, sym, ap, ◌∙◌, subst, inl, inr, ◌⊎◌, ℕ, zero, suc, ◌+◌, ◌<◌, Bool, true, false, ◌||◌, List, [], ◌∷◌, ◌++◌, length, get_or, arith}
use Rattle.std.specs.Prelude.{Option, Some, None, map, flat_map, reverse, find, nat_eq, bytes_eq, option_to_list, if◌then◌else◌}
use Rattle.std.proofs.lemmas.Bool.{eq-eqb, eqb-true, or_cases, or_right, or_left}
use Rattle.std.proofs.lemmas.List.{reverse-append}
use Rattle.std.proofs.lemmas.Slice.Eq.{bytes_eq-Decides}
use Rattle.kr_base.specs.declared.place.Place.{Place}
use Rattle.kr_ast.specs.Tree as trees
use Rattle.kr_ast.specs.Tree.{Tree}
use Rattle.kr_classes_table.specs.Types.{JavaType, VoidType}
use Rattle.kr_classes_table.specs.Table.{Table, Class, Field, Method, Heading, items, table_of, headings_of, classes_from, class_of, class_at, declared_in, fields_in, method_with, methods_in, own_fields, own_methods, is_instance, fields_of, field_named, ancestors, line_of, is_among, is_below}
use Rattle.kr_classes_table.specs.Rules.{break_if, is_name_among, repeated}
use Rattle.kr_mean.specs.Purity.{IsOneOf}
use Rattle.kr_laws_never_stuck.proofs.Unbroken.{Unbroken}
use Rattle.kr_classes_table.specs.Ancestors.{IsWhole}
use Rattle.kr_mean.specs.Program.{Program, position_from}
use Rattle.kr_laws_safety.specs.Steps.{IsFieldAt, HasField}
use Rattle.kr_laws_never_stuck.specs.ClassRules.{IsDeclared}
use Rattle.kr_laws_never_stuck.proofs.Chains.{Chain, chain, onward}
use Rattle.kr_laws_runs.proofs.Overriders.{one_front, one_back}
use Rattle.kr_base.proofs.ListLemmas.{append_is_nil}
use Rattle.kr_classes_table.proofs.Tables.{unbroken}

-- ---- membership

pub one_split : {A : Type 0} (x : A) (xs ys : List A) → IsOneOf x (xs ++ ys) → IsOneOf x xs ⊎ IsOneOf x ys
one_split x [] ys h = inr h
one_split x (z ∷ xs) ys (inl e) = inl (inl e)
one_split x (z ∷ xs) ys (inr h) = go (one_split x xs ys h)
  where
    go : IsOneOf x xs ⊎ IsOneOf x ys → IsOneOf x (z ∷ xs) ⊎ IsOneOf x ys
    go (inl i) = inl (inr i)
    go (inr i) = inr i

-- one of what is made of the numbers of a list
pub one_part : {A : Type 0} (x : A) (f : ℕ → List A) (cs : List ℕ) → IsOneOf x (flat_map f cs) → (c : ℕ) × (is_among c cs ≡ true) × IsOneOf x (f c)
one_part x f [] h = absurd h
one_part x f (c ∷ cs) h = go (one_split x (f c) (flat_map f cs) h) (one_part x f cs)
  where
    go : IsOneOf x (f c) ⊎ IsOneOf x (flat_map f cs) → (IsOneOf x (flat_map f cs) → (d : ℕ) × (is_among d cs ≡ true) × IsOneOf x (f d)) → (d : ℕ) × (is_among d (c ∷ cs) ≡ true) × IsOneOf x (f d)
    go (inl i) r = (c, or_left (nat_eq c c) (is_among c cs) (eq-eqb c c refl), i)
    go (inr i) r = let d = r i in (d.0, or_right (nat_eq d.0 c) (is_among d.0 cs) d.1, d.2)

pub one_whole : {A : Type 0} (x : A) (f : ℕ → List A) (cs : List ℕ) (c : ℕ) → is_among c cs ≡ true → IsOneOf x (f c) → IsOneOf x (flat_map f cs)
one_whole x f [] c h i = absurd (cc (h))
one_whole x f (d ∷ cs) c h i = go (or_cases (nat_eq c d) (is_among c cs) h) (λ k. one_whole x f cs c k i)
  where
    go : (nat_eq c d ≡ true) ⊎ (is_among c cs ≡ true) → (is_among c cs ≡ true → IsOneOf x (flat_map f cs)) → IsOneOf x (f d ++ flat_map f cs)
    go (inl e) r = one_front x (f d) (flat_map f cs) (subst (λ (k : ℕ). IsOneOf x (f k)) (eqb-true c d e) i)
    go (inr e) r = one_back x (f d) (flat_map f cs) (r e)

among_back : (c : ℕ) (xs : List ℕ) (y : ℕ) → is_among c xs ≡ true → is_among c (xs ++ y ∷ []) ≡ true
among_back c [] y h = absurd (cc (h))
among_back c (x ∷ xs) y h = go (or_cases (nat_eq c x) (is_among c xs) h) (among_back c xs y)
  where
    go : (nat_eq c x ≡ true) ⊎ (is_among c xs ≡ true) → (is_among c xs ≡ true → is_among c (xs ++ y ∷ []) ≡ true) → is_among c (x ∷ xs ++ y ∷ []) ≡ true
    go (inl e) r = or_left (nat_eq c x) (is_among c (xs ++ y ∷ [])) e
    go (inr e) r = or_right (nat_eq c x) (is_among c (xs ++ y ∷ [])) (r e)

among_last : (c : ℕ) (xs : List ℕ) (y : ℕ) → nat_eq c y ≡ true → is_among c (xs ++ y ∷ []) ≡ true
among_last c [] y h = or_left (nat_eq c y) false h
among_last c (x ∷ xs) y h = or_right (nat_eq c x) (is_among c (xs ++ y ∷ [])) (among_last c xs y h)

among_split : (c : ℕ) (xs : List ℕ) (y : ℕ) → is_among c (xs ++ y ∷ []) ≡ true → is_among c (y ∷ xs) ≡ true
among_split c [] y h = h
among_split c (x ∷ xs) y h = go (or_cases (nat_eq c x) (is_among c (xs ++ y ∷ [])) h) (among_split c xs y)
  where
    later : (nat_eq c y ≡ true) ⊎ (is_among c xs ≡ true) → is_among c (y ∷ x ∷ xs) ≡ true
    later (inl e) = or_left (nat_eq c y) (is_among c (x ∷ xs)) e
    later (inr e) = or_right (nat_eq c y) (is_among c (x ∷ xs)) (or_right (nat_eq c x) (is_among c xs) e)

    go : (nat_eq c x ≡ true) ⊎ (is_among c (xs ++ y ∷ []) ≡ true) → (is_among c (xs ++ y ∷ []) ≡ true → is_among c (y ∷ xs) ≡ true) → is_among c (y ∷ x ∷ xs) ≡ true
    go (inl e) r = or_right (nat_eq c y) (is_among c (x ∷ xs)) (or_left (nat_eq c x) (is_among c xs) e)
    go (inr e) r = later (or_cases (nat_eq c y) (is_among c xs) (r e))

turned : (y : ℕ) (xs : List ℕ) → reverse (y ∷ xs) ≡ reverse xs ++ y ∷ []
turned y xs = reverse-append (y ∷ []) xs

pub among_reverse : (c : ℕ) (xs : List ℕ) → is_among c xs ≡ true → is_among c (reverse xs) ≡ true
among_reverse c [] h = absurd (cc (h))
among_reverse c (x ∷ xs) h = ap (is_among c) (turned x xs) ∙ go (or_cases (nat_eq c x) (is_among c xs) h) (among_reverse c xs)
  where
    go : (nat_eq c x ≡ true) ⊎ (is_among c xs ≡ true) → (is_among c xs ≡ true → is_among c (reverse xs) ≡ true) → is_among c (reverse xs ++ x ∷ []) ≡ true
    go (inl e) r = among_last c (reverse xs) x e
    go (inr e) r = among_back c (reverse xs) x (r e)

pub among_turned : (c : ℕ) (xs : List ℕ) → is_among c (reverse xs) ≡ true → is_among c xs ≡ true
among_turned c [] h = h
among_turned c (x ∷ xs) h = go (or_cases (nat_eq c x) (is_among c (reverse xs)) (among_split c (reverse xs) x (ap (is_among c) (sym (turned x xs)) ∙ h))) (among_turned c xs)
  where
    go : (nat_eq c x ≡ true) ⊎ (is_among c (reverse xs) ≡ true) → (is_among c (reverse xs) ≡ true → is_among c xs ≡ true) → is_among c (x ∷ xs) ≡ true
    go (inl e) r = or_left (nat_eq c x) (is_among c xs) e
    go (inr e) r = or_right (nat_eq c x) (is_among c xs) (r e)

-- an element that is found is one of those, and passes the test
pub found_one : {A : Type 0} (test : A → Bool) (x : A) (xs : List A) → find test xs ≡ Some x → IsOneOf x xs × (test x ≡ true)
found_one test x [] e = absurd (cc (e))
found_one {A} test x (y ∷ xs) e = go (test y) refl e (found_one test x xs)
  where
    inside : Some y ≡ Some x → y ≡ x
    inside e = ap (λ (o : Option A). elim o as (λ z. A) [ Some z ↦ z | None ↦ y ]) e

    go : (b : Bool) → test y ≡ b → (if b then Some y else find test xs) ≡ Some x → (find test xs ≡ Some x → IsOneOf x xs × (test x ≡ true)) → IsOneOf x (y ∷ xs) × (test x ≡ true)
    go true q e r = (inl (inside e), ap test (sym (inside e)) ∙ q)
    go false q e r = let h = r e in (inr h.0, h.1)

-- ---- who declares

declared_by : (hs : List Heading) (c : ℕ) (st fi : Bool) (type : Tree) (f : Field) (ds : List Tree) → IsOneOf f (flat_map (declared_in hs c st fi type) ds) → f.class ≡ c
declared_by hs c st fi type f [] h = absurd h
declared_by hs c st fi type f (trees.Declarator p n e ∷ ds) (inl i) = ap (λ (g : Field). g.class) (sym i)
declared_by hs c st fi type f (trees.Declarator p n e ∷ ds) (inr i) = declared_by hs c st fi type f ds i
declared_by hs c st fi type f (_ ∷ ds) h = declared_by hs c st fi type f ds h

field_by : (hs : List Heading) (c : ℕ) (f : Field) (ms : List Tree) → IsOneOf f (flat_map (fields_in hs c) ms) → f.class ≡ c
field_by hs c f [] h = absurd h
field_by hs c f (m ∷ ms) h = go (one_split f (fields_in hs c m) (flat_map (fields_in hs c) ms) h) (field_by hs c f ms)
  where
    here : (m : Tree) → IsOneOf f (fields_in hs c m) → f.class ≡ c
    here (trees.Field p st fi type ds) i = declared_by hs c st fi type f (items ds) i
    here _ i = absurd i

    go : IsOneOf f (fields_in hs c m) ⊎ IsOneOf f (flat_map (fields_in hs c) ms) → (IsOneOf f (flat_map (fields_in hs c) ms) → f.class ≡ c) → f.class ≡ c
    go (inl i) r = here m i
    go (inr i) r = r i

method_by : (hs : List Heading) (c : ℕ) (f : Method) (ms : List Tree) → IsOneOf f (flat_map (methods_in hs c) ms) → f.class ≡ c
method_by hs c f [] h = absurd h
method_by hs c f (m ∷ ms) h = go (one_split f (methods_in hs c m) (flat_map (methods_in hs c) ms) h) (method_by hs c f ms)
  where
    signed : (p : Place) (st : Bool) (n : List ℕ) (b s : Tree) → IsOneOf f (method_with hs c p st n b s) → f.class ≡ c
    signed p st n b (trees.Signature q r ps cs) (inl e) = ap (λ (g : Method). g.class) (sym e)
    signed p st n b (trees.Signature q r ps cs) (inr i) = absurd i
    signed p st n b _ i = absurd i

    here : (m : Tree) → IsOneOf f (methods_in hs c m) → f.class ≡ c
    here (trees.Method p st n s b) i = signed p st n b s i
    here _ i = absurd i

    go : IsOneOf f (methods_in hs c m) ⊎ IsOneOf f (flat_map (methods_in hs c) ms) → (IsOneOf f (flat_map (methods_in hs c) ms) → f.class ≡ c) → f.class ≡ c
    go (inl i) r = here m i
    go (inr i) r = r i

pub no_more : {A : Type 0} (x : A) (xs : List A) → IsOneOf x (xs ++ []) → IsOneOf x xs
no_more x xs h = go (one_split x xs [] h)
  where
    go : IsOneOf x xs ⊎ ⊥ → IsOneOf x xs
    go (inl i) = i
    go (inr i) = absurd i

field_at : (all : List Heading) (k : ℕ) (hs : List Heading) (c : ℕ) (f : Field) → IsOneOf f (flat_map (λ d. d.fields) (option_to_list (class_at (classes_from all k hs) c))) → f.class ≡ k + c
field_at all k [] c f h = absurd h
field_at all k (x ∷ hs) zero f h = let e : k ≡ k + 0 = omega arith in field_by all k f x.members (no_more f (class_of all k x).fields h) ∙ e
field_at all k (x ∷ hs) (suc c) f h = let e : k + 1 + c ≡ k + suc c = omega arith in field_at all (k + 1) hs c f h ∙ e

method_at : (all : List Heading) (k : ℕ) (hs : List Heading) (c : ℕ) (f : Method) → IsOneOf f (flat_map (λ d. d.methods) (option_to_list (class_at (classes_from all k hs) c))) → f.class ≡ k + c
method_at all k [] c f h = absurd h
method_at all k (x ∷ hs) zero f h = let e : k ≡ k + 0 = omega arith in method_by all k f x.members (no_more f (class_of all k x).methods h) ∙ e
method_at all k (x ∷ hs) (suc c) f h = let e : k + 1 + c ≡ k + suc c = omega arith in method_at all (k + 1) hs c f h ∙ e

-- a member that a class declares has its number
pub own_field : (files : List Tree) (c : ℕ) (f : Field) → IsOneOf f (own_fields (table_of files) c) → f.class ≡ c
unfolding table_of
own_field files c f h = let hs = headings_of files in let e : 0 + c ≡ c = omega arith in field_at hs 0 hs c f h ∙ e

pub own_method : (files : List Tree) (c : ℕ) (m : Method) → IsOneOf m (own_methods (table_of files) c) → m.class ≡ c
unfolding table_of
own_method files c m h = let hs = headings_of files in let e : 0 + c ≡ c = omega arith in method_at hs 0 hs c m h ∙ e

-- ---- names

pub names_equal : (m n : List ℕ) → bytes_eq m n ≡ true → m ≡ n
names_equal m n e = (bytes_eq-Decides m n).0 e

pub equal_names : (m n : List ℕ) → m ≡ n → bytes_eq m n ≡ true
equal_names m n e = (bytes_eq-Decides m n).1 e

abbrev named_at : Field → List ℕ × Place
named_at f = (f.name, f.place)

name_among : (n : List ℕ) (g : Field) (gs : List Field) → IsOneOf g gs → g.name ≡ n → is_name_among n (map (λ f. f.name) gs) ≡ true
name_among n g [] h e = absurd h
name_among n g (x ∷ gs) (inl i) e = or_left (bytes_eq n x.name) _ (equal_names n x.name (sym e ∙ ap (λ (f : Field). f.name) (sym i)))
name_among n g (x ∷ gs) (inr i) e = or_right (bytes_eq n x.name) _ (name_among n g gs i e)

-- a name that isn't repeated isn't one of those before it
unseen : (r : ℕ) (seen : List (List ℕ)) (fs : List Field) (f : Field) → repeated r seen (map named_at fs) ≡ [] → IsOneOf f fs → is_name_among f.name seen ≡ false
unseen r seen [] f e h = absurd h
unseen r seen (x ∷ fs) f e (inl i) = ap (λ (g : Field). is_name_among g.name seen) (sym i) ∙ unbroken (is_name_among x.name seen) r x.place (append_is_nil (break_if (is_name_among x.name seen) r x.place) (repeated r (x.name ∷ seen) (map named_at fs)) e).0
unseen r seen (x ∷ fs) f e (inr i) = later (bytes_eq f.name x.name) (is_name_among f.name seen) (unseen r (x.name ∷ seen) fs f (append_is_nil (break_if (is_name_among x.name seen) r x.place) (repeated r (x.name ∷ seen) (map named_at fs)) e).1 i)
  where
    later : (a b : Bool) → (a || b) ≡ false → b ≡ false
    later true b e = absurd (cc (e))
    later false b e = e

same_own : (r : ℕ) (seen : List (List ℕ)) (fs : List Field) (f g : Field) → repeated r seen (map named_at fs) ≡ [] → IsOneOf f fs → IsOneOf g fs → g.name ≡ f.name → g ≡ f
same_own r seen [] f g e h i q = absurd h
same_own r seen (x ∷ fs) f g e (inl h) (inl i) q = sym i ∙ h
same_own r seen (x ∷ fs) f g e (inr h) (inr i) q = same_own r (x.name ∷ seen) fs f g (append_is_nil (break_if (is_name_among x.name seen) r x.place) (repeated r (x.name ∷ seen) (map named_at fs)) e).1 h i q
same_own r seen (x ∷ fs) f g e (inl h) (inr i) q =
    absurd (cc (unseen r (x.name ∷ seen) fs g (append_is_nil (break_if (is_name_among x.name seen) r x.place) (repeated r (x.name ∷ seen) (map named_at fs)) e).1 i, or_left (bytes_eq g.name x.name) (is_name_among g.name seen) (equal_names g.name x.name (q ∙ ap (λ (z : Field). z.name) (sym h)))))
same_own r seen (x ∷ fs) f g e (inr h) (inl i) q =
    absurd (cc (unseen r (x.name ∷ seen) fs f (append_is_nil (break_if (is_name_among x.name seen) r x.place) (repeated r (x.name ∷ seen) (map named_at fs)) e).1 h, or_left (bytes_eq f.name x.name) (is_name_among f.name seen) (equal_names f.name x.name (sym q ∙ ap (λ (z : Field). z.name) (sym i)))))

module _ (t : Table) (rules : Unbroken t) where
  -- a class that declares a field is one of the table
  declares_some : (c : ℕ) (f : Field) → IsOneOf f (own_fields t c) → (d : Class) × (class_at t.classes c ≡ Some d) × IsOneOf f d.fields × (own_fields t c ≡ d.fields ++ [])
  declares_some c f h = go (class_at t.classes c) refl h
    where
      go : (x : Option Class) → class_at t.classes c ≡ x → IsOneOf f (flat_map (λ d. d.fields) (option_to_list x)) → (d : Class) × (class_at t.classes c ≡ Some d) × IsOneOf f d.fields × (own_fields t c ≡ d.fields ++ [])
      go None e h = absurd h
      go (Some d) e h = (d, e, no_more f d.fields h, ap (λ (x : Option Class). flat_map (λ d. d.fields) (option_to_list x)) e)

  -- no member that a class declares has the name of an inherited field
  apart : (c : ℕ) (f g : Field) → IsOneOf f (own_fields t c) → IsOneOf g (flat_map (own_fields t) (ancestors t c)) → g.name ≡ f.name → ⊥
  apart c f g h i q =
      let d = declares_some c f h in
      let names = map (λ (x : Field). x.name) (flat_map (own_fields t) (ancestors t c)) in
      let free = (append_is_nil (repeated 4 names (map named_at d.0.fields)) (flat_map (λ k. break_if true 4 k.place) (Rattle.std.specs.Prelude.drop 1 d.0.constructors)) (rules.C4 c d.0 d.1)).0 in
      cc (unseen 4 names d.0.fields f free d.2, name_among f.name g (flat_map (own_fields t) (ancestors t c)) i q)

  both_own : (c : ℕ) (f g : Field) → IsOneOf f (own_fields t c) → IsOneOf g (own_fields t c) → g.name ≡ f.name → g ≡ f
  both_own c f g h i q =
      let d = declares_some c f h in
      let names = map (λ (x : Field). x.name) (flat_map (own_fields t) (ancestors t c)) in
      let free = (append_is_nil (repeated 4 names (map named_at d.0.fields)) (flat_map (λ k. break_if true 4 k.place) (Rattle.std.specs.Prelude.drop 1 d.0.constructors)) (rules.C4 c d.0 d.1)).0 in
      same_own 4 names d.0.fields f g free d.2 (no_more g d.0.fields (subst (λ (xs : List Field). IsOneOf g xs) d.3 i)) q

  module _ (whole : IsWhole t) where
    -- two fields of a line of one name are one
    pub same_field : (cs : List ℕ) → Chain t rules whole cs → (f g : Field) → IsOneOf f (flat_map (own_fields t) cs) → IsOneOf g (flat_map (own_fields t) cs) → g.name ≡ f.name → g ≡ f
    same_field [] chain f g h i q = absurd h
    same_field (c ∷ cs) chain f g h i q = go (one_split f (own_fields t c) (flat_map (own_fields t) cs) h) (one_split g (own_fields t c) (flat_map (own_fields t) cs) i) (λ j k. same_field cs chain.1 f g j k q)
      where
        up : (x : Field) → IsOneOf x (flat_map (own_fields t) cs) → IsOneOf x (flat_map (own_fields t) (ancestors t c))
        up x j = subst (λ (z : List ℕ). IsOneOf x (flat_map (own_fields t) z)) chain.0 j

        go : IsOneOf f (own_fields t c) ⊎ IsOneOf f (flat_map (own_fields t) cs) → IsOneOf g (own_fields t c) ⊎ IsOneOf g (flat_map (own_fields t) cs) → (IsOneOf f (flat_map (own_fields t) cs) → IsOneOf g (flat_map (own_fields t) cs) → g ≡ f) → g ≡ f
        go (inl j) (inl k) r = both_own c f g j k q
        go (inr j) (inr k) r = r j k
        go (inl j) (inr k) r = absurd (apart c f g j (up g k) q)
        go (inr j) (inl k) r = absurd (apart c g f k (up f j) (sym q))

    -- ---- the position of a field

    instance_in : (f : Field) (fs : List Field) → IsOneOf f fs → f.is_static ≡ false → IsOneOf f (flat_map is_instance fs)
    instance_in f [] h e = absurd h
    instance_in f (x ∷ fs) (inl i) e = one_front f (is_instance x) (flat_map is_instance fs) (subst (λ (z : Field). IsOneOf f (is_instance z)) (sym i) (go f.is_static e))
      where
        go : (b : Bool) → b ≡ false → IsOneOf f (if b then [] else f ∷ [])
        go false e = inl refl
        go true e = absurd (cc (e))
    instance_in f (x ∷ fs) (inr i) e = one_back f (is_instance x) (flat_map is_instance fs) (instance_in f fs i e)

    instance_of : (f : Field) (fs : List Field) → IsOneOf f (flat_map is_instance fs) → IsOneOf f fs
    instance_of f [] h = absurd h
    instance_of f (x ∷ fs) h = go (one_split f (is_instance x) (flat_map is_instance fs) h) (instance_of f fs)
      where
        one : (b : Bool) → IsOneOf f (if b then [] else x ∷ []) → IsOneOf f (x ∷ fs)
        one true h = absurd h
        one false (inl i) = inl i
        one false (inr i) = absurd i

        go : IsOneOf f (is_instance x) ⊎ IsOneOf f (flat_map is_instance fs) → (IsOneOf f (flat_map is_instance fs) → IsOneOf f fs) → IsOneOf f (x ∷ fs)
        go (inl i) r = one x.is_static i
        go (inr i) r = inr (r i)

    -- the first of a name, where all of this name have one type
    placed : (j : ℕ) (fs : List Field) (n : List ℕ) (u : JavaType) (f : Field) → IsOneOf f fs → f.name ≡ n → ((g : Field) → IsOneOf g fs → g.name ≡ n → g.type ≡ u) → (k : ℕ) × (position_from j fs n ≡ Some (j + k)) × (k < length (map (λ x. x.type) fs)) × (get_or (map (λ x. x.type) fs) k VoidType ≡ u)
    placed j [] n u f h e all = absurd h
    placed j (x ∷ fs) n u f h e all = go (bytes_eq x.name n) refl h (λ i. placed (j + 1) fs n u f i e (λ g k. all g (inr k)))
      where
        go : (b : Bool) → bytes_eq x.name n ≡ b → IsOneOf f (x ∷ fs) → (IsOneOf f fs → (k : ℕ) × (position_from (j + 1) fs n ≡ Some (j + 1 + k)) × (k < length (map (λ x. x.type) fs)) × (get_or (map (λ x. x.type) fs) k VoidType ≡ u))
            → (k : ℕ) × ((if b then Some j else position_from (j + 1) fs n) ≡ Some (j + k)) × (k < length (map (λ x. x.type) (x ∷ fs))) × (get_or (map (λ x. x.type) (x ∷ fs)) k VoidType ≡ u)
        go true q h r = let z : j ≡ j + 0 = omega arith in (0, ap (λ (k : ℕ). Some k) z, omega arith, all x (inl refl) (names_equal x.name n q))
        go false q (inl i) r = absurd (cc (q, equal_names x.name n (ap (λ (z : Field). z.name) i ∙ e)))
        go false q (inr i) r = let y = r i in let z : j + 1 + y.0 ≡ j + suc y.0 = omega arith in (suc y.0, y.1 ∙ ap (λ (k : ℕ). Some k) z, omega (arith, y.2), y.3)

    field_place : (program : Program) → program.table ≡ t → (d : ℕ) (f : Field) → IsOneOf f (flat_map (own_fields t) (line_of t d)) → f.is_static ≡ false → IsFieldAt program d f.name f.type
    field_place program e d f h static =
        let part = one_part f (own_fields t) (line_of t d) h in
        let turned = one_whole f (own_fields t) (reverse (line_of t d)) part.0 (among_reverse part.0 (line_of t d) part.1) part.2 in
        let y = placed 0 (fields_of t d) f.name f.type f (instance_in f (flat_map (own_fields t) (reverse (line_of t d))) turned static) refl (λ g i q. ap (λ (z : Field). z.type) (same_field (line_of t d) (chain t rules whole d) f g h (back g i) q)) in
        let z : 0 + y.0 ≡ y.0 = omega arith in
        (y.0, ap (λ (x : Table). position_from 0 (fields_of x d) f.name) e ∙ (y.1 ∙ ap (λ (k : ℕ). Some k) z), subst (λ (x : Table). y.0 < length (map (λ f. f.type) (fields_of x d))) (sym e) y.2, ap (λ (x : Table). get_or (map (λ f. f.type) (fields_of x d)) y.0 VoidType) e ∙ y.3)
      where
        back : (g : Field) → IsOneOf g (fields_of t d) → IsOneOf g (flat_map (own_fields t) (line_of t d))
        back g i = let part = one_part g (own_fields t) (reverse (line_of t d)) (instance_of g (flat_map (own_fields t) (reverse (line_of t d))) i) in one_whole g (own_fields t) (line_of t d) part.0 (among_turned part.0 (line_of t d) part.1) part.2

    -- an own field of a class
    pub own_has : (program : Program) → program.table ≡ t → (c : ℕ) (f : Field) → IsOneOf f (own_fields t c) → f.is_static ≡ false → HasField program c f.name f.type
    own_has program e c f h static = record { at = λ d b. field_place program e d f (one_whole f (own_fields t) (line_of t d) c (ap (λ (x : Table). is_below x d c) (sym e) ∙ b) h) static }

    -- a field that is found by its name
    pub declared : (program : Program) → program.table ≡ t → ((c : ℕ) (f : Field) → IsOneOf f (own_fields t c) → f.class ≡ c) → (c : ℕ) (n : List ℕ) (f : Field) → field_named t c n ≡ Some f → IsDeclared program c n f
    declared program e own c n f q =
        let found = found_one (λ (x : Field). bytes_eq x.name n) f (flat_map (own_fields t) (line_of t c)) q in
        let part = one_part f (own_fields t) (line_of t c) found.0 in
        let class = own part.0 f part.2 in
        record {
          name = names_equal f.name n found.1;
          below = ap (λ (x : Table). is_below x c f.class) e ∙ (ap (λ (k : ℕ). is_among k (line_of t c)) class ∙ part.1);
          instance = λ static. record { at = λ d b. field_place program e d f (one_whole f (own_fields t) (line_of t d) part.0 (onward t rules whole d c part.0 (ap (λ (x : Table). is_below x d c) (sym e) ∙ b) part.1) part.2) static };
        }
