-- Domains as the code lays them out.
use Rattle.std.proofs.Common.{◌≡◌, ℕ, zero, suc, ◌+◌, ◌-◌, ◌<◌, List, [], ◌∷◌, ◌++◌, length, map, get_or, drop, Option, refl, ap, sym, subst, ◌∙◌, append_assoc, arith}
use Rattle.std.specs.Prelude.{Result, IfOk, unwrap_or}
use Rattle.std.proofs.lemmas.List.{drop_more, map-append}
use Rattle.kr_ast.specs.Tree.{Tree}
use Rattle.kr_classes_table.specs.Types.{JavaType}
use Rattle.kr_classes_table.specs.Arrays.{array_number}
use Rattle.kr_classes_table.specs.Table.{Field, Table, fields_of, table_of}
use Rattle.kr_classes_names.specs.Types.{TypeList, Extends, type_at}
use Rattle.kr_space_names.specs.Collected.{types_shown}
use Rattle.kr_space_names.proofs.Collecting.{numbers_kept, shown_kept}
use Rattle.kr_value.specs.declared.object.Class.TheVariants.{Object, Array}
use Rattle.kr_value.specs.declared.object.Spot.TheVariants.{Field as FieldSpot, Length, Element}
use Rattle.kr_mean.specs.declared.mode.Mode.{Mode}
use Rattle.kr_mean.specs.Problem as problems
use Rattle.kr_mean.specs.Problem.{Domain}
use Rattle.kr_fin.specs.declared.document.ArrayBound.{ArrayBound}
use Rattle.kr_fin.specs.declared.document.Count.{Count}
use Rattle.kr_fin.specs.declared.document.FinDoc.{FinDoc}
use Rattle.kr_space_layout.specs.declared.classes.ClassDomain.{ClassDomain}
use Rattle.kr_space_layout.specs.declared.classes.Spotted.{Spotted}
use Rattle.kr_space_layout.specs.declared.item.DomainEntry.{DomainEntry}
use Rattle.kr_space_layout.specs.Bounds.{bounds_of, spotted}
use Rattle.kr_space_layout.specs.Bounds as shapes
use Rattle.kr_space_layout.specs.Items.{domain_of}
use Rattle.kr_space_meaning.specs.Bounds.{Setting, array_class_domain, array_spots, domains_of, element_spots, elements_key, field_key, field_spots, greatest, lengths_of, object_domain, parameter_key, root_domain, setting_of, tested_parameters}
use Rattle.kr_space_rules.specs.declared.bounds.Bound.{Bound}
use Rattle.kr_space_rules.specs.declared.objects.Declared.{Declared}
use Rattle.kr_space_rules.specs.ObjectDomains.{declared_shown, no_count}
use Rattle.kr_space_rules.specs.Entries.{bound_shown, no_bound}
use Rattle.kr_space.specs.Basis.{AreArrays, bounds_on}
use Rattle.kr_space.specs.Pools.{fields_given, params_given, pool}

-- ---- lists that grow

-- one item more of a list, as it is shown
pub shown_next : {A B : Type 0} (v : A → B) (all rest : List B) (old new : List A) (x : A) (y : B) → new ≡ old ++ x ∷ [] → v x ≡ y → all ≡ map v old ++ (y ∷ rest) → all ≡ map v new ++ rest
shown_next {A = A} {B = B} v all rest old new x y n s a =
    a ∙ (ap (λ (z : B). map v old ++ (z ∷ rest)) (sym s)
    ∙ (sym (append_assoc (map v old) (v x ∷ []) rest)
    ∙ ap (λ (zs : List B). zs ++ rest) (sym (map-append v old (x ∷ [])) ∙ ap (map v) (sym n))))

pub got_there : {A : Type 0} (xs ys : List A) (i : ℕ) (x d : A) → ys ≡ xs → i < length xs → x ≡ get_or ys i x → x ≡ get_or xs i d
got_there xs ys i x d s h e = e ∙ (ap (λ (zs : List _). get_or zs i x) s ∙ any xs i x d h)
  where
    any : {A : Type 0} (xs : List A) (i : ℕ) (x d : A) → i < length xs → get_or xs i x ≡ get_or xs i d
    any [] i x d h = absurd (omega (arith, h))
    any (y ∷ xs) zero x d h = refl
    any (y ∷ xs) (suc i) x d h = any xs i x d (omega (arith, h))

-- ---- fields

abbrev field_spot : Setting → FinDoc → Table → ℕ → Field → problems.Spotted
field_spot setting document table i f = record { spot = FieldSpot i; domain = fields_given setting document (field_key table f) }

fields_next : {A : Type 0} (files : List Tree) (document : FinDoc) (v : A → Field) (xs : List A) (i : ℕ) (x : A) → i < length xs → x ≡ get_or xs i x
    → field_spots (setting_of files document) i (map v (drop i xs)) ≡ field_spot (setting_of files document) document (table_of files) i (v x) ∷ field_spots (setting_of files document) (i + 1) (map v (drop (i + 1) xs))
unfolding setting_of fields_given
fields_next {A = A} files document v xs i x h e =
    ap (λ (ys : List A). field_spots (setting_of files document) i (map v ys)) (drop_more xs i x h)
    ∙ ap (λ (y : A). field_spot (setting_of files document) document (table_of files) i (v y) ∷ field_spots (setting_of files document) (i + 1) (map v (drop (i + 1) xs))) (sym e)

pub spots_next : {A : Type 0} (files : List Tree) (document : FinDoc) (ds : List Domain) (all : List problems.Spotted) (old new : List Spotted) (v : A → Field) (xs : List A) (i n : ℕ) (x : A) → i < length xs → x ≡ get_or xs i x
    → get_or ds n [] ≡ fields_given (setting_of files document) document (field_key (table_of files) (v x)) → new ≡ old ++ (record { spot = FieldSpot i; domain = n }) ∷ []
    → all ≡ map (spotted ds) old ++ field_spots (setting_of files document) i (map v (drop i xs)) → all ≡ map (spotted ds) new ++ field_spots (setting_of files document) (i + 1) (map v (drop (i + 1) xs))
spots_next files document ds all old new v xs i n x h e g k a =
    shown_next (spotted ds) all (field_spots (setting_of files document) (i + 1) (map v (drop (i + 1) xs))) old new (record { spot = FieldSpot i; domain = n }) (field_spot (setting_of files document) document (table_of files) i (v x)) k
    (ap (λ (d : Domain). record { spot = FieldSpot i; domain = d }) g)
    (a ∙ ap (λ (ss : List problems.Spotted). map (spotted ds) old ++ ss) (fields_next files document v xs i x h e))

-- ---- object domains

pub object_domain_is : (files : List Tree) (document : FinDoc) (ds : List Domain) (object : Declared) (line : Count) (bytes : List ℕ) (spots : List Spotted) → line ≡ get_or document.objects object.at no_count → bytes ≡ line.name
    → map (spotted ds) spots ≡ field_spots (setting_of files document) 0 (fields_of (table_of files) object.class)
    → shapes.class_domain ds (record { name = bytes; class = Object object.class; count = line.count; spots = spots }) ≡ object_domain (setting_of files document) (declared_shown document.objects object)
unfolding setting_of table_of
object_domain_is files document ds object line bytes spots l b s =
    ap (λ (t : List ℕ). record { name = t; class = Object object.class; count = line.count; spots = map (spotted ds) spots }) b
    ∙ (ap (λ (c : Count). record { name = c.name; class = Object object.class; count = c.count; spots = map (spotted ds) spots }) l
    ∙ ap (λ (ss : List problems.Spotted). record { name = (get_or document.objects object.at no_count).name; class = Object object.class; count = (get_or document.objects object.at no_count).count; spots = ss }) s)

-- ---- arrays

elements_step : (at left : ℕ) (d : Domain) → left ≡ suc (left - 1) → element_spots at left d ≡ (record { spot = Element at; domain = d }) ∷ element_spots (at + 1) (left - 1) d
elements_step at left d e = ap (λ (n : ℕ). element_spots at n d) e

pub elements_next : (ds : List Domain) (all : List problems.Spotted) (old new : List Spotted) (at count n : ℕ) → at < count → new ≡ old ++ (record { spot = Element at; domain = n }) ∷ []
    → all ≡ map (spotted ds) old ++ element_spots at (count - at) (get_or ds n []) → all ≡ map (spotted ds) new ++ element_spots (at + 1) (count - (at + 1)) (get_or ds n [])
elements_next ds all old new at count n h k a =
    let d = get_or ds n [] in
    let one : count - at - 1 ≡ count - (at + 1) = omega arith in
    shown_next (spotted ds) all (element_spots (at + 1) (count - (at + 1)) d) old new (record { spot = Element at; domain = n }) (record { spot = Element at; domain = d }) k refl
    (a ∙ (ap (λ (ss : List problems.Spotted). map (spotted ds) old ++ ss) (elements_step at (count - at) d (omega (arith, h)))
    ∙ ap (λ (m : ℕ). map (spotted ds) old ++ (record { spot = Element at; domain = d } ∷ element_spots (at + 1) m d)) one))

pub array_spots_are : (setting : Setting) (ds : List Domain) (none first all : List Spotted) (lengths elements : ℕ) (length_values element_values : Domain) (count : ℕ) → none ≡ [] → first ≡ none ++ (record { spot = Length; domain = lengths }) ∷ []
    → map (spotted ds) all ≡ map (spotted ds) first ++ element_spots 0 count (get_or ds elements []) → get_or ds lengths [] ≡ length_values → get_or ds elements [] ≡ element_values → count ≡ greatest length_values
    → map (spotted ds) all ≡ array_spots length_values element_values
array_spots_are setting ds none first all lengths elements length_values element_values count n f a l e g =
    a ∙ (ap (λ (ss : List Spotted). map (spotted ds) ss ++ element_spots 0 count (get_or ds elements [])) (f ∙ ap (λ (ss : List Spotted). ss ++ (record { spot = Length; domain = lengths }) ∷ []) n)
    ∙ (ap (λ (d : Domain). (record { spot = Length; domain = d }) ∷ element_spots 0 count (get_or ds elements [])) l
    ∙ (ap (λ (d : Domain). (record { spot = Length; domain = length_values }) ∷ element_spots 0 count d) e
    ∙ ap (λ (m : ℕ). (record { spot = Length; domain = length_values }) ∷ element_spots 0 m element_values) g)))

pub document_is : (files : List Tree) (document : FinDoc) → (setting_of files document).document ≡ document
unfolding setting_of
document_is files document = refl

pub array_domain_is : (files : List Tree) (document : FinDoc) (ds : List Domain) (l : TypeList) (arrays : List ℕ) (b : Bound) (number count : ℕ) (bytes : List ℕ) (spots : List Spotted) → AreArrays l (setting_of files document) arrays → number ≡ unwrap_or (array_number (types_shown l arrays) (type_at l b.number)) 0
    → bytes ≡ (get_or document.arrays b.at no_bound).name → count ≡ (get_or document.arrays b.at no_bound).count
    → map (spotted ds) spots ≡ array_spots (lengths_of (setting_of files document) (get_or document.arrays b.at no_bound).lengths) (fields_given (setting_of files document) document (elements_key (get_or document.arrays b.at no_bound).name))
    → shapes.class_domain ds (record { name = bytes; class = Array number; count = count; spots = spots }) ≡ array_class_domain (setting_of files document) (bound_shown l document.arrays b)
unfolding fields_given
array_domain_is files document ds l arrays b number count bytes spots k n e c s =
    let a = get_or document.arrays b.at no_bound in
    let setting = setting_of files document in
    let m = unwrap_or (array_number setting.types (type_at l b.number)) 0 in
    let same : number ≡ m = n ∙ ap (λ (ts : List JavaType). unwrap_or (array_number ts (type_at l b.number)) 0) k.shown in
    ap (λ (t : List ℕ). record { name = t; class = Array number; count = count; spots = map (spotted ds) spots }) e
    ∙ (ap (λ (i : ℕ). record { name = a.name; class = Array i; count = count; spots = map (spotted ds) spots }) same
    ∙ (ap (λ (i : ℕ). record { name = a.name; class = Array m; count = i; spots = map (spotted ds) spots }) c
    ∙ (ap (λ (ss : List problems.Spotted). record { name = a.name; class = Array m; count = a.count; spots = ss }) s
    ∙ ap (λ (d : FinDoc). record { name = a.name; class = Array m; count = a.count; spots = array_spots (lengths_of setting a.lengths) (fields_given setting d (elements_key a.name)) }) (sym (document_is files document)))))

pub arrays_kept : (a b : TypeList) (setting : Setting) (arrays : List ℕ) → Extends a b → AreArrays a setting arrays → AreArrays b setting arrays
arrays_kept a b setting arrays e k = record { numbers = numbers_kept a b arrays e k.numbers; shown = shown_kept a b arrays e k.numbers ∙ k.shown; few = k.few }

-- ---- the whole

pub ok_same : {T E : Type 0} (r : Result T E) (a b : T) → a ≡ b → IfOk r (λ x. x ≡ a) → IfOk r (λ x. x ≡ b)
ok_same r a b e h = subst (λ (y : _). IfOk r (λ x. x ≡ y)) e h

pub domains_whole : (files : List Tree) (document : FinDoc) (l : TypeList) (first all : List ClassDomain) (objects : List Declared) (bounds : List Bound)
    → map (shapes.class_domain (pool (setting_of files document) document)) first ≡ map (object_domain (setting_of files document)) (map (declared_shown document.objects) objects)
    → map (shapes.class_domain (pool (setting_of files document) document)) all ≡ map (shapes.class_domain (pool (setting_of files document) document)) first ++ map (array_class_domain (setting_of files document)) (map (bound_shown l document.arrays) bounds)
    → map (declared_shown document.objects) objects ≡ (setting_of files document).objects → map (bound_shown l document.arrays) bounds ≡ (setting_of files document).arrays
    → map (shapes.class_domain (pool (setting_of files document) document)) all ≡ domains_of (setting_of files document)
domains_whole files document l first all objects bounds f a o b =
    let setting = setting_of files document in
    a ∙ (ap (λ (ks : List problems.ClassDomain). ks ++ map (array_class_domain setting) (map (bound_shown l document.arrays) bounds)) (f ∙ ap (map (object_domain setting)) o)
    ∙ ap (λ (bs : List (JavaType × ArrayBound)). map (object_domain setting) setting.objects ++ map (array_class_domain setting) bs) b)

pub layout_is : (files : List Tree) (document : FinDoc) (mode : Mode) (root : ℕ) (parameters : List ℕ) (all : List ClassDomain) (ds : List (List DomainEntry)) → map domain_of ds ≡ pool (setting_of files document) document
    → root ≡ root_domain (setting_of files document)
    → map (λ n. get_or (pool (setting_of files document) document) n []) parameters ≡ map (λ p. params_given (setting_of files document) document (parameter_key mode p)) (tested_parameters (setting_of files document) mode)
    → map (shapes.class_domain (pool (setting_of files document) document)) all ≡ domains_of (setting_of files document)
    → bounds_of root mode document.fuel parameters all (map domain_of ds) ≡ bounds_on (setting_of files document) mode
unfolding setting_of table_of params_given
layout_is files document mode root parameters all ds d r p a =
    let setting = setting_of files document in
    let own : map (λ n. get_or (pool setting document) n []) parameters ≡ (bounds_on setting mode).parameters = p in
    ap (λ (ps : List Domain). bounds_of root mode document.fuel parameters all ps) d
    ∙ (ap (λ (n : ℕ). record { root = n; mode = mode; parameters = map (λ n. get_or (pool setting document) n []) parameters; fuel = document.fuel; domains = map (shapes.class_domain (pool setting document)) all }) r
    ∙ (ap (λ (ps : List Domain). record { root = root_domain setting; mode = mode; parameters = ps; fuel = document.fuel; domains = map (shapes.class_domain (pool setting document)) all }) own
    ∙ ap (λ (ks : List problems.ClassDomain). record { root = root_domain setting; mode = mode; parameters = (bounds_on setting mode).parameters; fuel = document.fuel; domains = ks }) a))
