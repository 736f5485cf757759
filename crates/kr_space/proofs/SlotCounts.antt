-- How many slots a problem has.
use Rattle.std.proofs.Common.{◌≡◌, ℕ, zero, suc, inl, inr, nat_lt, ◌+◌, ◌*◌, ◌-◌, ◌^◌, ◌<◌, List, [], ◌∷◌, ◌++◌, length, map, get_or, drop, min, refl, ap, sym, subst, ◌∙◌, arith}
use Rattle.std.specs.Prelude.{flat_map}
use Rattle.std.specs.List.{range_with_len}
use Rattle.std.proofs.lemmas.List.{drop_more, length-append, length-map}
use Rattle.std.proofs.lemmas.List.Concat.{flat_map-append}
use Rattle.std.proofs.lemmas.Bool.{cases_lt, le-ltb, lt-ltb}
use Rattle.kr_ast.specs.Tree.{Tree}
use Rattle.kr_classes_table.specs.Types.{JavaType}
use Rattle.kr_classes_table.specs.Table.{Field, fields_of, table_of}
use Rattle.kr_mean.specs.declared.mode.Mode.{Mode}
use Rattle.kr_mean.specs.Program.{Program}
use Rattle.kr_mean.specs.Problem.{Problem, ClassDomain, Domain, Slot, domain_at, no_objects, objects_from, objects_of_domain, parameter_slots, slots, slots_of_object}
use Rattle.kr_fin.specs.declared.document.ArrayBound.{ArrayBound}
use Rattle.kr_fin.specs.declared.document.Count.{Count}
use Rattle.kr_fin.specs.declared.document.FinDoc.{FinDoc}
use Rattle.kr_space_meaning.specs.Bounds.{Setting, array_class_domain, elements_key, field_spots, field_values, greatest, lengths_of, object_domain, parameter_key, parameter_values, problem_in, program_in, setting_of, tested_parameters}
use Rattle.kr_space_rules.specs.declared.objects.Declared.{Declared}
use Rattle.kr_space_rules.specs.ObjectDomains.{declared_shown}
use Rattle.kr_space_meaning.proofs.Plain.{length-element_spots}
use Rattle.kr_space.specs.Slots.{slots_of_arrays, slots_of_objects}

-- ---- by domains

abbrev domains_slots : List ClassDomain → ℕ
domains_slots [] = 0
domains_slots (d ∷ ds) = d.count * length d.spots + domains_slots ds

suc_times : (n w : ℕ) → suc n * w ≡ w + n * w
suc_times n w = omega arith

rows_long : {A B : Type 0} (f : A → List B) (g : ℕ → A) (w : ℕ) → ((k : ℕ) → length (f (g k)) ≡ w) → (a n : ℕ) → length (flat_map f (map g (range_with_len a n))) ≡ n * w
rows_long f g w h a zero = omega arith
rows_long f g w h a (suc n) =
    let r = rows_long f g w h (a + 1) n in
    let l = length-append (f (g a)) (flat_map f (map g (range_with_len (a + 1) n))) in
    let e = h a in
    let t = suc_times n w in
    omega (arith, r, l, e, t)

objects_long : (problem : Problem) (d : ℕ) (ds : List ClassDomain) → ((k : ℕ) → k < length ds → domain_at problem (d + k) ≡ get_or ds k no_objects) → length (flat_map (slots_of_object problem) (objects_from d ds)) ≡ domains_slots ds
objects_long problem d [] h = refl
objects_long problem d (x ∷ ds) h =
    let own : length (flat_map (slots_of_object problem) (objects_of_domain d x)) ≡ x.count * length x.spots =
    rows_long (slots_of_object problem) (λ k. record { domain = d; number = k }) (length x.spots) (λ k. wide k) 0 x.count in
    let rest = objects_long problem (d + 1) ds (λ k l. subst (λ (n : ℕ). domain_at problem n ≡ get_or ds k no_objects) (shift k) (h (suc k) (omega (arith, l)))) in
    flat-length own rest
  where
    here : domain_at problem d ≡ x
    here = subst (λ (n : ℕ). domain_at problem n ≡ x) (omega arith) (h 0 (omega arith))

    wide : (k : ℕ) → length (slots_of_object problem (record { domain = d; number = k })) ≡ length x.spots
    wide k = length-map (domain_at problem d).spots _ ∙ ap (λ (c : ClassDomain). length c.spots) here

    shift : (k : ℕ) → d + suc k ≡ (d + 1) + k
    shift k = omega arith

    flat-length : length (flat_map (slots_of_object problem) (objects_of_domain d x)) ≡ x.count * length x.spots → length (flat_map (slots_of_object problem) (objects_from (d + 1) ds)) ≡ domains_slots ds
        → length (flat_map (slots_of_object problem) (objects_of_domain d x ++ objects_from (d + 1) ds)) ≡ x.count * length x.spots + domains_slots ds
    flat-length a b =
        ap (λ (ss : List Slot). length ss) (flat_map-append (slots_of_object problem) (objects_of_domain d x) (objects_from (d + 1) ds))
        ∙ (let l = length-append (flat_map (slots_of_object problem) (objects_of_domain d x)) (flat_map (slots_of_object problem) (objects_from (d + 1) ds)) in omega (arith, a, b, l))

parameters_long : (i : ℕ) (ds : List Domain) → length (parameter_slots i ds) ≡ length ds
parameters_long i [] = refl
parameters_long i (d ∷ ds) = ap suc (parameters_long (i + 1) ds)

all_long : (problem : Problem) → length (slots problem) ≡ suc (length problem.parameters + domains_slots problem.domains)
all_long problem =
    let objects = objects_long problem 0 problem.domains (λ k l. ap (domain_at problem) (plus k)) in
    let l = length-append (parameter_slots 0 problem.parameters) (flat_map (slots_of_object problem) (objects_from 0 problem.domains)) in
    let p = parameters_long 0 problem.parameters in
    omega (arith, objects, l, p)
  where
    plus : (k : ℕ) → 0 + k ≡ k
    plus k = omega arith

-- ---- by object domains and array types

domains_slots-append : (xs ys : List ClassDomain) → domains_slots (xs ++ ys) ≡ domains_slots xs + domains_slots ys
domains_slots-append [] ys = omega arith
domains_slots-append (x ∷ xs) ys = let r = domains_slots-append xs ys in omega (arith, r)

fields_long : (setting : Setting) (k : ℕ) (fs : List Field) → length (field_spots setting k fs) ≡ length fs
fields_long setting k [] = refl
fields_long setting k (f ∷ fs) = ap suc (fields_long setting (k + 1) fs)

objects_slots : (setting : Setting) (os : List (ℕ × Count)) → domains_slots (map (object_domain setting) os) ≡ slots_of_objects setting os
objects_slots setting [] = refl
objects_slots setting (o ∷ os) =
    ap (λ (n : ℕ). o.1.count * n + domains_slots (map (object_domain setting) os)) (fields_long setting 0 (fields_of setting.table o.0))
    ∙ ap (λ (n : ℕ). o.1.count * length (fields_of setting.table o.0) + n) (objects_slots setting os)

array_long : (setting : Setting) (a : JavaType × ArrayBound) → length (array_class_domain setting a).spots ≡ greatest (lengths_of setting a.1.lengths) + 1
array_long setting a =
    let l = length-element_spots 0 (greatest (lengths_of setting a.1.lengths)) (field_values setting (elements_key a.1.name)) in omega (arith, l)

arrays_slots : (setting : Setting) (arrays : List (JavaType × ArrayBound)) → domains_slots (map (array_class_domain setting) arrays) ≡ slots_of_arrays setting arrays
arrays_slots setting [] = refl
arrays_slots setting (a ∷ more) =
    ap (λ (n : ℕ). a.1.count * n + domains_slots (map (array_class_domain setting) more)) (array_long setting a)
    ∙ ap (λ (n : ℕ). a.1.count * (greatest (lengths_of setting a.1.lengths) + 1) + n) (arrays_slots setting more)

setting_slots : (program : Program) (setting : Setting) (mode : Mode) → length (slots (problem_in program setting mode)) ≡ suc (length (tested_parameters setting mode) + (slots_of_objects setting setting.objects + slots_of_arrays setting setting.arrays))
unfolding problem_in
setting_slots program setting mode =
    let all = all_long (problem_in program setting mode) in
    let p = length-map (tested_parameters setting mode) (λ p. parameter_values setting (parameter_key mode p)) in
    let d = domains_slots-append (map (object_domain setting) setting.objects) (map (array_class_domain setting) setting.arrays) in
    let c = objects_slots setting setting.objects in
    let a = arrays_slots setting setting.arrays in
    omega (arith, all, p, d, c, a)

-- the slots of a document's problem
pub slots_are : (files : List Tree) (document : FinDoc) (mode : Mode) (objects : List (ℕ × Count)) (arrays : List (JavaType × ArrayBound)) → objects ≡ (setting_of files document).objects → arrays ≡ (setting_of files document).arrays
    → length (slots (problem_in (program_in (setting_of files document)) (setting_of files document) mode)) ≡ suc (length (tested_parameters (setting_of files document) mode) + (slots_of_objects (setting_of files document) objects + slots_of_arrays (setting_of files document) arrays))
slots_are files document mode objects arrays o e =
    let setting = setting_of files document in
    setting_slots (program_in setting) setting mode
    ∙ (ap (λ (os : List (ℕ × Count)). suc (length (tested_parameters setting mode) + (slots_of_objects setting os + slots_of_arrays setting setting.arrays))) (sym o)
    ∙ ap (λ (bs : List (JavaType × ArrayBound)). suc (length (tested_parameters setting mode) + (slots_of_objects setting objects + slots_of_arrays setting bs))) (sym e))

-- ---- counts that saturate at the last number

pub object_more : (files : List Tree) (document : FinDoc) (objects : List Declared) (i : ℕ) (d : Declared) (all total own next : ℕ) → i < length objects
    → own ≡ min ((declared_shown document.objects (get_or objects i d)).1.count * length (fields_of (table_of files) (declared_shown document.objects (get_or objects i d)).0)) (2 ^ 64 - 1) → next ≡ min (total + own) (2 ^ 64 - 1)
    → min all (2 ^ 64 - 1) ≡ min (total + slots_of_objects (setting_of files document) (map (declared_shown document.objects) (drop i objects))) (2 ^ 64 - 1)
    → min all (2 ^ 64 - 1) ≡ min (next + slots_of_objects (setting_of files document) (map (declared_shown document.objects) (drop (i + 1) objects))) (2 ^ 64 - 1)
unfolding setting_of table_of
object_more files document objects i d all total own next h o n e =
    let x = get_or objects i d in
    let setting = setting_of files document in
    let shown = declared_shown document.objects in
    let rest = slots_of_objects setting (map shown (drop (i + 1) objects)) in
    let here = (shown x).1.count * length (fields_of (table_of files) (shown x).0) in
    let a : slots_of_objects setting (map shown (drop i objects)) ≡ here + rest =
    ap (λ (ds : List Declared). slots_of_objects setting (map shown ds)) (drop_more objects i d h) in
    capped all total (slots_of_objects setting (map shown (drop i objects))) here rest own next a o n e
  where
    capped : (all total left here rest own next : ℕ) → left ≡ here + rest → own ≡ min here (2 ^ 64 - 1) → next ≡ min (total + own) (2 ^ 64 - 1) → min all (2 ^ 64 - 1) ≡ min (total + left) (2 ^ 64 - 1) → min all (2 ^ 64 - 1) ≡ min (next + rest) (2 ^ 64 - 1)
    capped all total left here rest own next a b n e = omega (arith, a, b, n, e)

pub shown_long : {A B : Type 0} (f : A → B) (xs : List A) (ys : List B) → map f xs ≡ ys → length xs ≡ length ys
shown_long f xs ys e = sym (length-map xs f) ∙ ap (λ (zs : List _). length zs) e

-- whether there are more than 4,096
pub many_slots : (n x l : ℕ) → n ≡ min (x + 1) (2 ^ 64 - 1) → l ≡ suc x → nat_lt 4096 n ≡ nat_lt 4096 l
many_slots n x l e f = elim (cases_lt 4096 l) [
  | inl h ↦ lt-ltb 4096 n (omega (arith, e, f, h)) ∙ sym (lt-ltb 4096 l h)
  | inr h ↦ le-ltb 4096 n (omega (arith, e, f, h)) ∙ sym (le-ltb 4096 l h)
]
