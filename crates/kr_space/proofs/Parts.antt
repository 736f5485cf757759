-- The rules part by part.
use Rattle.std.proofs.Common.{◌≡◌, ℕ, zero, suc, ◌+◌, ◌==◌, nat_lt, List, [], ◌∷◌, ◌++◌, length, map, get_or, Option, fold, refl, ap, sym, ◌∙◌}
use Rattle.std.specs.Prelude.{codes, flat_map}
use Rattle.std.proofs.lemmas.List.{map-append}
use Rattle.std.proofs.lemmas.List.Sums.{fold-append}
use Rattle.kr_ast.specs.Tree.{Tree}
use Rattle.kr_classes_table.specs.Types.{JavaType}
use Rattle.kr_classes_table.specs.Table.{headings_of, table_of}
use Rattle.kr_mean.specs.declared.mode.Mode.{Mode}
use Rattle.kr_mean.specs.Program.{Program}
use Rattle.kr_mean.specs.Problem as problems
use Rattle.kr_mean.specs.Problem.{Problem, domain_at, no_objects, slots}
use Rattle.kr_fin.specs.declared.document.ArrayBound.{ArrayBound}
use Rattle.kr_fin.specs.declared.document.Count.{Count}
use Rattle.kr_fin.specs.declared.document.FinDoc.{FinDoc}
use Rattle.kr_space_meaning.specs.declared.refusal.SpaceRule.TheVariants.{EmptyDomain, TooMany}
use Rattle.kr_space_meaning.specs.Keys.{field_type, parameter_type}
use Rattle.kr_space_meaning.specs.Bounds.{Setting, array_class_domain, bounded, declared, domains_of, object_domain, problem_in, problem_of, program_in, root_domain, root_of, setting_of, tested_parameters}
use Rattle.kr_space_meaning.specs.Faults.{S1, S2, S3_S5_S6, S4, S7, S8, S9, array_S2, faults_in, fields_unfit, no_fields, no_params, params_unfit, numbers_of, numbers_of_lengths, object_S2, parameter_S2}
use Rattle.kr_space_meaning.specs.Order.{Fault, break_if, lesser}
use Rattle.kr_space.specs.Refusals.{after_S1}
use Rattle.kr_space.specs.Sizes.{counts_of, object_counts}

pub headings_are : (files : List Tree) (document : FinDoc) → (setting_of files document).table.headings ≡ headings_of files
unfolding setting_of table_of
headings_are files document = refl

pub arrays_are : (files : List Tree) (document : FinDoc) → (setting_of files document).arrays ≡ bounded (headings_of files) document.arrays
unfolding setting_of table_of
arrays_are files document = refl

pub objects_are : (files : List Tree) (document : FinDoc) → (setting_of files document).objects ≡ declared (headings_of files) document.objects
unfolding setting_of table_of
objects_are files document = refl

three : (old : Option Fault) (a b c : List Fault) → fold lesser old (a ++ (b ++ c)) ≡ fold lesser (fold lesser (fold lesser old a) b) c
three old a b c = fold-append lesser old a (b ++ c) ∙ fold-append lesser (fold lesser old a) b c

pub S2_is : (files : List Tree) (document : FinDoc) (mode : Mode) (objects : List (ℕ × Count)) (arrays : List (JavaType × ArrayBound)) (old : Option Fault) → objects ≡ (setting_of files document).objects → arrays ≡ (setting_of files document).arrays → fold lesser old (S2 (setting_of files document) mode)
    ≡ fold lesser (fold lesser (fold lesser old (flat_map (object_S2 (setting_of files document)) objects)) (flat_map (array_S2 (setting_of files document)) arrays)) (flat_map (parameter_S2 (setting_of files document) mode) (tested_parameters (setting_of files document) mode))
S2_is files document mode objects arrays old o e =
    let setting = setting_of files document in
    let params = flat_map (parameter_S2 setting mode) (tested_parameters setting mode) in
    three old (flat_map (object_S2 setting) setting.objects) (flat_map (array_S2 setting) setting.arrays) params
    ∙ (ap (λ (os : List (ℕ × Count)). fold lesser (fold lesser (fold lesser old (flat_map (object_S2 setting) os)) (flat_map (array_S2 setting) setting.arrays)) params) (sym o)
    ∙ ap (λ (bs : List (JavaType × ArrayBound)). fold lesser (fold lesser (fold lesser old (flat_map (object_S2 setting) objects)) (flat_map (array_S2 setting) bs)) params) (sym e))

five : (old : Option Fault) (a b c d e : List Fault) → fold lesser old (a ++ (b ++ (c ++ (d ++ e)))) ≡ fold lesser (fold lesser (fold lesser (fold lesser (fold lesser old a) b) c) d) e
five old a b c d e = three old a b (c ++ (d ++ e)) ∙ three (fold lesser (fold lesser old a) b) c d e

pub numbers_are : (problem : Problem) (setting : Setting) (old : Option Fault) → fold lesser old (S3_S5_S6 problem setting)
    ≡ fold lesser (fold lesser (fold lesser (fold lesser (fold lesser old (numbers_of problem setting (field_type setting.table) (codes "fields.") setting.document.fields)) (numbers_of problem setting (parameter_type setting.table (root_of setting)) (codes "params.") setting.document.params))
    (numbers_of_lengths problem setting setting.document.arrays)) (break_if ((domain_at problem problem.root).count == 0) EmptyDomain (codes "this"))) (break_if (nat_lt 4096 (length (slots problem))) TooMany (codes "slots"))
numbers_are problem setting old =
    five old (numbers_of problem setting (field_type setting.table) (codes "fields.") setting.document.fields) (numbers_of problem setting (parameter_type setting.table (root_of setting)) (codes "params.") setting.document.params) (numbers_of_lengths problem setting setting.document.arrays)
    (break_if ((domain_at problem problem.root).count == 0) EmptyDomain (codes "this")) (break_if (nat_lt 4096 (length (slots problem))) TooMany (codes "slots"))

pub faults_are : (problem : Problem) (setting : Setting) (mode : Mode) (old : Option Fault) → fold lesser old (faults_in problem setting mode) ≡ fold lesser (fold lesser old (S1 setting)) (after_S1 problem setting mode)
unfolding faults_in after_S1
faults_are problem setting mode old = fold-append lesser old (S1 setting) (S2 setting mode ++ (S3_S5_S6 problem setting ++ (S4 setting ++ (S7 setting ++ (S8 setting mode ++ S9 setting)))))

pub after_names : (problem : Problem) (setting : Setting) (mode : Mode) (old : Option Fault) → fold lesser old (after_S1 problem setting mode)
    ≡ fold lesser (fold lesser (fold lesser old (S2 setting mode)) (S3_S5_S6 problem setting)) (S4 setting ++ (S7 setting ++ (S8 setting mode ++ S9 setting)))
unfolding after_S1
after_names problem setting mode old = three old (S2 setting mode) (S3_S5_S6 problem setting) (S4 setting ++ (S7 setting ++ (S8 setting mode ++ S9 setting)))

-- ---- the counts of domains

object_counts_are : (setting : Setting) (os : List (ℕ × Count)) → counts_of (map (object_domain setting) os) ≡ object_counts os
object_counts_are setting [] = refl
object_counts_are setting (o ∷ os) = ap (λ (ns : List ℕ). o.1.count ∷ ns) (object_counts_are setting os)

array_counts_are : (setting : Setting) (arrays : List (JavaType × ArrayBound)) → counts_of (map (array_class_domain setting) arrays) ≡ map (λ a. a.1.count) arrays
array_counts_are setting [] = refl
array_counts_are setting (a ∷ more) = ap (λ (ns : List ℕ). a.1.count ∷ ns) (array_counts_are setting more)

domain_counts : (setting : Setting) → counts_of (domains_of setting) ≡ object_counts setting.objects ++ map (λ a. a.1.count) setting.arrays
domain_counts setting =
    map-append _ (map (object_domain setting) setting.objects) (map (array_class_domain setting) setting.arrays)
    ∙ (ap (λ (ns : List ℕ). ns ++ counts_of (map (array_class_domain setting) setting.arrays)) (object_counts_are setting setting.objects)
    ∙ ap (λ (ns : List ℕ). object_counts setting.objects ++ ns) (array_counts_are setting setting.arrays))

domains_are : (program : Program) (setting : Setting) (mode : Mode) → (problem_in program setting mode).domains ≡ domains_of setting
unfolding problem_in
domains_are program setting mode = refl

root_is : (program : Program) (setting : Setting) (mode : Mode) → (problem_in program setting mode).root ≡ root_domain setting
unfolding problem_in
root_is program setting mode = refl

pub counts_are : (files : List Tree) (document : FinDoc) (mode : Mode) (objects : List (ℕ × Count)) (arrays : List (JavaType × ArrayBound)) (counts : List ℕ) → objects ≡ (setting_of files document).objects → arrays ≡ (setting_of files document).arrays
    → counts ≡ object_counts objects ++ map (λ a. a.1.count) arrays → counts_of (problem_of files document mode).domains ≡ counts
counts_are files document mode objects arrays counts o e c =
    let setting = setting_of files document in
    ap (λ (ds : List problems.ClassDomain). counts_of ds) (domains_are (program_in setting) setting mode)
    ∙ (domain_counts setting
    ∙ (ap (λ (os : List (ℕ × Count)). object_counts os ++ map (λ a. a.1.count) setting.arrays) (sym o)
    ∙ (ap (λ (bs : List (JavaType × ArrayBound)). object_counts objects ++ map (λ a. a.1.count) bs) (sym e) ∙ sym c)))

count_got : (ds : List problems.ClassDomain) (d : ℕ) → (get_or ds d no_objects).count ≡ get_or (counts_of ds) d 0
count_got [] d = refl
count_got (x ∷ ds) zero = refl
count_got (x ∷ ds) (suc d) = count_got ds d

-- whether the root has no objects
pub root_count : (files : List Tree) (document : FinDoc) (mode : Mode) (counts : List ℕ) (root n : ℕ) → counts_of (problem_of files document mode).domains ≡ counts → root ≡ root_domain (setting_of files document) → n ≡ get_or counts root 0
    → n ≡ (domain_at (problem_of files document mode) (problem_of files document mode).root).count
root_count files document mode counts root n c r e =
    let problem = problem_of files document mode in
    let setting = setting_of files document in
    e ∙ (ap (λ (ns : List ℕ). get_or ns root 0) (sym c)
    ∙ (ap (λ (k : ℕ). get_or (counts_of problem.domains) k 0) (r ∙ sym (root_is (program_in setting) setting mode)) ∙ sym (count_got problem.domains problem.root)))

-- ---- types and methods

pub types_are : (files : List Tree) (document : FinDoc) (mode : Mode) (old : Option Fault) → fold lesser old (S4 (setting_of files document) ++ (S7 (setting_of files document) ++ (S8 (setting_of files document) mode ++ S9 (setting_of files document))))
    ≡ fold lesser (fold lesser (fold lesser (fold lesser (fold lesser (fold lesser old (fields_unfit (table_of files) document document.fields)) (params_unfit (table_of files) document (root_of (setting_of files document)) document.params)) (S7 (setting_of files document))) (S8 (setting_of files document) mode))
    (no_fields (table_of files) document.fields)) (no_params (table_of files) (root_of (setting_of files document)) document.params)
unfolding setting_of
types_are files document mode old =
    let setting = setting_of files document in
    let unfit_fields = fields_unfit (table_of files) document document.fields in
    let unfit_params = params_unfit (table_of files) document (root_of setting) document.params in
    let fields = no_fields (table_of files) document.fields in
    let params = no_params (table_of files) (root_of setting) document.params in
    fold-append lesser old (unfit_fields ++ unfit_params) (S7 setting ++ (S8 setting mode ++ (fields ++ params)))
    ∙ (ap (λ (a : Option Fault). fold lesser a (S7 setting ++ (S8 setting mode ++ (fields ++ params)))) (fold-append lesser old unfit_fields unfit_params)
    ∙ (three (fold lesser (fold lesser old unfit_fields) unfit_params) (S7 setting) (S8 setting mode) (fields ++ params)
    ∙ fold-append lesser (fold lesser (fold lesser (fold lesser (fold lesser old unfit_fields) unfit_params) (S7 setting)) (S8 setting mode)) fields params))
