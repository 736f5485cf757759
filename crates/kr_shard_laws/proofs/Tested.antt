-- The method under test of an accepted problem.
use Rattle.std.proofs.Common.{◌≡◌, ℕ, ◌≤◌, ◌==◌, true, false, not, List, [], length, Option, Some, None, refl, sym, ap, ◌∙◌, subst}
use Rattle.std.specs.Prelude.{codes}
use Rattle.std.specs.List.{AllByRecursion}
use Rattle.kr_ast.specs.Tree.{Tree}
use Rattle.kr_classes_table.specs.Table.{Method, headings_of, method_named, table_of}
use Rattle.kr_fin.specs.declared.document.FinDoc.{FinDoc}
use Rattle.kr_mean.specs.Problem.{Problem, domain_at}
use Rattle.kr_mean.specs.Runs.{root_class, tested_method}
use Rattle.kr_mean.specs.declared.mode.Mode.{Mode}
use Rattle.kr_mean.specs.declared.mode.Mode.TheVariants.{Method as Testing}
use Rattle.kr_space_meaning.specs.declared.refusal.SpaceRule.TheVariants.{NoMethod}
use Rattle.kr_space_meaning.specs.Bounds.{problem_in, problem_of, program_in, root_of, setting_of}
use Rattle.kr_space_meaning.specs.Faults.{is_instance}
use Rattle.kr_space_meaning.specs.Keys.{method_at}
use Rattle.kr_space_meaning.specs.Meaning.{faults_of}
use Rattle.kr_space_meaning.proofs.Each.{unbroken}
use Rattle.kr_laws_never_stuck.proofs.Accepted.{posed, root_at}
use Rattle.std.proofs.lemmas.Bool.{not-false}
use Rattle.kr_laws_never_stuck.proofs.Typed.{is_posed, root_numbered, rooted_by, rules_of}
use Rattle.kr_laws_never_stuck.specs.Accepted.{IsAccepted}
use Rattle.kr_shard_laws.specs.Names.{IsIdentifier, all_methods}
use Rattle.kr_shard_laws.proofs.Accepted.{parts}
use Rattle.kr_shard_laws.proofs.Methods.{of_named}
use Rattle.kr_shard_laws.proofs.SourceNames.{lines_few, named}

some_instance : (o : Option Method) → is_instance o ≡ true → (m : Method) × (o ≡ Some m)
some_instance None e = absurd (cc (e))
some_instance (Some m) e = (m, refl)

tested_there : (files : List Tree) (document : FinDoc) (name : List ℕ) → faults_of files document (Testing name) ≡ [] → (m : Method) × (tested_method (problem_of files document (Testing name)) (Testing name) ≡ Some m)
unfolding problem_in
tested_there files document name e =
    let setting = setting_of files document in
    let problem = problem_of files document (Testing name) in
    let rules = rules_of problem setting (Testing name) e in
    let root = rooted_by setting rules.predicate in
    let some = subst (λ (p : Problem). ((domain_at p p.root).count == 0) ≡ false) (is_posed setting (Testing name)) rules.some in
    let number = root_numbered setting root.0 root.1 some in
    let here = root_at (program_in setting) setting (Testing name) root.0 number.0 root.1 number.1 in
    let instance = not-false (is_instance (method_at setting.table (root_of setting) name)) (unbroken (not (is_instance (method_at setting.table (root_of setting) name))) NoMethod (codes "method") rules.instance) in
    let found = some_instance (method_named setting.table root.0 name) (ap (λ (o : Option ℕ). is_instance (method_at setting.table o name)) (sym root.1) ∙ instance) in
    (found.0, ap (λ (c : ℕ). method_named setting.table c name) here ∙ found.1)

-- it has so many contract lines at most; the classes have names
pub record IsTested (problem : Problem) (most : ℕ) : Type 0 where
  pub method : Method
  pub is : tested_method problem problem.mode ≡ Some method
  pub few : length method.contracts ≤ most
  pub names : AllByRecursion (λ h. IsIdentifier h.name) problem.program.table.headings

classes_named : (files : List Tree) → AllByRecursion (λ h. IsIdentifier h.name) (headings_of files) → AllByRecursion (λ h. IsIdentifier h.name) (table_of files).headings
unfolding table_of
classes_named files h = h

pub tested : (most : ℕ) (sources : List (List ℕ)) (bytes name : List ℕ) (problem : Problem) → AllByRecursion (λ text. length text ≤ most) sources → IsAccepted sources bytes (Testing name) problem → IsTested problem most
tested most sources bytes name problem short h =
    let p = posed h.files h.document (Testing name) problem h.posed in
    let mine = problem_of h.files h.document (Testing name) in
    let found = tested_there h.files h.document name p.unbroken in
    let has = parts h.files h.document (Testing name) in
    let few = subst (λ t. AllByRecursion (λ m. length m.contracts ≤ most) (all_methods t)) (sym has.table) (lines_few most sources h.files short h.read) in
    let names = subst (λ t. AllByRecursion (λ h. IsIdentifier h.name) t.headings) (sym has.table) (classes_named h.files (named sources h.files h.read).classes) in
    subst (λ (x : Problem). IsTested x most) p.is
    (record {
      method = found.0;
      is = ap (λ (m : Mode). tested_method mine m) has.mode_is ∙ found.1;
      few = of_named (λ m. length m.contracts ≤ most) mine.program.table (root_class mine) name found.0 few found.1;
      names = names;
    })
