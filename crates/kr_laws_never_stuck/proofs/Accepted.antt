-- Accepted problems have all properties that the laws on runs require.
use Rattle.std.proofs.Common.{◌≡◌, ℕ, zero, suc, ◌+◌, ◌<◌, Bool, true, false, not, ◌&&◌, ◌==◌, List, [], ◌∷◌, ◌++◌, length, map, get_or, Option, Some, None, Result, Ok, Err, refl, sym, ap, ◌∙◌, subst, arith}
use Rattle.std.specs.Prelude.{flat_map, codes, unwrap_or, is_none, MatchOption}
use Rattle.std.proofs.lemmas.Bool.Decides.{nat_tests}
use Rattle.std.proofs.lemmas.Bool.{and_parts}
use Rattle.kr_ast.specs.Tree.{Tree}
use Rattle.kr_classes_table.specs.Nodes.{nodes}
use Rattle.kr_classes_table.specs.Types.{JavaType, BooleanType, is_same}
use Rattle.kr_classes_table.specs.Table.{Heading, Table, Parameter, Method, table_of, method_named}
use Rattle.kr_classes_table.specs.Arrays.{arrays_named, array_types_of}
use Rattle.kr_classes_table.specs.Rules.{class_fault}
use Rattle.kr_types_meaning.specs.Typing.{IsWellTyped}
use Rattle.kr_types_meaning.proofs.WellTyped.{well_typed_law}
use Rattle.kr_mean.specs.declared.mode.Mode.{Mode}
use Rattle.kr_mean.specs.declared.mode.Mode.TheVariants.{List as Listing, Method as Testing}
use Rattle.kr_mean.specs.Program.{Program, program_with}
use Rattle.kr_mean.specs.Problem.{Problem, domain_at, no_objects}
use Rattle.kr_mean.specs.Runs.{class_number, root_class, tested_method}
use Rattle.kr_mean.specs.Space.{space_of, IsVector}
use Rattle.kr_fin.specs.declared.document.FinDoc.{FinDoc}
use Rattle.kr_space_meaning.specs.Keys.{method_at}
use Rattle.kr_space_meaning.specs.Bounds.{Setting, setting_of, bounded, domains_of, object_number, root_of, program_in, problem_in, problem_of}
use Rattle.kr_space_meaning.specs.Faults.{is_predicate}
use Rattle.kr_fin.specs.Least.{IsLeast}
use Rattle.kr_space_meaning.specs.Meaning.{faults_of, unless, meaning}
use Rattle.kr_space_meaning.specs.Order.{Fault, least, space_rank}
use Rattle.kr_space_meaning.proofs.Each.{unbroken}
use Rattle.kr_fin.proofs.Leasts.{least_of_all}
use Rattle.kr_space_meaning.proofs.WellFormed.{well_formed}
use Rattle.kr_laws_types.proofs.Shapes.{file_shape}
use Rattle.kr_value.specs.declared.object.Class.TheVariants.{Object}
use Rattle.kr_laws_safety.proofs.Heaps.{same_type}
use Rattle.kr_laws_safety.specs.Typed.{IsTypedProgram}
use Rattle.kr_laws_safety.specs.Tested.{IsPredicate, HasContracts}
use Rattle.kr_space.proofs.ReadLimits.{read_limits}
use Rattle.kr_laws_never_stuck.specs.Grown.{AreGrown, AreProgram}
use Rattle.kr_laws_never_stuck.proofs.Apart as places
use Rattle.kr_laws_never_stuck.specs.Keys.{HasKeys}
use Rattle.kr_laws_never_stuck.proofs.Typed.{domains_typed, is_posed, object_class, root_domain_is, root_numbered, rooted_by, rules_of}
use Rattle.kr_laws_types.proofs.Predefined.{predefined_shape}
use Rattle.kr_laws_types.specs.Derivation.{AreClasses}
use Rattle.kr_laws_never_stuck.specs.WellTyped.{AreFiles, IsNeverStuck}
use Rattle.kr_laws_never_stuck.proofs.Programs.{well_typed, never_stuck as runs_never_stuck}
use Rattle.kr_laws_never_stuck.specs.TypedContracts.{HasContract}
use Rattle.kr_laws_never_stuck.proofs.Contracts.{contracts_typed}
use Rattle.kr_laws_never_stuck.specs.NeverStuck.{NeverStuckLaw}
use Rattle.kr_laws_never_stuck.proofs.Fields.{fields_apart, field_keyed}
use Rattle.kr_laws_never_stuck.proofs.Parameters.{parameter_found}
use Rattle.kr_laws_never_stuck.proofs.Documents.{read_pairs}
use Rattle.kr_laws_never_stuck.proofs.Arrays.{once_more}
use Rattle.kr_base.proofs.ListLemmas.{append_is_nil}

-- ---- the files

grown_files : (n : ℕ) (sources : List (List ℕ)) (files : List Tree) → AreGrown n sources files → AreFiles files
grown_files n [] [] g = tt
grown_files n (bytes ∷ sources) (file ∷ files) g = (file_shape g.0.tokens file g.0.derived, grown_files (n + 1) sources files g.1)
grown_files n _ _ g = absurd g

pub program_files : (sources : List (List ℕ)) (files : List Tree) → AreProgram sources files → AreFiles files
program_files sources [] g = absurd g
program_files sources (tree ∷ files) g = (subst AreClasses (sym g.0) predefined_shape, grown_files 0 sources files g.1)

-- ---- the problem

-- a document whose problem it is breaks no rule
pub record IsPosed (files : List Tree) (document : FinDoc) (mode : Mode) (problem : Problem) : Type 0 where
  pub unbroken : faults_of files document mode ≡ []
  pub is : problem_of files document mode ≡ problem

pub posed : (files : List Tree) (document : FinDoc) (mode : Mode) (problem : Problem) → meaning files document mode ≡ Ok problem → IsPosed files document mode problem
unfolding meaning
posed files document mode problem e = go (least (faults_of files document mode)) refl e
  where
    inside : Result Problem Fault → Problem
    inside (Ok p) = p
    inside (Err f) = problem

    go : (o : Option Fault) → least (faults_of files document mode) ≡ o → unless o (problem_of files document mode) ≡ Ok problem → IsPosed files document mode problem
    go None n e = record { unbroken = subst (λ (o : Option Fault). MatchOption o (faults_of files document mode ≡ []) (IsLeast space_rank (faults_of files document mode))) n (least_of_all space_rank (faults_of files document mode)); is = ap inside e }
    go (Some f) n e = absurd (cc (e))

-- its program is that of the files, with more array types
pub program_is : (files : List Tree) (document : FinDoc) (mode : Mode) → (more : List JavaType) × ((problem_of files document mode).program ≡ program_with (table_of files) (array_types_of files ++ more))
unfolding problem_in setting_of
program_is files document mode =
    let setting = setting_of files document in
    let named = flat_map (λ a. Rattle.kr_classes_table.specs.Arrays.arrays_in a.0) (bounded (table_of files).headings document.arrays) in
    let m = once_more (flat_map (arrays_named (Rattle.kr_classes_table.specs.Table.headings_of files)) (flat_map nodes files)) named in
    (m.0, ap (program_with (table_of files)) m.1)

-- ---- the predicate

no_more : (ps : List Parameter) → (length ps == 0) ≡ true → ps ≡ []
no_more [] e = refl
no_more (p ∷ ps) e = let none : suc (length ps) ≡ 0 = grind (arith, nat_tests) in absurd (omega (arith, none))

predicate_found : (program : Program) (c : ℕ) → is_predicate (method_named program.table c (codes "repOk")) ≡ true → IsPredicate program c
predicate_found program c e = go (method_named program.table c (codes "repOk")) refl e
  where
    go : (o : Option Method) → method_named program.table c (codes "repOk") ≡ o → is_predicate o ≡ true → IsPredicate program c
    go None q e = absurd (cc (e))
    go (Some m) q e =
        let parts = and_parts (not m.is_static && (length m.parameters == 0)) (is_same m.result BooleanType) e in
        record { method = m; found = q; parameters = no_more m.parameters (and_parts (not m.is_static) (length m.parameters == 0) parts.0).1; result = same_type m.result BooleanType parts.1 }

-- ---- the whole

module _ (sources : List (List ℕ)) (files : List Tree) (grown : AreProgram sources files) (faults : class_fault (table_of files) ≡ None) (types : IsWellTyped files) where
  shapes : AreFiles files
  shapes = program_files sources files grown

  keys : HasKeys (table_of files)
  keys = record {
    fields = field_keyed files shapes faults types (places.fields_apart sources files grown);
    parameters = parameter_found files shapes faults types;
  }

  facts : (more : List JavaType) → IsTypedProgram (program_with (table_of files) (array_types_of files ++ more))
  facts more = well_typed files more shapes faults types (fields_apart (table_of files) (places.fields_apart sources files grown))

  contracts : (more : List JavaType) (problem : Problem) → problem.program ≡ program_with (table_of files) (array_types_of files ++ more) → IsPredicate problem.program (root_class problem)
      → ((m : Method) → tested_method problem problem.mode ≡ Some m → (c : ℕ) × (n : List ℕ) × (method_named (table_of files) c n ≡ Some m)) → HasContracts problem
  contracts more problem e predicate tested =
      let of : (m : Method) → tested_method problem problem.mode ≡ Some m → HasContract problem.program m =
      λ m q. let x = tested m q in subst (λ (program : Program). HasContract program m) (sym e) (contracts_typed files more shapes faults types (places.apart sources files grown) (facts more) x.0 x.1 m x.2) in
      record {
        predicate = predicate;
        requires = λ olds m q. (of m q).requires olds;
        olds = λ m q. (of m q).olds;
        ensures = λ m q. (of m q).ensures;
        signals = λ m q. (of m q).signals;
      }

-- the method under test is one of the table
tested_is : (problem : Problem) (table : Table) (mode : Mode) (m : Method) → problem.program.table ≡ table → tested_method problem mode ≡ Some m → (c : ℕ) × (n : List ℕ) × (method_named table c n ≡ Some m)
tested_is problem table Listing m e q = absurd (cc (q))
tested_is problem table (Testing name) m e q = (root_class problem, name, ap (λ (t : Table). method_named t (root_class problem) name) (sym e) ∙ q)

-- the root's objects are of the root's class
pub root_at : (program : Program) (setting : Setting) (mode : Mode) (c d : ℕ) → root_of setting ≡ Some c → object_number 0 setting.objects setting.document.root c ≡ Some d → root_class (problem_in program setting mode) ≡ c
unfolding problem_in
root_at program setting mode c d e n =
    ap (λ (k : ℕ). class_number (get_or (domains_of setting) k no_objects).class) (root_domain_is setting c d e n)
    ∙ ap class_number (object_class setting setting.document.root c d n)

-- the predicate is that of the root's class
has_predicate : (files : List Tree) (document : FinDoc) (mode : Mode) → faults_of files document mode ≡ [] → IsPredicate (problem_of files document mode).program (root_class (problem_of files document mode))
unfolding problem_in
has_predicate files document mode e =
    let setting = setting_of files document in
    let problem = problem_of files document mode in
    let rules = rules_of problem setting mode e in
    let root = rooted_by setting rules.predicate in
    let some = subst (λ (p : Problem). ((domain_at p p.root).count == 0) ≡ false) (is_posed setting mode) rules.some in
    let number = root_numbered setting root.0 root.1 some in
    let rule = ap is_predicate (ap (λ (o : Option ℕ). method_at setting.table o (codes "repOk")) (sym root.1)) ∙ rules.predicate in
    predicate_found problem.program (root_class problem) (ap (λ (c : ℕ). is_predicate (method_named setting.table c (codes "repOk"))) (root_at (program_in setting) setting mode root.0 number.0 root.1 number.1) ∙ rule)

pub never_stuck : NeverStuckLaw
never_stuck sources bytes mode problem h vector is =
    let files = h.files in
    let types = (well_typed_law files).0 h.types in
    let p = posed files h.document mode problem h.posed in
    let mine = problem_of files h.document mode in
    let more = program_is files h.document mode in
    let formed = well_formed files h.document mode p.unbroken in
    let domains = domains_typed files h.document mode (keys sources files h.read h.classes types) (read_pairs bytes h.document h.stated) (read_limits bytes h.document h.stated) p.unbroken in
    let table : mine.program.table ≡ table_of files = ap (λ (x : Program). x.table) more.1 in
    let contracted = contracts sources files h.read h.classes types more.0 mine more.1 (has_predicate files h.document mode p.unbroken) (λ m q. tested_is mine (table_of files) mine.mode m table q) in
    subst (λ (x : Problem). IsVector (space_of x) vector → IsNeverStuck x vector) p.is
    (λ v. runs_never_stuck files more.0 mine more.1 (shapes sources files h.read h.classes types) h.classes types (fields_apart (table_of files) (places.fields_apart sources files h.read)) contracted formed domains vector v) is
