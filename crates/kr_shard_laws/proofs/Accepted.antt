-- The entries of an accepted problem have lines, those of a listing's are a listing's, and what `shard` writes of it is put together.
use Rattle.std.proofs.Common.{◌≡◌, ℕ, List, [], ◌∷◌, map, Option, Some, None, refl, sym, ap, ◌∙◌, subst}
use Rattle.std.specs.List.{AllByRecursion}
use Rattle.kr_ast.specs.Tree.{Tree}
use Rattle.kr_classes_table.specs.Table.{Field, Heading, Method, Parameter, headings_of, method_named, table_of}
use Rattle.kr_fin.specs.declared.document.FinDoc.{FinDoc}
use Rattle.kr_mean.specs.Entries.{all_entries}
use Rattle.kr_mean.specs.Problem.{Problem, ClassDomain, Domain}
use Rattle.kr_mean.specs.Runs.{root_class, tested_method}
use Rattle.kr_mean.specs.declared.mode.Mode.{Mode}
use Rattle.kr_mean.specs.declared.mode.Mode.TheVariants.{List as Listing, Method as Testing}
use Rattle.kr_space_meaning.specs.Bounds.{bounded, declared, domains_of, parameter_key, parameter_values, problem_in, problem_of, setting_of, tested_parameters}
use Rattle.kr_space_meaning.specs.Meaning.{faults_of}
use Rattle.kr_space_meaning.proofs.Each.{each_weaker}
use Rattle.kr_space_meaning.proofs.WellFormed.{well_formed}
use Rattle.kr_laws_never_stuck.proofs.Accepted.{posed}
use Rattle.kr_laws_never_stuck.specs.Apart.{all_fields}
use Rattle.kr_laws_never_stuck.specs.Accepted.{IsAccepted}
use Rattle.kr_report.specs.Texts.{parameter_names}
use Rattle.kr_shard_laws.proofs.SourceNames.{named}
use Rattle.kr_shard_laws.specs.Names.{IsIdentifier, all_methods}
use Rattle.kr_shard_laws.proofs.Law.{shard_law}
use Rattle.kr_shard_laws.specs.Entries.{AcceptedLinesLaw, MakesLines}
use Rattle.kr_shard_laws.proofs.EntryTexts.{entries_listed}
use Rattle.kr_shard_laws.proofs.Numbers.{IsLine}
use Rattle.kr_shard_laws.specs.Problems.{AcceptedShardsLaw, ListingLaw}
use Rattle.kr_shard_laws.proofs.Counts.{HasFew, read_few}
use Rattle.kr_shard_laws.proofs.Fields.{of_objects}
use Rattle.kr_shard_laws.proofs.Methods.{of_named}
use Rattle.kr_shard_laws.proofs.ProblemNames.{name_line}
use Rattle.kr_shard_laws.proofs.Sizes.{AreNumbered, IsGood, IsSmall, domains_good, numbered, parameters_small, slot_small}

-- ---- the parts of the problem

pub record HasParts (files : List Tree) (document : FinDoc) (mode : Mode) : Type 0 where
  pub mode_is : (problem_of files document mode).mode ≡ mode
  pub parameters : (problem_of files document mode).parameters ≡ map (λ p. parameter_values (setting_of files document) (parameter_key mode p)) (tested_parameters (setting_of files document) mode)
  pub domains : (problem_of files document mode).domains ≡ domains_of (setting_of files document)
  pub table : (problem_of files document mode).program.table ≡ table_of files
  pub headings : (setting_of files document).table.headings ≡ headings_of files
  pub objects : (setting_of files document).objects ≡ declared (setting_of files document).table.headings (setting_of files document).document.objects
  pub arrays : (setting_of files document).arrays ≡ bounded (setting_of files document).table.headings (setting_of files document).document.arrays
  pub document_is : (setting_of files document).document ≡ document

pub parts : (files : List Tree) (document : FinDoc) (mode : Mode) → HasParts files document mode
unfolding problem_in setting_of table_of
parts files document mode = record { mode_is = refl; parameters = refl; domains = refl; table = refl; headings = refl; objects = refl; arrays = refl; document_is = refl }

-- ---- the parameters of the method under test

abbrev HasLines : Method → Type 0
HasLines m = AllByRecursion (λ p. IsLine p.name) m.parameters

parameter_lines : (ps : List Parameter) → AllByRecursion (λ p. IsLine p.name) ps → AllByRecursion (λ name. IsLine name) (map (λ p. p.name) ps)
parameter_lines [] h = tt
parameter_lines (p ∷ ps) h = (h.0, parameter_lines ps h.1)

tested_lines : (problem : Problem) (mode : Mode) → AllByRecursion HasLines (all_methods problem.program.table) → AllByRecursion (λ name. IsLine name) (parameter_names (tested_method problem mode))
tested_lines problem Listing h = tt
tested_lines problem (Testing n) h = go (method_named problem.program.table (root_class problem) n) refl
  where
    go : (o : Option Method) → method_named problem.program.table (root_class problem) n ≡ o → AllByRecursion (λ name. IsLine name) (parameter_names o)
    go None is = tt
    go (Some m) is = parameter_lines m.parameters (of_named HasLines problem.program.table (root_class problem) n m h is)

module _ (files : List Tree) (document : FinDoc) (mode : Mode) (unbroken : faults_of files document mode ≡ []) (few : HasFew document) (classes : AllByRecursion (λ h. IsLine h.name) (headings_of files))
    (fields : AllByRecursion (λ f. IsLine f.name) (all_fields (table_of files))) (methods : AllByRecursion HasLines (all_methods (table_of files))) where
  abbrev mine : Problem
  mine = problem_of files document mode

  abbrev P : HasParts files document mode
  P = parts files document mode

  numbers : AreNumbered mine (setting_of files document)
  numbers = numbered mine (setting_of files document) mode unbroken

  good : AllByRecursion (IsGood mine) mine.domains
  good =
      let setting = setting_of files document in
      subst (λ (ds : List ClassDomain). AllByRecursion (IsGood mine) ds) (sym P.domains)
      (domains_good mine setting numbers
      (subst HasFew (sym P.document_is) few)
      (subst (λ (hs : List Heading). AllByRecursion (λ h. IsLine h.name) hs) (sym P.headings) classes) P.objects P.arrays)

  pub makes : MakesLines mine
  makes = record {
    formed = well_formed files document mode unbroken;
    few = numbers.few;
    small = slot_small mine (subst (λ (ds : List Domain). AllByRecursion (IsSmall mine) ds) (sym P.parameters) (parameters_small mine (setting_of files document) numbers mode (tested_parameters (setting_of files document) mode))) good;
    domains = each_weaker (IsGood mine) (λ d. IsLine d.name) mine.domains (λ d g. g.name) good;
    fields = λ c. of_objects (λ f. IsLine f.name) mine.program.table c
        (subst (λ t. AllByRecursion (λ f. IsLine f.name) (all_fields t)) (sym P.table) fields);
    parameters = tested_lines mine mine.mode (subst (λ t. AllByRecursion HasLines (all_methods t)) (sym P.table) methods);
  }

pub accepted_lines : AcceptedLinesLaw
accepted_lines sources bytes mode problem h =
    let p = posed h.files h.document mode problem h.posed in
    let names = named sources h.files h.read in
    let classes = each_weaker (λ x. IsIdentifier x.name) (λ (x : Heading). IsLine x.name) (headings_of h.files) (λ x n. name_line x.name n.name) names.classes in
    let fields = each_weaker (λ x. IsIdentifier x.name) (λ (x : Field). IsLine x.name) (all_fields (table_of h.files)) (λ x n. name_line x.name n.name) names.fields in
    let methods = each_weaker (λ m. AllByRecursion (λ p. IsIdentifier p.name) m.parameters) HasLines (all_methods (table_of h.files))
    (λ m n. each_weaker (λ p. IsIdentifier p.name) (λ (p : Parameter). IsLine p.name) m.parameters (λ p k. name_line p.name k.name) n) names.parameters in
    subst (λ (x : Problem). MakesLines x) p.is (makes h.files h.document mode p.unbroken (read_few bytes h.document h.stated) classes fields methods)

pub mode_of : (sources : List (List ℕ)) (bytes : List ℕ) (mode : Mode) (problem : Problem) → IsAccepted sources bytes mode problem → problem.mode ≡ mode
mode_of sources bytes mode problem h =
    let p = posed h.files h.document mode problem h.posed in
    ap (λ (x : Problem). x.mode) (sym p.is) ∙ (parts h.files h.document mode).mode_is

pub listing : ListingLaw
listing sources bytes problem h = entries_listed problem (mode_of sources bytes Listing problem h) (accepted_lines sources bytes Listing problem h)

pub shards : AcceptedShardsLaw
shards sources bytes problem spans given after upto h some few adjoin mixed short =
    shard_law problem (all_entries problem) spans given after upto (listing sources bytes problem h) some few adjoin mixed short
