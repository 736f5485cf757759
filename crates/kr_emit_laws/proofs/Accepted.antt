-- Accepted sources and finitizations: what builders need of them.
use Rattle.std.proofs.Common.{◌≡◌, ℕ, ◌<◌, ◌≤◌, List, length, sym, ap, subst}
use Rattle.kr_ast.specs.Tree.{Tree}
use Rattle.kr_value.specs.declared.object.Class.TheVariants.{Object, Array}
use Rattle.kr_classes_table.proofs.Tables.{table_law}
use Rattle.kr_classes_table.specs.Ancestors.{IsWhole}
use Rattle.kr_classes_table.specs.Table.{Table, table_of}
use Rattle.kr_classes_table.specs.Types.{ClassType}
use Rattle.kr_laws_never_stuck.proofs.Accepted.{posed, program_files, program_is}
use Rattle.kr_laws_never_stuck.proofs.Apart as places
use Rattle.kr_laws_never_stuck.proofs.Documents.{read_pairs}
use Rattle.kr_laws_never_stuck.proofs.Fields.{field_keyed, fields_apart}
use Rattle.kr_laws_never_stuck.proofs.Parameters.{parameter_found}
use Rattle.kr_laws_never_stuck.proofs.Programs.{well_typed}
use Rattle.kr_laws_never_stuck.proofs.Typed.{domains_typed}
use Rattle.kr_laws_never_stuck.proofs.Unbroken.{Unbroken, unbroken}
use Rattle.kr_laws_never_stuck.specs.Keys.{HasKeys}
use Rattle.kr_laws_never_stuck.specs.Accepted.{IsAccepted}
use Rattle.kr_laws_never_stuck.specs.WellTyped.{AreFiles}
use Rattle.kr_laws_safety.specs.Domains.{HaveDomainsTypes}
use Rattle.kr_laws_safety.specs.Typed.{IsTypedProgram}
use Rattle.kr_laws_pruning.proofs.Numbering.{width_at}
use Rattle.kr_mean.specs.Problem.{Problem, domain_at}
use Rattle.kr_mean.specs.Program.{Program}
use Rattle.kr_mean.specs.WellFormed.{IsWellFormed}
use Rattle.kr_mean.specs.declared.mode.Mode.{Mode}
use Rattle.kr_space.proofs.ReadLimits.{read_limits}
use Rattle.kr_space_meaning.proofs.WellFormed.{well_formed}
use Rattle.kr_space_meaning.specs.Bounds.{problem_of}
use Rattle.kr_types_meaning.proofs.WellTyped.{well_typed_law}
use Rattle.kr_types_meaning.specs.Typing.{IsWellTyped}
use Rattle.kr_emit_meaning.specs.Buildable.{array_elements}
use Rattle.kr_emit_laws.proofs.Numbered.{numbered}
use Rattle.kr_emit_laws.proofs.Posed.{IsSound, domains_sound, IsNamed}
use Rattle.kr_emit_laws.proofs.Wider.{IsNumbered}

-- what builders need of the sources and their problem
pub record IsSuited (files : List Tree) (problem : Problem) : Type 0 where
  pub formed : IsWellFormed problem
  pub domains : HaveDomainsTypes problem
  pub typed : IsTypedProgram problem.program
  pub table : problem.program.table ≡ table_of files
  pub rules : Unbroken problem.program.table
  pub whole : IsWhole problem.program.table
  pub objects : (d c : ℕ) → d < length problem.domains → (domain_at problem d).class ≡ Object c → IsNumbered problem.program.table c
  pub elements : (d k c : ℕ) → d < length problem.domains → (domain_at problem d).class ≡ Array k → array_elements problem.program k ≡ ClassType c → IsNumbered problem.program.table c
  pub short : (d k : ℕ) → d < length problem.domains → (domain_at problem d).class ≡ Array k → width_at problem d ≤ 65

pub suited : (sources : List (List ℕ)) (bytes : List ℕ) (mode : Mode) (problem : Problem) (a : IsAccepted sources bytes mode problem) → IsSuited a.files problem
suited sources bytes mode problem a =
    let files : List Tree = a.files in
    let p = posed files a.document mode problem a.posed in
    let mine : Problem = problem_of files a.document mode in
    let shapes : AreFiles files = program_files sources files a.read in
    let types : IsWellTyped files = (well_typed_law files).0 a.types in
    let limits = read_limits bytes a.document a.stated in
    let keys : HasKeys (table_of files) = record {
      fields = field_keyed files shapes a.classes types (places.fields_apart sources files a.read);
      parameters = parameter_found files shapes a.classes types;
    } in
    let more = program_is files a.document mode in
    let table : mine.program.table ≡ table_of files = ap (λ (x : Program). x.table) more.1 in
    let sound : (d : ℕ) → d < length mine.domains → IsSound files a.document limits mine.program.arrays (domain_at mine d) = domains_sound files a.document limits mode in
    let numbers : (c : ℕ) → IsNamed (table_of files).headings c → IsNumbered mine.program.table c = λ c n. subst (λ (t : Table). IsNumbered t c) (sym table) (numbered files shapes a.classes types n.0 c n.1) in
    subst (IsSuited files) p.is (record {
      formed = well_formed files a.document mode p.unbroken;
      domains = domains_typed files a.document mode keys (read_pairs bytes a.document a.stated) limits p.unbroken;
      typed = subst (λ (x : Program). IsTypedProgram x) (sym more.1) (well_typed files more.0 shapes a.classes types (fields_apart (table_of files) (places.fields_apart sources files a.read)));
      table = table;
      rules = subst Unbroken (sym table) (unbroken (table_of files) a.classes);
      whole = subst IsWhole (sym table) (table_law files a.classes);
      objects = λ d c l e. numbers c ((sound d l).objects c e);
      elements = λ d k c l e q. numbers c ((sound d l).elements k c e q);
      short = λ d k l e. (sound d l).short k e;
    })
