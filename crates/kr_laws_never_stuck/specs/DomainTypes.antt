-- Between crates: the domains of a problem have values of their slots' types.
use Rattle.std.specs.Prelude.{◌≡◌, List, []}
use Rattle.kr_ast.specs.Tree.{Tree}
use Rattle.kr_classes_table.specs.Table.{table_of}
use Rattle.kr_mean.specs.declared.mode.Mode.{Mode}
use Rattle.kr_fin.specs.declared.document.FinDoc.{FinDoc}
use Rattle.kr_space_meaning.specs.Bounds.{problem_of}
use Rattle.kr_space_meaning.specs.Limits.{IsWithinLimits}
use Rattle.kr_space_meaning.specs.Meaning.{faults_of}
use Rattle.kr_laws_safety.specs.Domains.{HaveDomainsTypes}
use Rattle.kr_laws_never_stuck.specs.Keys.{HasKeys, HasPairs}

abbrev pub DomainTypesLaw : Type 0
DomainTypesLaw = (files : List Tree) (document : FinDoc) (mode : Mode) → HasKeys (table_of files) → HasPairs document → IsWithinLimits document → faults_of files document mode ≡ [] → HaveDomainsTypes (problem_of files document mode)
