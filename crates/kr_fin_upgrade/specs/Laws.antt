-- To be believed: carried over to version 2, an accepted finitization stays accepted, with the same problem.
use Rattle.std.specs.Prelude.{◌≡◌, ◌==◌, true, false, List, []}
use Rattle.std.specs.List.{AllByRecursion}
use Rattle.kr_ast.specs.Tree.{Tree}
use Rattle.kr_classes_table.specs.Table.{Heading, headings_of}
use Rattle.kr_mean.specs.declared.mode.Mode.{Mode}
use Rattle.kr_fin.specs.declared.document.FinDoc.{FinDoc}
use Rattle.kr_fin.specs.Shapes.{is_domain_name}
use Rattle.kr_space_meaning.specs.Bounds.{problem_of}
use Rattle.kr_space_meaning.specs.Meaning.{faults_of}
use Rattle.kr_fin_upgrade.specs.Documents.{IsDocument}
use Rattle.kr_fin_upgrade.specs.Upgraded.{up}

-- each class is named as a domain may be: by an identifier other than null
abbrev pub AreDomainNames : List Heading → Type 0
AreDomainNames hs = AllByRecursion (λ h. is_domain_name h.name ≡ true) hs

-- A document breaks no rule, of its own and beside these files, and has this problem.
pub record Poses (files : List Tree) (mode : Mode) (document before : FinDoc) : Type 0 where
  pub document_is : IsDocument document
  pub unbroken : faults_of files document mode ≡ []
  pub problem : problem_of files document mode ≡ problem_of files before mode

abbrev pub UpgradeLaw : Type 0
UpgradeLaw = (files : List Tree) (d : FinDoc) (mode : Mode) → AreDomainNames (headings_of files) → IsDocument d → (d.version == 2) ≡ false → faults_of files d mode ≡ [] → Poses files mode (up d) d
