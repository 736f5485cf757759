-- Between crates: the names of classes, fields and parameters in files that were read, and how many contract lines a method has.
use Rattle.std.specs.Prelude.{◌≡◌, ℕ, ◌≤◌, List, flat_map, length}
use Rattle.std.specs.List.{AllByRecursion}
use Rattle.kr_lex.specs.declared.kind.Kind.{Kind}
use Rattle.kr_lex.specs.Spelling.{spelling}
use Rattle.kr_lex.specs.Words.{IsName}
use Rattle.kr_ast.specs.Tree.{Tree}
use Rattle.kr_classes_table.specs.Table.{Method, Table, headings_of, table_of}
use Rattle.kr_laws_never_stuck.specs.Apart.{all_fields}
use Rattle.kr_laws_never_stuck.specs.Grown.{AreProgram}

-- a name that is no keyword, nor `true`, `false` or `null`
pub record IsIdentifier (text : List ℕ) : Type 0 where
  pub name : IsName text
  pub own : (other : Kind) → text ≡ spelling other → ⊥

abbrev pub all_methods : Table → List Method
all_methods table = flat_map (λ d. d.methods) table.classes

-- Each class's name, also a nested one's, each field's and each parameter's of a method is an identifier.
pub record AreNamed (files : List Tree) : Type 0 where
  pub classes : AllByRecursion (λ h. IsIdentifier h.name) (headings_of files)
  pub fields : AllByRecursion (λ f. IsIdentifier f.name) (all_fields (table_of files))
  pub parameters : AllByRecursion (λ m. AllByRecursion (λ p. IsIdentifier p.name) m.parameters) (all_methods (table_of files))

abbrev pub NamesLaw : Type 0
NamesLaw = (sources : List (List ℕ)) (files : List Tree) → AreProgram sources files → AreNamed files

-- no method has more contract lines than a source may have bytes
abbrev pub ContractLinesLaw : Type 0
ContractLinesLaw = (most : ℕ) (sources : List (List ℕ)) (files : List Tree) → AllByRecursion (λ bytes. length bytes ≤ most) sources → AreProgram sources files → AllByRecursion (λ m. length m.contracts ≤ most) (all_methods (table_of files))
