-- Between crates: what holds of the ancestors of a class.
use Rattle.std.specs.Prelude.{◌≡◌, ℕ, ◌<◌, List, None, Some, false, length, true}
use Rattle.kr_ast.specs.Tree.{Tree}
use Rattle.kr_classes_table.specs.Table.{Table, ancestors, is_among, super_of, table_of}
use Rattle.kr_classes_table.specs.Rules.{class_fault}

-- no class is its own ancestor: class rule C3
abbrev pub IsAcyclic : Table → Type 0
IsAcyclic t = (c : ℕ) → is_among c (ancestors t c) ≡ false

-- a superclass is a class of the table
abbrev pub IsClosed : Table → Type 0
IsClosed t = (c d : ℕ) → super_of t c ≡ Some d → d < length t.classes

-- the line upwards is never cut: an ancestor's superclass is an ancestor
abbrev pub IsWhole : Table → Type 0
IsWhole t = (c d e : ℕ) → is_among d (ancestors t c) ≡ true → super_of t d ≡ Some e → is_among e (ancestors t c) ≡ true

abbrev pub AncestorsLaw : Type 0
AncestorsLaw = (t : Table) → IsAcyclic t → IsClosed t → IsWhole t

-- in the table of files that break no class rule
abbrev pub TableLaw : Type 0
TableLaw = (files : List Tree) → class_fault (table_of files) ≡ None → IsWhole (table_of files)
