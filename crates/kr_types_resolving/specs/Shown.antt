-- Between crates: meanings by number, and what they are found in.
use Rattle.std.specs.Prelude.{◌≡◌, ℕ, ◌<◌, List, length, slice_index_or}
use Rattle.kr_ast.specs.Tree.{Tree}
use Rattle.kr_classes_table.specs.Table.{Table}
use Rattle.kr_types_meaning.specs.Scopes.{Scope}
use Rattle.kr_classes_names.specs.Shown.{AreHeads}
use Rattle.kr_classes_members.specs.Shown.{table_in}
use Rattle.kr_classes_members.specs.Kept.{AreMembers}
use Rattle.kr_classes_members.specs.Rosters.{IsRoster, all_fields, all_methods, field_numbered, method_numbered}
use Rattle.kr_types_resolving.specs.Meanings as meanings
use Rattle.kr_types_resolving.specs.declared.classes.Classes.{Classes}
use Rattle.kr_types_resolving.specs.declared.meaning.Meaning.{Meaning}
use Rattle.kr_types_resolving.specs.declared.meaning.Meaning.TheVariants as kept

abbrev pub meaning_shown : Table → Meaning → meanings.Meaning
meaning_shown t kept.Nothing = meanings.Nothing
meaning_shown t (kept.Local k) = meanings.Local k
meaning_shown t (kept.Instance k) = meanings.Instance (field_numbered t k)
meaning_shown t (kept.Constant k) = meanings.Constant (field_numbered t k)
meaning_shown t (kept.Class c) = meanings.Class c
meaning_shown t (kept.Virtual k) = meanings.Virtual (method_numbered t k)
meaning_shown t (kept.Static k) = meanings.Static (method_numbered t k)
meaning_shown t (kept.Super k) = meanings.Super (method_numbered t k)
meaning_shown t (kept.New c) = meanings.New c
meaning_shown t kept.NewSet = meanings.NewSet
meaning_shown t kept.NewList = meanings.NewList

-- the field or method that it speaks of is there
abbrev pub IsMeaningWithin : Table → Meaning → Type 0
IsMeaningWithin t (kept.Instance k) = k < length (all_fields t)
IsMeaningWithin t (kept.Constant k) = k < length (all_fields t)
IsMeaningWithin t (kept.Virtual k) = k < length (all_methods t)
IsMeaningWithin t (kept.Static k) = k < length (all_methods t)
IsMeaningWithin t (kept.Super k) = k < length (all_methods t)
IsMeaningWithin t m = Unit {0}

-- it is what a node in a scope means
pub record IsMeant (t : Table) (s : Scope) (e : Tree) (m : Meaning) : Type 0 where
  pub within : IsMeaningWithin t m
  pub shown : meaning_shown t m ≡ meanings.meaning s e

-- the meaning of a node by its number
abbrev pub meaning_at : List Meaning → ℕ → Meaning
meaning_at ms i = slice_index_or ms i kept.Nothing

-- the class table of the files
abbrev pub table_of : Classes → Table
table_of c = table_in c.trees.now

pub record AreClasses (c : Classes) : Type 0 where
  pub heads : AreHeads c.trees.now c.heads.now
  pub members : AreMembers c.trees.now c.members.now
  pub roster : IsRoster c.trees.now c.roster.now
