-- Between crates: what the class rules give of a program where none is broken.
use Rattle.std.specs.Prelude.{◌≡◌, ℕ, true, false, List, Some, None}
use Rattle.kr_ast.specs.Tree.{Tree}
use Rattle.kr_value.specs.declared.object.Class.TheVariants.{Object}
use Rattle.kr_classes_table.specs.Types.{JavaType}
use Rattle.kr_classes_table.specs.Table.{Field, Method, table_of, line_of, is_below, is_assignable, field_named, method_named}
use Rattle.kr_classes_table.specs.Rules.{class_fault}
use Rattle.kr_mean.specs.Program.{Program, program_with, overriding}
use Rattle.kr_laws_safety.specs.Steps.{HasField}
use Rattle.kr_laws_safety.specs.Typed.{types_in, IsLine}

-- a field that a class or an ancestor declares, as far as classes go: where its objects have it
pub record IsDeclared (program : Program) (c : ℕ) (n : List ℕ) (f : Field) : Type 0 where
  pub name : f.name ≡ n
  pub below : is_below program.table c f.class ≡ true
  pub instance : f.is_static ≡ false → HasField program c f.name f.type

-- the method k that objects of the class d run where m is called: it has the same parameters, and its result may replace that
-- of m
pub record IsOverrider (program : Program) (d : ℕ) (m k : Method) : Type 0 where
  pub found : overriding program m (Object d) ≡ Some k
  pub named : method_named program.table d m.name ≡ Some k
  pub instance : k.is_static ≡ false
  pub below : is_below program.table d k.class ≡ true
  pub parameters : types_in k.parameters ≡ types_in m.parameters
  pub result : is_assignable program.table k.result m.result ≡ true

-- Ancestors of ancestors are ancestors, and lines of classes are whole. A field is at one place of all objects that have it,
-- and a method is overridden only by methods that may replace it.
pub record FollowsClassRules (program : Program) : Type 0 where
  pub below : (c d e : ℕ) → is_below program.table c d ≡ true → is_below program.table d e ≡ true → is_below program.table c e ≡ true
  pub lines : (c : ℕ) → IsLine program.table (line_of program.table c)
  pub fields : (c : ℕ) (n : List ℕ) (f : Field) → field_named program.table c n ≡ Some f → IsDeclared program c n f
  pub methods : (c : ℕ) (n : List ℕ) (m : Method) → method_named program.table c n ≡ Some m → is_below program.table c m.class ≡ true
  pub overridden : (c : ℕ) (n : List ℕ) (m : Method) (d : ℕ) → method_named program.table c n ≡ Some m → m.is_static ≡ false → is_below program.table d c ≡ true → (k : Method) × IsOverrider program d m k

abbrev pub ClassRulesLaw : Type 0
ClassRulesLaw = (files : List Tree) (arrays : List JavaType) → class_fault (table_of files) ≡ None → FollowsClassRules (program_with (table_of files) arrays)
