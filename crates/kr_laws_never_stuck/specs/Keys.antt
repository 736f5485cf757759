-- Between crates: when the keys of a finitization mean the fields and parameters that they are made of.
use Rattle.std.specs.Prelude.{◌≡◌, ℕ, true, false, List, find, bytes_eq, codes, Some}
use Rattle.std.specs.List.{AllByRecursion}
use Rattle.kr_classes_table.specs.Table.{Table, Field, Parameter, Method, own_fields, fields_of, method_named, number_of}
use Rattle.kr_mean.specs.Purity.{IsOneOf}
use Rattle.kr_fin.specs.declared.document.FinDoc.{FinDoc}
use Rattle.kr_fin.specs.Shapes.{is_pair}
use Rattle.kr_space_meaning.specs.Bounds.{class_name}

-- An instance field is the one of its name in its class, and its class the one of that name; it isn't named as elements are.
pub record IsKeyed (table : Table) (f : Field) : Type 0 where
  pub instance : f.is_static ≡ false
  pub class : number_of table.headings (class_name table f.class) ≡ Some f.class
  pub found : find (λ g. bytes_eq g.name f.name) (own_fields table f.class) ≡ Some f
  pub no_elements : bytes_eq f.name (codes "*") ≡ false

pub record HasKeys (table : Table) : Type 0 where
  pub fields : (c : ℕ) (f : Field) → IsOneOf f (fields_of table c) → IsKeyed table f
  -- a parameter is the one of its name in its method
  pub parameters : (c : ℕ) (n : List ℕ) (m : Method) (p : Parameter) → method_named table c n ≡ Some m → IsOneOf p m.parameters → find (λ q. bytes_eq q.name p.name) m.parameters ≡ Some p

-- the keys of a document are two parts with a dot between them
pub record HasPairs (document : FinDoc) : Type 0 where
  pub fields : AllByRecursion (λ d. is_pair d.key ≡ true) document.fields
  pub params : AllByRecursion (λ d. is_pair d.key ≡ true) document.params
