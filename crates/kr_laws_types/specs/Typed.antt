-- Between crates: expressions without broken nodes have types.
use Rattle.std.specs.Prelude.{◌≡◌, ℕ, true, false, List, [], ◌∷◌, Some}
use Rattle.kr_ast.specs.Tree.{Tree}
use Rattle.kr_classes_table.specs.Types.{JavaType, is_known}
use Rattle.kr_classes_table.specs.Table.{Table, field_named, method_named}
use Rattle.kr_types_meaning.specs.Scopes.{Scope, Local}
use Rattle.kr_types_meaning.specs.Typing.{judged, type_in}
use Rattle.kr_laws_types.specs.DerivedExpressions.{Shaped}

abbrev pub AreKnown : List Local → Type 0
AreKnown [] = Unit {0}
AreKnown (l ∷ ls) = (is_known l.type ≡ true) × AreKnown ls

-- the types that are written in a program are known: rule T1
pub record AreTypesKnown (table : Table) : Type 0 where
  pub fields : (c : ℕ) (n : List ℕ) (f : _) → field_named table c n ≡ Some f → is_known f.type ≡ true
  pub results : (c : ℕ) (n : List ℕ) (m : _) → method_named table c n ≡ Some m → is_known m.result ≡ true

-- In a scope whose names have known types, an expression without broken nodes has a type.
abbrev pub TypedLaw : Type 0
TypedLaw = (s : Scope) (e : Tree) → AreTypesKnown s.table → AreKnown s.locals → is_known s.result ≡ true → Shaped false e → (judged s e).faults ≡ [] → (t : JavaType) × (type_in (judged s e).typed ≡ Some t)
