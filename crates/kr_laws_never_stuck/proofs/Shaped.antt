-- Code is as the grammar derives it, and the array types that it creates have numbers.
use Rattle.std.specs.Prelude.{◌≡◌, ℕ, true, false, List, [], ◌∷◌, Some}
use Rattle.kr_ast.specs.Tree as trees
use Rattle.kr_ast.specs.Tree.{Tree}
use Rattle.kr_classes_table.specs.Types.{JavaType}
use Rattle.kr_classes_table.specs.Table.{Class, Field, Method, Constructor, class_at}
use Rattle.kr_types_meaning.specs.Scopes.{Scope, after}
use Rattle.kr_types_meaning.specs.Rules.{is_after_body}
use Rattle.kr_laws_types.specs.Shapes.{Expression, Expressions, Statement, IsCode}
use Rattle.kr_laws_types.specs.Expressions.{plain}
use Rattle.kr_mean.specs.Program.{Program, method_scope, constructor_scope}
use Rattle.kr_mean.specs.Purity.{IsOneOf}
use Rattle.kr_laws_safety.specs.Typed.{Olds}

-- statements in order, of the grammar's shape, each in the scope that those before it leave
abbrev pub AreStatements : List JavaType → Olds → Scope → List Tree → Type 0
AreStatements arrays olds s [] = Unit {0}
AreStatements arrays olds s (t ∷ ts) = IsCode arrays olds (Statement true) (plain s) t × AreStatements arrays olds (after s t) ts

-- the arguments of a call of the superclass's constructor
abbrev pub AreSuperArguments : List JavaType → Olds → Scope → Tree → Type 0
AreSuperArguments arrays olds s (trees.ConstructorCall p es) = IsCode arrays olds Expressions s es
AreSuperArguments arrays olds s t = Unit {0}

-- The code of a program is as the grammar derives it, and the array types that it creates have numbers.
pub record HasCode (program : Program) : Type 0 where
  pub initials : (c : ℕ) (d : Class) (f : Field) → class_at program.table.classes c ≡ Some d → IsOneOf f d.fields → (olds : Olds) (s : Scope) → s.table ≡ program.table → is_after_body s.part ≡ false → IsCode program.arrays olds (Expression true) s f.initial
  pub bodies : (c : ℕ) (d : Class) (m : Method) → class_at program.table.classes c ≡ Some d → IsOneOf m d.methods → (olds : Olds) → AreStatements program.arrays olds (method_scope program m) m.body
  pub constructors : (c : ℕ) (d : Class) (k : Constructor) → class_at program.table.classes c ≡ Some d → IsOneOf k d.constructors → (olds : Olds) → AreSuperArguments program.arrays olds (constructor_scope program c k) k.call × AreStatements program.arrays olds (constructor_scope program c k) k.body
