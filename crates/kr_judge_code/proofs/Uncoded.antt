-- Nodes without code have no meaning as code.
use Rattle.std.proofs.Common.{◌≡◌, refl, true, false, None}
use Rattle.kr_ast.specs.Tree as trees
use Rattle.kr_ast.specs.Tree.{Tree}
use Rattle.kr_types_meaning.specs.Scopes.{Scope}
use Rattle.kr_code.specs.Resolved.{IsCatch, IsDeclarator, Numbering, is_no_expression, is_no_statement}
use Rattle.kr_code_lowering.specs.Origins.{has_code}

pub no_code_expression : (t : Tree) → has_code t ≡ false → is_no_expression t ≡ true
no_code_expression trees.Nil h = refl
no_code_expression (trees.Cons a b) h = refl
no_code_expression (trees.PrimitiveType p k) h = refl
no_code_expression (trees.NamedType p n) h = refl
no_code_expression (trees.QualifiedType p o n) h = refl
no_code_expression (trees.GenericType p g a) h = refl
no_code_expression (trees.DiamondType p g) h = refl
no_code_expression (trees.ArrayType p t) h = refl
no_code_expression (trees.ConstructorCall p es) h = refl
no_code_expression (trees.Class p n s ms) h = refl
no_code_expression (trees.Field p st fn t ds) h = refl
no_code_expression (trees.Method p st n s b) h = refl
no_code_expression (trees.Signature p r ps cs) h = refl
no_code_expression (trees.Parameter p t n) h = refl
no_code_expression (trees.Constructor p ps call b) h = refl
no_code_expression (trees.Requires p e) h = refl
no_code_expression (trees.Ensures p e) h = refl
no_code_expression (trees.Signals p d e) h = refl
no_code_expression _ h = absurd (cc (h))

pub no_code_statement : (t : Tree) → has_code t ≡ false → is_no_statement t ≡ true
no_code_statement trees.Nil h = refl
no_code_statement (trees.Cons a b) h = refl
no_code_statement (trees.PrimitiveType p k) h = refl
no_code_statement (trees.NamedType p n) h = refl
no_code_statement (trees.QualifiedType p o n) h = refl
no_code_statement (trees.GenericType p g a) h = refl
no_code_statement (trees.DiamondType p g) h = refl
no_code_statement (trees.ArrayType p t) h = refl
no_code_statement (trees.ConstructorCall p es) h = refl
no_code_statement (trees.Class p n s ms) h = refl
no_code_statement (trees.Field p st fn t ds) h = refl
no_code_statement (trees.Method p st n s b) h = refl
no_code_statement (trees.Signature p r ps cs) h = refl
no_code_statement (trees.Parameter p t n) h = refl
no_code_statement (trees.Constructor p ps call b) h = refl
no_code_statement (trees.Requires p e) h = refl
no_code_statement (trees.Ensures p e) h = refl
no_code_statement (trees.Signals p d e) h = refl
no_code_statement _ h = absurd (cc (h))

pub no_code_declarator : (q : Numbering) (s : Scope) (t : Tree) → has_code t ≡ false → IsDeclarator q s t None
no_code_declarator q z trees.Nil h = tt
no_code_declarator q z (trees.Cons a b) h = tt
no_code_declarator q z (trees.PrimitiveType p k) h = tt
no_code_declarator q z (trees.NamedType p n) h = tt
no_code_declarator q z (trees.QualifiedType p o n) h = tt
no_code_declarator q z (trees.GenericType p g a) h = tt
no_code_declarator q z (trees.DiamondType p g) h = tt
no_code_declarator q z (trees.ArrayType p t) h = tt
no_code_declarator q z (trees.ConstructorCall p es) h = tt
no_code_declarator q z (trees.Class p n s ms) h = tt
no_code_declarator q z (trees.Field p st fn t ds) h = tt
no_code_declarator q z (trees.Method p st n s b) h = tt
no_code_declarator q z (trees.Signature p r ps cs) h = tt
no_code_declarator q z (trees.Parameter p t n) h = tt
no_code_declarator q z (trees.Constructor p ps call b) h = tt
no_code_declarator q z (trees.Requires p e) h = tt
no_code_declarator q z (trees.Ensures p e) h = tt
no_code_declarator q z (trees.Signals p d e) h = tt
no_code_declarator q z _ h = absurd (cc (h))

pub no_code_catch : (q : Numbering) (s : Scope) (t : Tree) → has_code t ≡ false → IsCatch q s t None
no_code_catch q z trees.Nil h = tt
no_code_catch q z (trees.Cons a b) h = tt
no_code_catch q z (trees.PrimitiveType p k) h = tt
no_code_catch q z (trees.NamedType p n) h = tt
no_code_catch q z (trees.QualifiedType p o n) h = tt
no_code_catch q z (trees.GenericType p g a) h = tt
no_code_catch q z (trees.DiamondType p g) h = tt
no_code_catch q z (trees.ArrayType p t) h = tt
no_code_catch q z (trees.ConstructorCall p es) h = tt
no_code_catch q z (trees.Class p n s ms) h = tt
no_code_catch q z (trees.Field p st fn t ds) h = tt
no_code_catch q z (trees.Method p st n s b) h = tt
no_code_catch q z (trees.Signature p r ps cs) h = tt
no_code_catch q z (trees.Parameter p t n) h = tt
no_code_catch q z (trees.Constructor p ps call b) h = tt
no_code_catch q z (trees.Requires p e) h = tt
no_code_catch q z (trees.Ensures p e) h = tt
no_code_catch q z (trees.Signals p d e) h = tt
no_code_catch q z _ h = absurd (cc (h))
