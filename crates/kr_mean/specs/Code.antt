-- To be believed: the nodes of code with their scopes, each before those of its parts: the scopes are handed down as the meaning
-- does. What only holds lists together is no node, and types aren't code.
use Rattle.std.specs.Prelude.{ℕ, List, [], ◌∷◌, ◌++◌, flat_map, length, if◌then◌else◌, Option, Some, None, option_and_then, option_to_list}
use Rattle.std.specs.List.{range_with_len}
use Rattle.kr_ast.specs.Tree as trees
use Rattle.kr_ast.specs.Tree.{Tree}
use Rattle.kr_value.specs.declared.object.Class.TheVariants.{Object}
use Rattle.kr_classes_table.specs.Types.{JavaType, ClassType}
use Rattle.kr_classes_table.specs.Table.{Method, Constructor, line_of, method_named}
use Rattle.kr_types_meaning.specs.Scopes.{Scope, written, bind_local, in_old, after, class_before, static_only, method_meant}
use Rattle.kr_mean.specs.Program.{Program, overriding, class_scope, method_scope, constructor_scope, constructor_of, declared_fields}
use Rattle.kr_mean.specs.Meaning.{typed_method, super_method, declaring_locals}

pub record Node : Type 0 where
  pub scope : Scope
  pub tree : Tree

abbrev pub here : Scope → Tree → List Node → List Node
here s t ns = record { scope = s; tree = t } ∷ ns

abbrev pub code : Scope → Tree → List Node
code s (trees.Cons a b) = code s a ++ code (after s a) b
code s (trees.Number p n) = here s (trees.Number p n) []
code s (trees.LongNumber p n) = here s (trees.LongNumber p n) []
code s (trees.Truth p b) = here s (trees.Truth p b) []
code s (trees.Null p) = here s (trees.Null p) []
code s (trees.This p) = here s (trees.This p) []
code s (trees.Variable p n) = here s (trees.Variable p n) []
code s (trees.FieldAccess p e n) = here s (trees.FieldAccess p e n) (code s e)
code s (trees.ArrayAccess p a i) = here s (trees.ArrayAccess p a i) (code s a ++ code s i)
code s (trees.Call p n es) = here s (trees.Call p n es) (code s es)
code s (trees.MethodCall p e n es) = here s (trees.MethodCall p e n es) (code s e ++ code s es)
code s (trees.SuperCall p n es) = here s (trees.SuperCall p n es) (code s es)
code s (trees.ObjectCreation p t es) = here s (trees.ObjectCreation p t es) (code s es)
code s (trees.ArrayCreation p t e) = here s (trees.ArrayCreation p t e) (code s e)
code s (trees.Unary p o e) = here s (trees.Unary p o e) (code s e)
code s (trees.Step p o e) = here s (trees.Step p o e) (code s e)
code s (trees.Binary p o a b) = here s (trees.Binary p o a b) (code s a ++ code s b)
code s (trees.InstanceOf p e t) = here s (trees.InstanceOf p e t) (code s e)
code s (trees.Conditional p c a b) = here s (trees.Conditional p c a b) (code s c ++ code s a ++ code s b)
code s (trees.Cast p t e) = here s (trees.Cast p t e) (code s e)
code s (trees.Assignment p a e) = here s (trees.Assignment p a e) (code s a ++ code s e)
code s (trees.CompoundAssignment p o a e) = here s (trees.CompoundAssignment p o a e) (code s a ++ code s e)
code s (trees.Result p) = here s (trees.Result p) []
code s (trees.Old p e) = here s (trees.Old p e) (code (in_old s) e)
code s (trees.Empty p) = here s (trees.Empty p) []
code s (trees.Block p ts) = here s (trees.Block p ts) (code s ts)
code s (trees.Local p t ds) = here s (trees.Local p t ds) (code (declaring_locals s t) ds)
code s (trees.Declarator p n e) = here s (trees.Declarator p n e) (code (bind_local n s.declared s) e)
code s (trees.ExpressionStatement p e) = here s (trees.ExpressionStatement p e) (code s e)
code s (trees.Return p e) = here s (trees.Return p e) (code s e)
code s (trees.Break p) = here s (trees.Break p) []
code s (trees.Continue p) = here s (trees.Continue p) []
code s (trees.IfThen p e a) = here s (trees.IfThen p e a) (code s e ++ code s a)
code s (trees.IfElse p e a b) = here s (trees.IfElse p e a b) (code s e ++ code s a ++ code s b)
code s (trees.While p e a) = here s (trees.While p e a) (code s e ++ code s a)
code s (trees.Do p a e) = here s (trees.Do p a e) (code s a ++ code s e)
code s (trees.For p i e u a) = here s (trees.For p i e u a) (code s i ++ code (after s i) e ++ code (after s i) u ++ code (after s i) a)
code s (trees.Throw p e) = here s (trees.Throw p e) (code s e)
code s (trees.Try p b cs) = here s (trees.Try p b cs) (code s b ++ code s cs)
code s (trees.Catch p d b) = here s (trees.Catch p d b) (code (after s d) b)
code s (trees.ConstructorCall p es) = here s (trees.ConstructorCall p es) (code s es)
code s t = []

-- the nodes of statements in order
abbrev pub code_of_all : Scope → List Tree → List Node
code_of_all s [] = []
code_of_all s (t ∷ ts) = code s t ++ code_of_all (after s t) ts

abbrev pub code_of_method : Program → Method → List Node
code_of_method program m = code_of_all (method_scope program m) m.body

abbrev pub code_of_constructor : Program → ℕ → Constructor → List Node
code_of_constructor program c k = let s = constructor_scope program c k in code s k.call ++ code_of_all s k.body

-- the code of one class that the creation of an object runs: the initial values of fields, and the constructor
abbrev pub code_of_class : Program → ℕ → List Node
code_of_class program c =
    flat_map (λ f. code (class_scope program f.class) f.initial) (declared_fields program c) ++ flat_map (code_of_constructor program c) (option_to_list (constructor_of program c))

-- ---- the code that a node may run

-- a static method alone; of an instance method the one of each class at or below the class that declares it
abbrev pub overriders : Program → Method → List Method
overriders program m = flat_map (λ c. option_to_list (overriding program m (Object c))) (range_with_len 0 (length program.table.classes))

abbrev pub runnable : Program → Option Method → List Method
runnable program None = []
runnable program (Some m) = if m.is_static then m ∷ [] else overriders program m

abbrev pub runnable_behind : Program → Scope → Tree → List ℕ → Option ℕ → List Method
runnable_behind program s e n (Some c) = option_to_list (option_and_then static_only (method_named s.table c n))
runnable_behind program s e n None = runnable program (typed_method s e n)

-- the methods that a call may run
abbrev pub methods_run : Program → Scope → Tree → List Method
methods_run program s (trees.Call p n es) = runnable program (method_meant s n)
methods_run program s (trees.MethodCall p e n es) = runnable_behind program s e n (class_before s e)
methods_run program s (trees.SuperCall p n es) = option_to_list (super_method s n)
methods_run program s t = []

abbrev pub classes_of : Program → JavaType → List ℕ
classes_of program (ClassType c) = line_of program.table c
classes_of program t = []

-- the classes whose constructors and initial values a creation runs
abbrev pub classes_run : Program → Scope → Tree → List ℕ
classes_run program s (trees.ObjectCreation p t es) = classes_of program (written s t)
classes_run program s t = []

abbrev pub code_run : Program → Node → List Node
code_run program node = flat_map (code_of_method program) (methods_run program node.scope node.tree) ++ flat_map (code_of_class program) (classes_run program node.scope node.tree)
