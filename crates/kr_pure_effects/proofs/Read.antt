-- The code that a node may run and the places it may write, by its meaning.
use Rattle.std.proofs.Common.{◌≡◌, refl, sym, ap, ◌∙◌, ℕ, Bool, true, false, cond, List, [], ◌∷◌}
use Rattle.std.specs.Prelude.{Option, Some, None, option_and_then, option_to_list}
use Rattle.kr_base.specs.declared.place.Place.{Place}
use Rattle.kr_ast.specs.Tree as trees
use Rattle.kr_ast.specs.Tree.{Tree}
use Rattle.kr_ast.specs.Arena.{name_in, tree_of}
use Rattle.kr_ast.specs.declared.node.Node.{Node}
use Rattle.kr_ast.specs.declared.node.Node.TheVariants as nodes
use Rattle.kr_value.specs.declared.object.Class.{Class}
use Rattle.kr_classes_table.specs.Types.{JavaType, ClassType}
use Rattle.kr_classes_table.specs.Table.{Field, Method, Table, method_named, number_of}
use Rattle.kr_classes_table.specs.Constants.{constant_of}
use Rattle.kr_types_meaning.specs.Scopes.{Scope, Meant, LocalName, FieldName, NoName, class_before, meant, method_meant, static_only, super_class, written}
use Rattle.kr_types_meaning.specs.Typing.{type_of}
use Rattle.kr_types_meaning.specs.Running.{running}
use Rattle.kr_laws_types.proofs.Loops.{running_same}
use Rattle.kr_mean.specs.Program.{Program}
use Rattle.kr_mean.specs.Code.{methods_run, overriders, runnable, runnable_behind}
use Rattle.kr_mean.specs.Meaning.{NoTarget, OwnField, field_of_type, field_target, method_of_type, name_target, target_of}
use Rattle.kr_mean.specs.Purity.{writes_to}
use Rattle.kr_types_resolving.specs.Meanings.{Meaning, Constant, Instance, Static, Virtual, class_meaning, creation_meaning, field_behind, field_meaning, field_of, instance_in, instance_only, meaning, method_behind, method_meaning, method_of, name_meaning, object_class, super_meaning}
use Rattle.kr_types_resolving.specs.Shown.{meaning_shown}
use Rattle.kr_types_resolving.specs.declared.meaning.Meaning as kept
use Rattle.kr_types_resolving.specs.declared.meaning.Meaning.TheVariants as variants
use Rattle.kr_types_resolving.proofs.Inside.{instance_behind}
use Rattle.kr_pure_effects.specs.Nodes.{runs_by}
use Rattle.kr_pure_effects.specs.Touches.{field_written}
use Rattle.kr_pure_effects.proofs.Parts.{class_running}

-- ---- calls

called_runs : (program : Program) (o : Option Method) → runnable program o ≡ runs_by program (method_meaning o)
called_runs program None = refl
called_runs program (Some m) = go m.is_static
  where
    go : (b : Bool) → cond b (m ∷ []) (overriders program m) ≡ runs_by program (cond b (Static m) (Virtual m))
    go true = refl
    go false = refl

static_runs : (program : Program) (o : Option Method) → option_to_list (option_and_then static_only o) ≡ runs_by program (method_meaning (option_and_then static_only o))
static_runs program None = refl
static_runs program (Some m) = go m.is_static refl
  where
    go : (b : Bool) → m.is_static ≡ b → option_to_list (cond b (Some m) None) ≡ runs_by program (method_meaning (cond b (Some m) None))
    go true h = sym (ap (λ v. runs_by program (cond v (Static m) (Virtual m))) h)
    go false h = refl

super_runs : (program : Program) (o : Option Method) → option_to_list o ≡ runs_by program (super_meaning o)
super_runs program None = refl
super_runs program (Some m) = refl

method_has : (t : Table) (n : List ℕ) (o : Option JavaType) → method_of_type t n o ≡ method_of t n (object_class o)
method_has t n None = refl
method_has t n (Some (ClassType c)) = refl
method_has t n (Some _) = refl

behind_runs : (program : Program) (s : Scope) (e : Tree) (n : List ℕ) (b : Option ℕ) → runnable_behind program (running s) e n b ≡ runs_by program (method_behind s.table n b (object_class (type_of s e)))
behind_runs program s e n (Some c) = static_runs program (method_named s.table c n)
behind_runs program s e n None =
    ap (λ (o : Option JavaType). runnable program (method_of_type s.table n o)) (running_same s e).type
    ∙ (ap (runnable program) (method_has s.table n (type_of s e)) ∙ called_runs program (method_of s.table n (object_class (type_of s e))))

-- ---- nodes that run nothing

field_runs : (program : Program) (o : Option Field) → [] ≡ runs_by program (field_meaning o)
field_runs program None = refl
field_runs program (Some f) = go f.is_static
  where
    go : (b : Bool) → [] ≡ runs_by program (cond b (Constant f) (Instance f))
    go true = refl
    go false = refl

class_runs : (program : Program) (o : Option ℕ) → [] ≡ runs_by program (class_meaning o)
class_runs program None = refl
class_runs program (Some c) = refl

name_runs : (program : Program) (t : Table) (n : List ℕ) (m : Meant) → [] ≡ runs_by program (name_meaning t n m)
name_runs program t n (LocalName k y) = refl
name_runs program t n (FieldName f) = field_runs program (Some f)
name_runs program t n NoName = class_runs program (number_of t.headings n)

access_runs : (program : Program) (t : Table) (n : List ℕ) (b o : Option ℕ) → [] ≡ runs_by program (field_behind t n b o)
access_runs program t n (Some c) o = field_runs program (constant_of t (Some c) n)
access_runs program t n None o = field_runs program (option_and_then instance_only (field_of t n o))

creation_runs : (program : Program) (t : JavaType) → [] ≡ runs_by program (creation_meaning t)
creation_runs program (ClassType c) = refl
creation_runs program _ = refl

-- a node runs the methods of its meaning
pub runs_law : (program : Program) (s : Scope) (t : Tree) → methods_run program (running s) t ≡ runs_by program (meaning s t)
runs_law program s (trees.Variable p n) = name_runs program s.table n (meant s n)
runs_law program s (trees.FieldAccess p e n) = access_runs program s.table n (class_before s e) (object_class (type_of s e))
runs_law program s (trees.Call p n es) = called_runs program (method_meant s n)
runs_law program s (trees.MethodCall p e n es) = ap (runnable_behind program (running s) e n) (class_running s e) ∙ behind_runs program s e n (class_before s e)
runs_law program s (trees.SuperCall p n es) = super_runs program (method_of s.table n (super_class s))
runs_law program s (trees.ObjectCreation p t es) = creation_runs program (written s t)
runs_law program s _ = refl

-- ---- writes

field_has : (t : Table) (n : List ℕ) (o : Option JavaType) → option_and_then instance_only (field_of t n (object_class o)) ≡ field_of_type t n o
field_has t n None = refl
field_has t n (Some (ClassType c)) = refl
field_has t n (Some _) = refl

-- of a meaning: nothing but a field of objects
written_field : (program : Program) (m : Meaning) (e : Tree) (class : Class) → writes_to program (field_target e (instance_in m)) class ≡ field_written program m class
written_field program (Instance f) e class = refl
written_field program _ e class = refl

named_class : (program : Program) (o : Option ℕ) (class : Class) → false ≡ field_written program (class_meaning o) class
named_class program None class = refl
named_class program (Some c) class = refl

written_name : (program : Program) (t : Table) (n : List ℕ) (m : Meant) (class : Class) → writes_to program (name_target m) class ≡ field_written program (name_meaning t n m) class
written_name program t n (LocalName k y) class = refl
written_name program t n (FieldName f) class = go f.is_static
  where
    go : (b : Bool) → writes_to program (cond b NoTarget (OwnField f)) class ≡ field_written program (cond b (Constant f) (Instance f)) class
    go true = refl
    go false = refl
written_name program t n NoName class = named_class program (number_of t.headings n) class

written_call : (program : Program) (o : Option Method) (class : Class) → false ≡ field_written program (method_meaning o) class
written_call program None class = refl
written_call program (Some m) class = go m.is_static
  where
    go : (b : Bool) → false ≡ field_written program (cond b (Static m) (Virtual m)) class
    go true = refl
    go false = refl

written_behind : (program : Program) (t : Table) (n : List ℕ) (b o : Option ℕ) (class : Class) → false ≡ field_written program (method_behind t n b o) class
written_behind program t n (Some c) o class = written_call program (option_and_then static_only (method_named t c n)) class
written_behind program t n None o class = written_call program (method_of t n o) class

written_super : (program : Program) (o : Option Method) (class : Class) → false ≡ field_written program (super_meaning o) class
written_super program None class = refl
written_super program (Some m) class = refl

written_creation : (program : Program) (t : JavaType) (class : Class) → false ≡ field_written program (creation_meaning t) class
written_creation program (ClassType c) class = refl
written_creation program _ class = refl

-- a write of a node that is no element writes the field of its meaning
pub write_law : (program : Program) (s : Scope) (text : List ℕ) (look : ℕ → Tree) (p : Place) (n : Node) (class : Class) → ((a i : ℕ) → n ≡ nodes.ArrayAccess a i → ⊥)
    → writes_to program (target_of (running s) (tree_of text look p n)) class ≡ field_written program (meaning s (tree_of text look p n)) class
write_law program s text look p (nodes.Variable x) class h = written_name program s.table (name_in text x) (meant s (name_in text x)) class
write_law program s text look p (nodes.FieldAccess a x) class h =
    ap (λ (o : Option JavaType). writes_to program (field_target (look a) (field_of_type s.table (name_in text x) o)) class) (running_same s (look a)).type
    ∙ (ap (λ (f : Option Field). writes_to program (field_target (look a) f) class) (sym (instance_behind s p (look a) (name_in text x) ∙ field_has s.table (name_in text x) (type_of s (look a))))
    ∙ written_field program (meaning s (trees.FieldAccess p (look a) (name_in text x))) (look a) class)
write_law program s text look p (nodes.ArrayAccess a i) class h = absurd (h a i refl)
write_law program s text look p (nodes.Call x es) class h = written_call program (method_meant s (name_in text x)) class
write_law program s text look p (nodes.MethodCall a x es) class h = written_behind program s.table (name_in text x) (class_before s (look a)) (object_class (type_of s (look a))) class
write_law program s text look p (nodes.SuperCall x es) class h = written_super program (method_of s.table (name_in text x) (super_class s)) class
write_law program s text look p (nodes.ObjectCreation t es) class h = written_creation program (written s (look t)) class
write_law program s text look p _ class h = refl

-- ---- by numbers

pub none_run : (program : Program) (t : Table) (m : kept.Meaning) → ((k : ℕ) → m ≡ variants.Virtual k → ⊥) → ((k : ℕ) → m ≡ variants.Static k → ⊥) → ((k : ℕ) → m ≡ variants.Super k → ⊥) → [] ≡ runs_by program (meaning_shown t m)
none_run program t (variants.Virtual k) a b c = absurd (a k refl)
none_run program t (variants.Static k) a b c = absurd (b k refl)
none_run program t (variants.Super k) a b c = absurd (c k refl)
none_run program t _ a b c = refl

pub written_so : (program : Program) (m : Meaning) (f : Field) (class : Class) → Some f ≡ instance_in m → field_written program (Instance f) class ≡ field_written program m class
written_so program (Instance g) f class e = let same : f ≡ g = cc in ap (λ (x : Field). field_written program (Instance x) class) same
written_so program _ f class e = absurd (cc (e))

pub unwritten : (program : Program) (m : Meaning) (class : Class) → None ≡ instance_in m → false ≡ field_written program m class
unwritten program (Instance g) class e = absurd (cc (e))
unwritten program _ class e = refl
