-- Calls.
use Rattle.std.proofs.Common.{◌≡◌, refl, sym, ap, ◌∙◌, ℕ, ◌+◌, ◌<◌, List, length, subst, true, false, arith, inl, inr, Option, Some, None, Bool, cond, map}
use Rattle.std.specs.Prelude.{IfSome, option_and_then, slice_get}
use Rattle.std.proofs.lemmas.Option.{get_or_from_slice_get, slice_get_cases, slice_get_within}
use Rattle.kr_ast.specs.Tree.{Tree}
use Rattle.kr_ast.specs.Arena as arenas
use Rattle.kr_ast.specs.Arena.{name_in, tree_in, tree_of}
use Rattle.kr_ast.specs.declared.node.Name.{Name}
use Rattle.kr_ast.specs.declared.node.Entry.{Entry}
use Rattle.kr_ast.specs.declared.node.Node.{Node}
use Rattle.kr_ast.specs.declared.node.Node.TheVariants as nodes
use Rattle.kr_classes_table.specs.Table.{Method, items, method_named, Table, type_named}
use Rattle.kr_types_meaning.specs.Scopes.{Scope, class_before, method_meant, static_only, written}
use Rattle.kr_types_meaning.specs.Handing.{handed}
use Rattle.kr_types_meaning.specs.Running.{running}
use Rattle.kr_types.specs.declared.program.Program.{Program}
use Rattle.kr_types.specs.Programs.{IsProgram}
use Rattle.kr_mean.specs.Meaning.{super_method, typed_method, method_of_type}
use Rattle.kr_code.specs.declared.code.Code.{Code}
use Rattle.kr_code.specs.declared.expression.Nodes.{Nodes}
use Rattle.kr_code.specs.declared.expression.Callee.{Callee}
use Rattle.kr_code.specs.declared.expression.Callee.TheVariants as callees
use Rattle.kr_code.specs.declared.expression.Expression.TheVariants as expressions
use Rattle.kr_code.specs.Resolved as resolved
use Rattle.kr_code.specs.Resolved.{AreParts, IsMethod, IsPart}
use Rattle.kr_code.specs.Tables.{listed, class_at}
use Rattle.kr_classes_members.specs.Rosters.{all_methods, no_method, method_numbered}
use Rattle.kr_code_lowering.specs.declared.site.Site.{Site}
use Rattle.kr_code_members.specs.Nodes.{table}
use Rattle.kr_code_lowering.specs.Origins.{Final, node_scope, node_tree, numbering_of}
use Rattle.kr_code_lowering.specs.Sites.{Becomes, IsHere, Resolves, arena_at, scope_at, number_at}
use Rattle.kr_code_lowering.specs.Lists.{AreLinked}
use Rattle.kr_code_lowering.specs.Calls.{IsFound, IsOwnCallee, IsStaticCallee, IsCalledOn, IsCreator}
use Rattle.kr_classes_table.specs.Types.{JavaType}
use Rattle.kr_laws_types.proofs.Loops.{running_same}
use Rattle.kr_code.specs.declared.code.ClassCode.{ClassCode}
use Rattle.kr_code.specs.declared.expression.Expression.{Expression}
use Rattle.kr_code.specs.Collections.{call_named}
use Rattle.kr_types.proofs.Named.{named_there}
use Rattle.kr_code_lowering.proofs.Parts.{part_in, part_scope, tree_is}
use Rattle.kr_code_lowering.proofs.Naming.{class_running, parts_are, resolves_at, scope_table}

pub there : {A : Type 0} (xs : List A) (k : ℕ) → k < length xs → (x : A) × (slice_get xs k ≡ Some x)
there xs k h = elim (slice_get_cases xs k).1 [ inl w ↦ (w.0, w.2) | inr w ↦ absurd (omega (arith, w.0, h)) ]

-- the number of a method is one of the code's
pub method_is : (p : Program) (known : List (List ℕ)) (linked : List ℕ) (final : Final) (code : Code) → Becomes p known linked final code → (k : ℕ) (m : Method) → slice_get (all_methods (table p)) k ≡ Some m → IsMethod code (numbering_of p final) m k
method_is p known linked final code b k m e =
    let h : k < length code.methods.items = omega (arith, slice_get_within (all_methods (table p)) k m e, b.methods) in
    let w = there code.methods.items k h in
    record { is = get_or_from_slice_get (all_methods (table p)) k m (no_method (table p)) e; body = w.0; there = w.1 }

-- the links of a list are to its items, in the node's own scope
pub arguments_are : (p : Program) → IsProgram p → (known : List (List ℕ)) (linked : List ℕ) (final : Final) (code : Code) → Becomes p known linked final code → (s : Site) (e : Entry) (n : Node) → IsHere p s e → e.node ≡ n → (j c : ℕ) → arenas.IsPart (arena_at p s).entries s.node j c
    → (ns : Nodes) → AreLinked p (record s { node = c }) linked ns → (r : Scope) → running (handed (scope_at p s) (tree_of (arena_at p s).text (tree_in (arena_at p s)) e.place n) j) ≡ r → AreParts (numbering_of p final) r (items (node_tree p s.file c)) (listed code ns)
arguments_are p is known linked final code b s e n at it j c part ns links r runs =
    let scope : running (node_scope p s.file c) ≡ r = ap running (part_scope p is s at.site j c part ∙ ap (λ (t : Tree). handed (scope_at p s) t j) (tree_is p s e n at it)) ∙ runs in
    subst (λ (x : Scope). AreParts (numbering_of p final) x (items (node_tree p s.file c)) (listed code ns)) scope (links code.links.items b.links final)

module _ (p : Program) (program : IsProgram p) (arrays : List ℕ) (s : Site) (e : Entry) (at : IsHere p s e) (known : List (List ℕ)) (linked : List ℕ) (a : ℕ) (ns : Nodes) (links : AreLinked p (record s { node = a }) linked ns) where
  pub call_resolves : (n : Name) → e.node ≡ nodes.Call n a → (c : Callee) → IsOwnCallee p (method_meant (scope_at p s) (name_in (arena_at p s).text n)) c → Resolves p arrays s known linked (expressions.Call c ns)
  call_resolves n is callees.Unknown h = resolves_at p arrays s e (nodes.Call n a) at is known linked (expressions.Call callees.Unknown ns)
      (λ final code b. resolved.no_call e.place _ _ ns h (arguments_are p program known linked final code b s e (nodes.Call n a) at is 0 a (parts_are p s e (nodes.Call n a) at is).0 ns links (running (scope_at p s)) refl))
  call_resolves n is (callees.Static k) h = resolves_at p arrays s e (nodes.Call n a) at is known linked (expressions.Call (callees.Static k) ns)
      (λ final code b. resolved.static_call e.place _ _ h.0 k ns h.1 h.2 (method_is p known linked final code b k h.0 h.3) (arguments_are p program known linked final code b s e (nodes.Call n a) at is 0 a (parts_are p s e (nodes.Call n a) at is).0 ns links (running (scope_at p s)) refl))
  call_resolves n is (callees.Own k) h = resolves_at p arrays s e (nodes.Call n a) at is known linked (expressions.Call (callees.Own k) ns)
      (λ final code b. resolved.own_call e.place _ _ h.0 k ns h.1 h.2 (method_is p known linked final code b k h.0 h.3) (arguments_are p program known linked final code b s e (nodes.Call n a) at is 0 a (parts_are p s e (nodes.Call n a) at is).0 ns links (running (scope_at p s)) refl))
  call_resolves n is (callees.Super m) h = absurd h
  call_resolves n is (callees.New c) h = absurd h
  call_resolves n is callees.NewSet h = absurd h
  call_resolves n is callees.NewList h = absurd h

  pub super_resolves : (n : Name) → e.node ≡ nodes.SuperCall n a → (m : Option ℕ) → IsFound p m (super_method (scope_at p s) (name_in (arena_at p s).text n)) → Resolves p arrays s known linked (expressions.Call (callees.Super m) ns)
  super_resolves n is None h = resolves_at p arrays s e (nodes.SuperCall n a) at is known linked (expressions.Call (callees.Super None) ns)
      (λ final code b. resolved.no_super_call e.place _ _ ns h (arguments_are p program known linked final code b s e (nodes.SuperCall n a) at is 0 a (parts_are p s e (nodes.SuperCall n a) at is).0 ns links (running (scope_at p s)) refl))
  super_resolves n is (Some k) h = resolves_at p arrays s e (nodes.SuperCall n a) at is known linked (expressions.Call (callees.Super (Some k)) ns)
      (λ final code b. resolved.super_call e.place _ _ h.0 k ns h.1 (method_is p known linked final code b k h.0 h.2) (arguments_are p program known linked final code b s e (nodes.SuperCall n a) at is 0 a (parts_are p s e (nodes.SuperCall n a) at is).0 ns links (running (scope_at p s)) refl))

pub found_within : (p : Program) (m : Option ℕ) (f : Option Method) → IsFound p m f → IfSome m (λ k. k < length (all_methods (table p)))
found_within p None f h = tt
found_within p (Some k) f h = slice_get_within (all_methods (table p)) k h.0 h.2

-- ---- after a dot

typed_running : (s : Scope) (t : Tree) (x : List ℕ) → typed_method (running s) t x ≡ typed_method s t x
typed_running s t x = ap (λ (o : Option JavaType). method_of_type s.table x o) (running_same s t).type

module _ (p : Program) (program : IsProgram p) (arrays : List ℕ) (s : Site) (e : Entry) (at : IsHere p s e) (known : List (List ℕ)) (linked : List ℕ) (o a : ℕ) (n : Name) (is : e.node ≡ nodes.MethodCall o n a) (ns : Nodes) (links : AreLinked p (record s { node = a }) linked ns) where
  abbrev x : List ℕ
  x = name_in (arena_at p s).text n

  abbrev node : Node
  node = nodes.MethodCall o n a

  arguments : (final : Final) (code : Code) → Becomes p known linked final code → AreParts (numbering_of p final) (running (scope_at p s)) (items (node_tree p s.file a)) (listed code ns)
  arguments final code b = arguments_are p program known linked final code b s e node at is 1 a (parts_are p s e node at is).1.0 ns links (running (scope_at p s)) refl

  object : (final : Final) → IsPart (numbering_of p final) (running (scope_at p s)) (node_tree p s.file o) (number_at p s o)
  object final = part_in p program final s e node at is 0 o (parts_are p s e node at is).0 (running (scope_at p s)) refl

  pub static_resolves : (c : ℕ) (f : Callee) → class_before (scope_at p s) (node_tree p s.file o) ≡ Some c → IsStaticCallee p (option_and_then static_only (method_named (scope_at p s).table c x)) f → Resolves p arrays s known linked (expressions.Call f ns)
  static_resolves c callees.Unknown h m = resolves_at p arrays s e node at is known linked (expressions.Call callees.Unknown ns)
      (λ final code b. resolved.no_class_call e.place (node_tree p s.file o) x (node_tree p s.file a) c ns (class_running (scope_at p s) (node_tree p s.file o) ∙ h) m (arguments final code b))
  static_resolves c (callees.Static k) h m = resolves_at p arrays s e node at is known linked (expressions.Call (callees.Static k) ns)
      (λ final code b. resolved.class_call e.place (node_tree p s.file o) x (node_tree p s.file a) c m.0 k ns (class_running (scope_at p s) (node_tree p s.file o) ∙ h) m.1 (method_is p known linked final code b k m.0 m.2) (arguments final code b))
  static_resolves c (callees.Own k) h m = absurd m
  static_resolves c (callees.Super k) h m = absurd m
  static_resolves c (callees.New k) h m = absurd m
  static_resolves c callees.NewSet h m = absurd m
  static_resolves c callees.NewList h m = absurd m

  chosen_resolves : (k : ℕ) (m : Method) → class_before (scope_at p s) (node_tree p s.file o) ≡ None → typed_method (scope_at p s) (node_tree p s.file o) x ≡ Some m → slice_get (all_methods (table p)) k ≡ Some m → (b : Bool) → m.is_static ≡ b
      → Resolves p arrays s known linked (cond b (expressions.StaticCallOn (number_at p s o) k ns) (expressions.CallOn (number_at p s o) k ns))
  chosen_resolves k m h t got true st = resolves_at p arrays s e node at is known linked (expressions.StaticCallOn (number_at p s o) k ns)
      (λ final code b. resolved.static_call_on e.place (node_tree p s.file o) x (node_tree p s.file a) (number_at p s o) m k ns (class_running (scope_at p s) (node_tree p s.file o) ∙ h) (typed_running (scope_at p s) (node_tree p s.file o) x ∙ t) st (method_is p known linked final code b k m got) (object final) (arguments final code b))
  chosen_resolves k m h t got false st = resolves_at p arrays s e node at is known linked (expressions.CallOn (number_at p s o) k ns)
      (λ final code b. resolved.call_on e.place (node_tree p s.file o) x (node_tree p s.file a) (number_at p s o) m k ns (class_running (scope_at p s) (node_tree p s.file o) ∙ h) (typed_running (scope_at p s) (node_tree p s.file o) x ∙ t) st (method_is p known linked final code b k m got) (object final) (arguments final code b))

  pub called_resolves : (m : Option ℕ) (f : Expression) → class_before (scope_at p s) (node_tree p s.file o) ≡ None → IsFound p m (typed_method (scope_at p s) (node_tree p s.file o) x) → IsCalledOn p (number_at p s o) x ns m f → Resolves p arrays s known linked f
  called_resolves None f h t g = subst (Resolves p arrays s known linked) (sym g) (resolves_at p arrays s e node at is known linked (expressions.CallCollection (number_at p s o) (call_named x) ns)
      (λ final code b. resolved.collection_call e.place (node_tree p s.file o) x (node_tree p s.file a) (number_at p s o) ns (class_running (scope_at p s) (node_tree p s.file o) ∙ h) (typed_running (scope_at p s) (node_tree p s.file o) x ∙ t) (object final) (arguments final code b)))
  called_resolves (Some k) f h t g =
      let same : method_numbered (table p) k ≡ t.0 = get_or_from_slice_get (all_methods (table p)) k t.0 (no_method (table p)) t.2 in
      subst (Resolves p arrays s known linked) (sym (g ∙ ap (λ (m : Method). cond m.is_static (expressions.StaticCallOn (number_at p s o) k ns) (expressions.CallOn (number_at p s o) k ns)) same)) (chosen_resolves k t.0 h t.1 t.2 t.0.is_static refl)

-- ---- creation

class_code : (p : Program) (known : List (List ℕ)) (linked : List ℕ) (final : Final) (code : Code) → Becomes p known linked final code → (c : ℕ) → c < length (table p).classes → (k : ClassCode) × (class_at code c ≡ Some k)
class_code p known linked final code b c h = there code.classes.items c (omega (arith, h, b.classes))

module _ (p : Program) (program : IsProgram p) (arrays : List ℕ) (s : Site) (e : Entry) (at : IsHere p s e) (known : List (List ℕ)) (linked : List ℕ) (t a : ℕ) (is : e.node ≡ nodes.ObjectCreation t a) (ns : Nodes) (links : AreLinked p (record s { node = a }) linked ns) where
  abbrev made : Node
  made = nodes.ObjectCreation t a

  given : (final : Final) (code : Code) → Becomes p known linked final code → AreParts (numbering_of p final) (running (scope_at p s)) (items (node_tree p s.file a)) (listed code ns)
  given final code b = arguments_are p program known linked final code b s e made at is 1 a (parts_are p s e made at is).1.0 ns links (running (scope_at p s)) refl

  pub creation_resolves : (f : Callee) → IsCreator (written (scope_at p s) (node_tree p s.file t)) f → Resolves p arrays s known linked (expressions.Call f ns)
  creation_resolves callees.Unknown h = resolves_at p arrays s e made at is known linked (expressions.Call callees.Unknown ns)
      (λ final code b. resolved.no_creation e.place (node_tree p s.file t) (node_tree p s.file a) ns h (given final code b))
  creation_resolves (callees.New c) h =
      let below : c < length (table p).classes = named_there (map arenas.root p.trees.items) (node_tree p s.file t) c (ap (λ (w : Table). type_named w.headings (node_tree p s.file t)) (sym (scope_table p s.file s.node)) ∙ h) in
      resolves_at p arrays s e made at is known linked (expressions.Call (callees.New c) ns)
      (λ final code b. let k = class_code p known linked final code b c below in resolved.creation e.place (node_tree p s.file t) (node_tree p s.file a) c k.0 ns h k.1 (given final code b))
  creation_resolves callees.NewSet h = resolves_at p arrays s e made at is known linked (expressions.Call callees.NewSet ns)
      (λ final code b. resolved.new_set e.place (node_tree p s.file t) (node_tree p s.file a) h.0 ns h.1 (given final code b))
  creation_resolves callees.NewList h = resolves_at p arrays s e made at is known linked (expressions.Call callees.NewList ns)
      (λ final code b. resolved.new_list e.place (node_tree p s.file t) (node_tree p s.file a) h.0 ns h.1 (given final code b))
  creation_resolves (callees.Static k) h = absurd h
  creation_resolves (callees.Own k) h = absurd h
  creation_resolves (callees.Super k) h = absurd h
