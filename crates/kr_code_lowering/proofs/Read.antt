-- The parts of a node's meaning that lowering reads.
use Rattle.std.proofs.Common.{◌≡◌, refl, sym, ap, ◌∙◌, subst, ℕ, ◌<◌, List, length, true}
use Rattle.std.specs.Prelude.{Option, Some, None, IfSome, option_and_then, option_map, slice_get}
use Rattle.std.proofs.lemmas.Option.{slice_get-get_or}
use Rattle.kr_value.specs.declared.value.Value.{Value}
use Rattle.kr_ast.specs.Arena.{name_in, tree_in, tree_of}
use Rattle.kr_ast.specs.declared.node.Entry.{Entry}
use Rattle.kr_ast.specs.declared.node.Name.{Name}
use Rattle.kr_ast.specs.declared.node.Node.{Node}
use Rattle.kr_ast.specs.declared.node.Node.TheVariants as nodes
use Rattle.kr_classes_table.specs.Types.{JavaType, ClassType}
use Rattle.kr_classes_table.specs.Table.{Table, Field, Method, method_named}
use Rattle.kr_classes_table.specs.Constants.{Known, constant_of, known_value, values_of}
use Rattle.kr_types_meaning.specs.Scopes.{class_before, meant, method_meant, static_only}
use Rattle.kr_types_meaning.specs.Typing.{type_of}
use Rattle.kr_mean.specs.Meaning.{field_of_type, method_of_type, super_method, typed_field, typed_method}
use Rattle.kr_classes_members.specs.Rosters.{all_methods, field_numbered, method_numbered, no_method}
use Rattle.kr_types_resolving.specs.Meanings as meanings
use Rattle.kr_types_resolving.specs.Shown.{IsMeaningWithin, IsMeant, meaning_shown}
use Rattle.kr_types_resolving.specs.declared.meaning.Meaning.{Meaning}
use Rattle.kr_types_resolving.specs.declared.meaning.Meaning.TheVariants as kept
use Rattle.kr_types_resolving.proofs.Inside.{constant_behind, constant_read, instance_behind, instance_read, is_unnamed, local_read, method_law, method_on_object, nothing_read, static_behind, static_is, super_law, virtual_is}
use Rattle.kr_types.specs.declared.program.Program.{Program}
use Rattle.kr_code.specs.declared.expression.Callee.TheVariants as callees
use Rattle.kr_code_members.specs.Nodes.{table}
use Rattle.kr_code_lowering.specs.declared.site.Site.{Site}
use Rattle.kr_code_lowering.specs.declared.named.Named.TheVariants as named
use Rattle.kr_code_lowering.specs.Origins.{node_tree}
use Rattle.kr_code_lowering.specs.Sites.{IsHere, arena_at, scope_at, tree_at}
use Rattle.kr_code_lowering.specs.Named.{IsNamed}
use Rattle.kr_code_lowering.specs.Calls.{IsFound, IsOwnCallee}
use Rattle.kr_code_lowering.specs.Targets.{IsFieldFound}
use Rattle.kr_code_lowering.proofs.Parts.{tree_is}
use Rattle.kr_code_lowering.proofs.Naming.{scope_table, scope_values}

-- ---- numbers

method_got : (p : Program) (k : ℕ) → k < length (all_methods (table p)) → slice_get (all_methods (table p)) k ≡ Some (method_numbered (table p) k)
method_got p k h = slice_get-get_or (all_methods (table p)) k (no_method (table p)) h

pub found : (p : Program) (o : Option ℕ) (m : Option Method) → IfSome o (λ k. k < length (all_methods (table p))) → option_map (method_numbered (table p)) o ≡ m → IsFound p o m
found p None m w e = sym e
found p (Some k) m w e = (method_numbered (table p) k, sym e, method_got p k w)

pub field_found : (p : Program) (o : Option ℕ) (f : Option Field) → option_map (field_numbered (table p)) o ≡ f → IsFieldFound p o f
field_found p None f e = sym e
field_found p (Some k) f e = sym e

-- ---- members of types

method_has : (t : Table) (n : List ℕ) (o : Option JavaType) → meanings.method_of t n (meanings.object_class o) ≡ method_of_type t n o
method_has t n None = refl
method_has t n (Some (ClassType c)) = refl
method_has t n (Some _) = refl

field_has : (t : Table) (n : List ℕ) (o : Option JavaType) → option_and_then meanings.instance_only (meanings.field_of t n (meanings.object_class o)) ≡ field_of_type t n o
field_has t n None = refl
field_has t n (Some (ClassType c)) = refl
field_has t n (Some _) = refl

unnamed_shown : (t : Table) (m : Meaning) → ((k : ℕ) → m ≡ kept.Local k → ⊥) → ((k : ℕ) → m ≡ kept.Constant k → ⊥) → ((k : ℕ) → m ≡ kept.Instance k → ⊥) → is_unnamed (meaning_shown t m) ≡ true
unnamed_shown t (kept.Local k) a b c = absurd (a k refl)
unnamed_shown t (kept.Constant k) a b c = absurd (b k refl)
unnamed_shown t (kept.Instance k) a b c = absurd (c k refl)
unnamed_shown t _ a b c = refl

uncalled_shown : (t : Table) (m : Meaning) → ((k : ℕ) → m ≡ kept.Static k → ⊥) → ((k : ℕ) → m ≡ kept.Virtual k → ⊥) → meanings.method_in (meaning_shown t m) ≡ None
uncalled_shown t (kept.Static k) a b = absurd (a k refl)
uncalled_shown t (kept.Virtual k) a b = absurd (b k refl)
uncalled_shown t _ a b = refl

module _ (p : Program) (s : Site) (e : Entry) (at : IsHere p s e) (m : Meaning) (is : IsMeant (table p) (scope_at p s) (tree_at p s) m) where
  -- by the node's kind
  read : (n : Node) → e.node ≡ n → meaning_shown (table p) m ≡ meanings.meaning (scope_at p s) (tree_of (arena_at p s).text (tree_in (arena_at p s)) e.place n)
  read n k = is.shown ∙ ap (meanings.meaning (scope_at p s)) (tree_is p s e n at k)

  -- ---- names

  module _ (x : Name) (k : e.node ≡ nodes.Variable x) where
    abbrev name : List ℕ
    name = name_in (arena_at p s).text x

    pub local_named : (j : ℕ) → m ≡ kept.Local j → IsNamed p (scope_at p s) name (named.Local j)
    local_named j h = local_read (scope_at p s).table name (meant (scope_at p s) name) j (ap (meaning_shown (table p)) (sym h) ∙ read (nodes.Variable x) k)

    pub constant_named : (j : ℕ) (v : Option Value) → m ≡ kept.Constant j → v ≡ known_value (values_of (table p)) (Some (field_numbered (table p) j)) → IsNamed p (scope_at p s) name (named.Constant v)
    constant_named j v h w =
        let f = field_numbered (table p) j in
        let r = constant_read (scope_at p s).table name (meant (scope_at p s) name) f (ap (meaning_shown (table p)) (sym h) ∙ read (nodes.Variable x) k) in
        (f, r.0, r.1, ap (λ (ks : List Known). known_value ks (Some f)) (scope_values p s.file s.node) ∙ sym w)

    pub own_named : (j : ℕ) → m ≡ kept.Instance j → IsNamed p (scope_at p s) name (named.Own j)
    own_named j h =
        let f = field_numbered (table p) j in
        let r = instance_read (scope_at p s).table name (meant (scope_at p s) name) f (ap (meaning_shown (table p)) (sym h) ∙ read (nodes.Variable x) k) in
        (f, r.0, r.1, refl)

    pub nothing_named : ((j : ℕ) → m ≡ kept.Local j → ⊥) → ((j : ℕ) → m ≡ kept.Constant j → ⊥) → ((j : ℕ) → m ≡ kept.Instance j → ⊥) → IsNamed p (scope_at p s) name named.Nothing
    nothing_named a b c =
        nothing_read (scope_at p s).table name (meant (scope_at p s) name) (sym (ap is_unnamed (read (nodes.Variable x) k)) ∙ unnamed_shown (table p) m a b c)

  -- ---- calls

  module _ (x : Name) (a : ℕ) (k : e.node ≡ nodes.Call x a) where
    abbrev own : Option Method
    own = method_meant (scope_at p s) (name_in (arena_at p s).text x)

    pub static_called : (j : ℕ) → m ≡ kept.Static j → IsOwnCallee p own (callees.Static j)
    static_called j h =
        let n = method_numbered (table p) j in
        let r : meanings.Static n ≡ meanings.method_meaning own = ap (meaning_shown (table p)) (sym h) ∙ read (nodes.Call x a) k in
        (n, sym (ap meanings.method_in r ∙ method_law own), static_is own n r, method_got p j (subst (IsMeaningWithin (table p)) h is.within))

    pub own_called : (j : ℕ) → m ≡ kept.Virtual j → IsOwnCallee p own (callees.Own j)
    own_called j h =
        let n = method_numbered (table p) j in
        let r : meanings.Virtual n ≡ meanings.method_meaning own = ap (meaning_shown (table p)) (sym h) ∙ read (nodes.Call x a) k in
        (n, sym (ap meanings.method_in r ∙ method_law own), virtual_is own n r, method_got p j (subst (IsMeaningWithin (table p)) h is.within))

    pub none_called : ((j : ℕ) → m ≡ kept.Static j → ⊥) → ((j : ℕ) → m ≡ kept.Virtual j → ⊥) → IsOwnCallee p own callees.Unknown
    none_called f g = sym (ap meanings.method_in (read (nodes.Call x a) k) ∙ method_law own) ∙ uncalled_shown (table p) m f g

  pub super_found : (x : Name) (a : ℕ) → e.node ≡ nodes.SuperCall x a → (o : Option ℕ) → IfSome o (λ j. j < length (all_methods (table p))) → option_map (method_numbered (table p)) o ≡ meanings.super_in (meaning_shown (table p) m)
      → IsFound p o (super_method (scope_at p s) (name_in (arena_at p s).text x))
  super_found x a k o w h = found p o _ w (h ∙ (ap meanings.super_in (read (nodes.SuperCall x a) k) ∙ super_law (super_method (scope_at p s) (name_in (arena_at p s).text x))))

  -- ---- after a dot

  module _ (o : ℕ) (x : Name) (a : ℕ) (k : e.node ≡ nodes.MethodCall o x a) where
    abbrev called : List ℕ
    called = name_in (arena_at p s).text x

    pub static_found : (c : ℕ) → class_before (scope_at p s) (node_tree p s.file o) ≡ Some c → option_and_then static_only (method_named (table p) c called) ≡ meanings.method_in (meaning_shown (table p) m)
    static_found c b =
        ap (λ (t : Table). option_and_then static_only (method_named t c called)) (sym (scope_table p s.file s.node))
        ∙ sym (ap meanings.method_in (read (nodes.MethodCall o x a) k) ∙ static_behind (scope_at p s).table called (class_before (scope_at p s) (node_tree p s.file o)) (meanings.object_class (type_of (scope_at p s) (node_tree p s.file o))) c b)

    pub typed_found : class_before (scope_at p s) (node_tree p s.file o) ≡ None → (f : Option ℕ) → IfSome f (λ j. j < length (all_methods (table p))) → option_map (method_numbered (table p)) f ≡ meanings.method_in (meaning_shown (table p) m)
        → IsFound p f (typed_method (scope_at p s) (node_tree p s.file o) called)
    typed_found b f w h =
        found p f _ w
        (h ∙ (ap meanings.method_in (read (nodes.MethodCall o x a) k)
        ∙ (method_on_object (scope_at p s).table called (class_before (scope_at p s) (node_tree p s.file o)) (meanings.object_class (type_of (scope_at p s) (node_tree p s.file o))) b
        ∙ method_has (scope_at p s).table called (type_of (scope_at p s) (node_tree p s.file o)))))

  module _ (o : ℕ) (x : Name) (k : e.node ≡ nodes.FieldAccess o x) where
    abbrev accessed : List ℕ
    accessed = name_in (arena_at p s).text x

    pub constant_found : (c : ℕ) → class_before (scope_at p s) (node_tree p s.file o) ≡ Some c → meanings.constant_in (meaning_shown (table p) m) ≡ constant_of (table p) (Some c) accessed
    constant_found c b =
        ap meanings.constant_in (read (nodes.FieldAccess o x) k)
        ∙ (constant_behind (scope_at p s).table accessed (class_before (scope_at p s) (node_tree p s.file o)) (meanings.object_class (type_of (scope_at p s) (node_tree p s.file o))) c b
        ∙ ap (λ (t : Table). constant_of t (Some c) accessed) (scope_table p s.file s.node))

    pub instance_found : (f : Option ℕ) → option_map (field_numbered (table p)) f ≡ meanings.instance_in (meaning_shown (table p) m) → IsFieldFound p f (typed_field (scope_at p s) (node_tree p s.file o) accessed)
    instance_found f h =
        field_found p f _
        (h ∙ (ap meanings.instance_in (read (nodes.FieldAccess o x) k) ∙ (instance_behind (scope_at p s) e.place (node_tree p s.file o) accessed ∙ field_has (scope_at p s).table accessed (type_of (scope_at p s) (node_tree p s.file o)))))
