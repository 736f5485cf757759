-- The target of an assignment.
use Rattle.std.proofs.Common.{◌≡◌, refl, sym, ap, ◌∙◌, ℕ, ◌+◌, Bool, true, false, cond, List, subst, Option, Some, None}
use Rattle.std.specs.Prelude.{slice_get}
use Rattle.kr_ast.specs.Tree as trees
use Rattle.kr_ast.specs.Tree.{Tree}
use Rattle.kr_ast.specs.Arena as arenas
use Rattle.kr_ast.specs.Arena.{name_in, tree_in, tree_of}
use Rattle.kr_ast.specs.declared.node.Name.{Name}
use Rattle.kr_ast.specs.declared.node.Entry.{Entry}
use Rattle.kr_ast.specs.declared.node.Node.{Node}
use Rattle.kr_ast.specs.declared.node.Node.TheVariants as nodes
use Rattle.kr_classes_table.specs.Types.{JavaType, ArrayType}
use Rattle.kr_classes_table.specs.Table.{Field}
use Rattle.kr_types_meaning.specs.Scopes.{Meant, Scope, value}
use Rattle.kr_types_meaning.specs.Typing.{type_of}
use Rattle.kr_types_meaning.specs.Handing.{handed}
use Rattle.kr_types_meaning.specs.Running.{running}
use Rattle.kr_laws_types.proofs.Loops.{running_same}
use Rattle.kr_classes_names.specs.Types.{type_at}
use Rattle.kr_types.specs.declared.program.Program.{Program}
use Rattle.kr_types.specs.Programs.{IsProgram}
use Rattle.kr_mean.specs.Meaning.{Target, element_target, field_of_type, field_target, name_target, target_of, typed_field}
use Rattle.kr_code.specs.declared.expression.Variable.{Variable}
use Rattle.kr_code.specs.declared.expression.Variable.TheVariants as variables
use Rattle.kr_code.specs.Resolved as resolved
use Rattle.kr_code.specs.Resolved.{IsPart, IsVariable}
use Rattle.kr_classes_members.specs.Rosters.{field_numbered}
use Rattle.kr_code_lowering.specs.declared.site.Site.{Site}
use Rattle.kr_code_lowering.specs.declared.named.Named.TheVariants as named
use Rattle.kr_code_members.specs.Nodes.{table}
use Rattle.kr_code_lowering.specs.Origins.{Final, node_scope, node_tree, numbering_of}
use Rattle.kr_code_lowering.specs.Sites.{IsHere, arena_at, scope_at, tree_at, number_at}
use Rattle.kr_code_lowering.specs.Named.{IsNamed}
use Rattle.kr_code_lowering.specs.Targets.{IsFieldFound, IsTarget, is_array_type}
use Rattle.kr_code_lowering.proofs.Meant.{meant_so}
use Rattle.kr_code_lowering.proofs.Parts.{part_in, part_scope, tree_is}
use Rattle.kr_code_lowering.proofs.Naming.{name_so, parts_are}

-- the target of a tree that is one of these
target_at : (p : Program) (s : Scope) (t u : Tree) (known : List (List ℕ)) (x : Variable) → t ≡ u → IsTarget p s u known x → IsTarget p s t known x
target_at p s t u known x e h = subst (λ (w : Tree). IsTarget p s w known x) (sym e) h

module _ (p : Program) (r : Scope) (at : Site) (e : Entry) (n : Name) (here : IsHere p at e) (is : e.node ≡ nodes.Variable n) (known : List (List ℕ)) (handed_on : scope_at p at ≡ value r) where
  abbrev x : List ℕ
  x = name_in (arena_at p at).text n

  by_name : (v : Variable) → IsTarget p r (trees.Variable e.place x) known v → IsTarget p r (tree_at p at) known v
  by_name v h = target_at p r (tree_at p at) (trees.Variable e.place x) known v (tree_is p at e (nodes.Variable n) here is) h

  pub local_target : (k : ℕ) → IsNamed p (scope_at p at) x (named.Local k) → IsTarget p r (tree_at p at) known (variables.Local k)
  local_target k there =
      let h : IsNamed p r x (named.Local k) = subst (λ (s : Scope). IsNamed p s x (named.Local k)) handed_on there in
      by_name (variables.Local k) (λ final g. subst (λ (m : Meant). IsVariable (numbering_of p final) (running r) (name_target m) (variables.Local k)) (sym h.1) (resolved.local k))

  pub own_target : (k i : ℕ) → IsNamed p (scope_at p at) x (named.Own k) → slice_get known i ≡ Some x → IsTarget p r (tree_at p at) known (variables.Own i k)
  own_target k i there got =
      let h : IsNamed p r x (named.Own k) = subst (λ (s : Scope). IsNamed p s x (named.Own k)) handed_on there in
      by_name (variables.Own i k) (λ final g. subst (λ (m : Meant). IsVariable (numbering_of p final) (running r) (name_target m) (variables.Own i k)) (sym h.1)
      (subst (λ (b : Bool). IsVariable (numbering_of p final) (running r) (cond b Rattle.kr_mean.specs.Meaning.NoTarget (Rattle.kr_mean.specs.Meaning.OwnField h.0)) (variables.Own i k)) (sym h.2)
      (resolved.own h.0 i k (name_so p known final g i x got ∙ meant_so r x h.0 h.1) h.3)))

  pub constant_target : (v : _) → IsNamed p (scope_at p at) x (named.Constant v) → IsTarget p r (tree_at p at) known variables.Unknown
  constant_target v there =
      let h : IsNamed p r x (named.Constant v) = subst (λ (s : Scope). IsNamed p s x (named.Constant v)) handed_on there in
      by_name variables.Unknown (λ final g. subst (λ (m : Meant). IsVariable (numbering_of p final) (running r) (name_target m) variables.Unknown) (sym h.1)
      (subst (λ (b : Bool). IsVariable (numbering_of p final) (running r) (cond b Rattle.kr_mean.specs.Meaning.NoTarget (Rattle.kr_mean.specs.Meaning.OwnField h.0)) variables.Unknown) (sym h.2) resolved.unknown))

  pub nothing_target : IsNamed p (scope_at p at) x named.Nothing → IsTarget p r (tree_at p at) known variables.Unknown
  nothing_target there =
      let h : IsNamed p r x named.Nothing = subst (λ (s : Scope). IsNamed p s x named.Nothing) handed_on there in
      by_name variables.Unknown (λ final g. subst (λ (m : Meant). IsVariable (numbering_of p final) (running r) (name_target m) variables.Unknown) (sym h) resolved.unknown)

-- a part of the target runs where the assignment does
target_part : (p : Program) → IsProgram p → (final : Final) (r : Scope) (at : Site) (e : Entry) (n : Node) → IsHere p at e → e.node ≡ n → scope_at p at ≡ value r → (j c : ℕ) → arenas.IsPart (arena_at p at).entries at.node j c
    → running (handed (scope_at p at) (tree_of (arena_at p at).text (tree_in (arena_at p at)) e.place n) j) ≡ running (scope_at p at) → IsPart (numbering_of p final) (running r) (node_tree p at.file c) (number_at p at c)
target_part p is final r at e n here it scope j c part runs = part_in p is final at e n here it j c part (running r) (runs ∙ ap running scope)

field_running : (s : Scope) (t : Tree) (x : List ℕ) → typed_field (running s) t x ≡ typed_field s t x
field_running s t x = ap (λ (o : Option JavaType). field_of_type s.table x o) (running_same s t).type

module _ (p : Program) (program : IsProgram p) (r : Scope) (at : Site) (e : Entry) (o : ℕ) (n : Name) (here : IsHere p at e) (is : e.node ≡ nodes.FieldAccess o n) (scope : scope_at p at ≡ value r) (known : List (List ℕ)) where
  abbrev y : List ℕ
  y = name_in (arena_at p at).text n

  pub object_scope : node_scope p at.file o ≡ value r
  object_scope = part_scope p program at here.site 0 o (parts_are p at e (nodes.FieldAccess o n) here is).0 ∙ (ap (λ (t : Tree). handed (scope_at p at) t 0) (tree_is p at e (nodes.FieldAccess o n) here is) ∙ ap value scope)

  by_field : (v : Variable) → IsTarget p r (trees.FieldAccess e.place (node_tree p at.file o) y) known v → IsTarget p r (tree_at p at) known v
  by_field v h = target_at p r (tree_at p at) (trees.FieldAccess e.place (node_tree p at.file o) y) known v (tree_is p at e (nodes.FieldAccess o n) here is) h

  pub field_written : (k i : ℕ) → IsFieldFound p (Some k) (typed_field r (node_tree p at.file o) y) → (field_numbered (table p) k).name ≡ y → slice_get known i ≡ Some y → IsTarget p r (tree_at p at) known (variables.Of (number_at p at o) i k)
  field_written k i f named got = by_field (variables.Of (number_at p at o) i k)
      (λ final g. subst (λ (m : Option Field). IsVariable (numbering_of p final) (running r) (field_target (node_tree p at.file o) m) (variables.Of (number_at p at o) i k)) (sym (field_running r (node_tree p at.file o) y ∙ f))
      (resolved.of (node_tree p at.file o) (field_numbered (table p) k) (number_at p at o) i k (target_part p program final r at e (nodes.FieldAccess o n) here is scope 0 o (parts_are p at e (nodes.FieldAccess o n) here is).0 refl) (name_so p known final g i y got ∙ sym named) refl))

  pub no_field_written : IsFieldFound p None (typed_field r (node_tree p at.file o) y) → IsTarget p r (tree_at p at) known variables.Unknown
  no_field_written f = by_field variables.Unknown (λ final g. subst (λ (m : Option Field). IsVariable (numbering_of p final) (running r) (field_target (node_tree p at.file o) m) variables.Unknown) (sym (field_running r (node_tree p at.file o) y ∙ f)) resolved.unknown)

module _ (p : Program) (program : IsProgram p) (r : Scope) (at : Site) (e : Entry) (a i : ℕ) (here : IsHere p at e) (is : e.node ≡ nodes.ArrayAccess a i) (scope : scope_at p at ≡ value r) (known : List (List ℕ)) where
  pub array_scope : node_scope p at.file a ≡ value r
  array_scope = part_scope p program at here.site 0 a (parts_are p at e (nodes.ArrayAccess a i) here is).0 ∙ (ap (λ (t : Tree). handed (scope_at p at) t 0) (tree_is p at e (nodes.ArrayAccess a i) here is) ∙ ap value scope)

  by_element : (v : Variable) → IsTarget p r (trees.ArrayAccess e.place (node_tree p at.file a) (node_tree p at.file i)) known v → IsTarget p r (tree_at p at) known v
  by_element v h = target_at p r (tree_at p at) (trees.ArrayAccess e.place (node_tree p at.file a) (node_tree p at.file i)) known v (tree_is p at e (nodes.ArrayAccess a i) here is) h

  pub element_written : (k : ℕ) (t : JavaType) → type_of r (node_tree p at.file a) ≡ Some (type_at p.table.types k) → type_at p.table.types k ≡ ArrayType t → IsTarget p r (tree_at p at) known (variables.Element (number_at p at a) (number_at p at i) k)
  element_written k t f array = by_element (variables.Element (number_at p at a) (number_at p at i) k)
      (λ final g. subst (λ (m : Option JavaType). IsVariable (numbering_of p final) (running r) (element_target (node_tree p at.file a) (node_tree p at.file i) m) (variables.Element (number_at p at a) (number_at p at i) k)) (sym ((running_same r (node_tree p at.file a)).type ∙ (f ∙ ap (λ (u : JavaType). Some u) array)))
      (resolved.element (node_tree p at.file a) (node_tree p at.file i) t (number_at p at a) (number_at p at i) k (target_part p program final r at e (nodes.ArrayAccess a i) here is scope 0 a (parts_are p at e (nodes.ArrayAccess a i) here is).0 refl) (target_part p program final r at e (nodes.ArrayAccess a i) here is scope 1 i (parts_are p at e (nodes.ArrayAccess a i) here is).1.0 refl) array))

  no_array : (o : Option JavaType) → is_array_type o ≡ false → element_target (node_tree p at.file a) (node_tree p at.file i) o ≡ Rattle.kr_mean.specs.Meaning.NoTarget
  no_array None h = refl
  no_array (Some (ArrayType t)) h = absurd (cc (h))
  no_array (Some _) h = refl

  pub no_element_written : (o : Option JavaType) → type_of r (node_tree p at.file a) ≡ o → is_array_type o ≡ false → IsTarget p r (tree_at p at) known variables.Unknown
  no_element_written o f none = by_element variables.Unknown
      (λ final g. subst (λ (m : Target). IsVariable (numbering_of p final) (running r) m variables.Unknown) (sym (ap (element_target (node_tree p at.file a) (node_tree p at.file i)) ((running_same r (node_tree p at.file a)).type ∙ f) ∙ no_array o none)) resolved.unknown)

pub array_of : (t : JavaType) → is_array_type (Some t) ≡ true → (u : JavaType) × (t ≡ ArrayType u)
array_of (ArrayType u) h = (u, refl)
array_of _ h = absurd (cc (h))

pub no_target : (s : Scope) (text : List ℕ) (look : ℕ → Tree) (pl : _) (n : Node) → ((x : Name) → n ≡ nodes.Variable x → ⊥) → ((a : ℕ) (x : Name) → n ≡ nodes.FieldAccess a x → ⊥) → ((a b : ℕ) → n ≡ nodes.ArrayAccess a b → ⊥)
    → target_of s (tree_of text look pl n) ≡ Rattle.kr_mean.specs.Meaning.NoTarget
no_target s text look pl (nodes.Variable x) v f a = absurd (v x refl)
no_target s text look pl (nodes.FieldAccess o x) v f a = absurd (f o x refl)
no_target s text look pl (nodes.ArrayAccess o i) v f a = absurd (a o i refl)
no_target s text look pl _ v f a = refl

pub not_written : (p : Program) (r : Scope) (at : Site) (e : Entry) → IsHere p at e → (known : List (List ℕ)) → target_of (running r) (tree_of (arena_at p at).text (tree_in (arena_at p at)) e.place e.node) ≡ Rattle.kr_mean.specs.Meaning.NoTarget → IsTarget p r (tree_at p at) known variables.Unknown
not_written p r at e here known none final g = subst (λ (m : Target). IsVariable (numbering_of p final) (running r) m variables.Unknown) (sym (ap (target_of (running r)) here.tree ∙ none)) resolved.unknown
