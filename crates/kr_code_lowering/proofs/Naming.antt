-- Names and field accesses.
use Rattle.std.proofs.Common.{◌≡◌, refl, sym, ap, ◌∙◌, ℕ, ◌+◌, ◌<◌, List, subst, Option, Some, None, ◌^◌, arith, map}
use Rattle.std.specs.Prelude.{slice_get, IfSome}
use Rattle.std.proofs.lemmas.Option.{get_or_from_slice_get}
use Rattle.kr_value.specs.declared.value.Value.{Value}
use Rattle.kr_ast.specs.Tree as trees
use Rattle.kr_ast.specs.Tree.{Tree}
use Rattle.kr_ast.specs.Arena as arenas
use Rattle.kr_ast.specs.Arena.{ArePartsFrom, name_in, names, parts, tree_in, tree_of}
use Rattle.kr_ast.specs.declared.node.Name.{Name}
use Rattle.kr_ast.specs.declared.node.Entry.{Entry}
use Rattle.kr_ast.specs.declared.node.Node.{Node}
use Rattle.kr_ast.specs.declared.node.Node.TheVariants as nodes
use Rattle.kr_classes_table.specs.Constants.{constant_of, values_of}
use Rattle.kr_types_meaning.specs.Scopes.{Scope, class_before, meant_by}
use Rattle.kr_types_meaning.specs.Running.{running}
use Rattle.kr_classes_names.specs.ListedTypes.{IsGrown}
use Rattle.kr_types.specs.declared.program.Program.{Program}
use Rattle.kr_types.specs.declared.program.TypedFile.{TypedFile}
use Rattle.kr_types.specs.Programs.{IsProgram}
use Rattle.kr_code.specs.declared.code.Code.{Code}
use Rattle.kr_code.specs.declared.expression.Expression.{Expression}
use Rattle.kr_code.specs.declared.expression.Expression.TheVariants as expressions
use Rattle.kr_code.specs.Resolved as resolved
use Rattle.kr_code.specs.Resolved.{IsExpression, IsPart, constant_meant}
use Rattle.kr_code_lowering.specs.declared.site.Site.{Site}
use Rattle.kr_code_lowering.specs.declared.named.Named.TheVariants as named
use Rattle.kr_code_members.specs.Nodes.{run_program, table}
use Rattle.kr_code_lowering.specs.Origins.{Final, node_scope, node_tree, numbering_of, scope_in}
use Rattle.kr_code_lowering.specs.Sites.{Becomes, IsHere, Resolves, arena_at, scope_at, number_at}
use Rattle.kr_classes_table.specs.Table.{headings_of, table_of}
use Rattle.kr_ast.specs.Files.{file_at}
use Rattle.kr_types_scopes.specs.declared.lookup.LocalFound.{LocalFound}
use Rattle.kr_types_scopes.specs.Lookups.{IsLocalAt}
use Rattle.kr_types_scopes.specs.Settings.{setting, type_there}
use Rattle.kr_classes_members.specs.Rosters.{no_name}
use Rattle.kr_code_lowering.specs.Named.{IsLocal, IsNamed, literal_of}
use Rattle.kr_code_members.proofs.Scopes as members
use Rattle.kr_code_lowering.proofs.Growth.{got_grown}
use Rattle.kr_code_lowering.proofs.Meant.{meant_so}
use Rattle.kr_code_lowering.proofs.Parts.{part_in, tree_is}

-- ---- a node by its kind

pub parts_are : (p : Program) (s : Site) (e : Entry) (n : Node) → IsHere p s e → e.node ≡ n → ArePartsFrom (arena_at p s).entries s.node 0 (parts n)
parts_are p s e n at is = subst (λ (m : Node). ArePartsFrom (arena_at p s).entries s.node 0 (parts m)) is at.parts

pub resolves_at : (p : Program) (arrays : List ℕ) (s : Site) (e : Entry) (n : Node) → IsHere p s e → e.node ≡ n → (known : List (List ℕ)) (linked : List ℕ) (x : Expression)
    → ((final : Final) (code : Code) → Becomes p known linked final code → IsExpression (run_program p arrays) code (numbering_of p final) (running (scope_at p s)) (tree_of (arena_at p s).text (tree_in (arena_at p s)) e.place n) x)
    → Resolves p arrays s known linked x
resolves_at p arrays s e n at is known linked x h final code b =
    subst (λ (t : Tree). IsExpression (run_program p arrays) code (numbering_of p final) (running (scope_at p s)) t x) (sym (tree_is p s e n at is)) (h final code b)

-- ---- scopes

pub scope_values : (p : Program) (f i : ℕ) → (node_scope p f i).values ≡ values_of (table p)
scope_values p f i = (members.scope_table p f i).1

pub scope_table : (p : Program) (f i : ℕ) → (node_scope p f i).table ≡ table p
scope_table p f i = (members.scope_table p f i).0

pub class_running : (s : Scope) (e : Tree) → class_before (running s) e ≡ class_before s e
class_running s (trees.Variable p n) = refl
class_running s _ = refl

abbrev LocalOf : Program → ℕ → ℕ → List ℕ → LocalFound → Type 0
LocalOf p f i n l = IsLocal (node_scope p f i) n l.number

pub local_found : (p : Program) (f i : ℕ) (t : TypedFile) (n : List ℕ) → slice_get p.files.items f ≡ Some t → (o : Option LocalFound) → IfSome o (IsLocalAt (file_at p.trees.items f) t.scopes.bindings.items t.scopes.within.items i n) → IfSome o (LocalOf p f i n)
local_found p f i t n e None h = tt
local_found p f i t n e (Some l) h = λ g. (type_there (setting (table p) (values_of (table p)) (file_at p.trees.items f)) l.declared, ap (λ (o : Option TypedFile). meant_by (scope_in p f i o).locals g n) e ∙ h (table p) (values_of (table p)) g)

pub headings_are : (p : Program) → (table p).headings ≡ headings_of (map arenas.root p.trees.items)
unfolding table_of
headings_are p = refl

-- ---- names

pub name_so : (p : Program) (known : List (List ℕ)) (final : Final) → IsGrown known final.names → (k : ℕ) (x : List ℕ) → slice_get known k ≡ Some x → (numbering_of p final).name k ≡ x
name_so p known final g k x e = get_or_from_slice_get final.names k x (no_name (table p)) (got_grown known final.names k x g e)

module _ (p : Program) (arrays : List ℕ) (s : Site) (e : Entry) (n : Name) (at : IsHere p s e) (is : e.node ≡ nodes.Variable n) (known : List (List ℕ)) (linked : List ℕ) where
  abbrev x : List ℕ
  x = name_in (arena_at p s).text n

  pub local_resolves : (k : ℕ) → IsNamed p (scope_at p s) x (named.Local k) → Resolves p arrays s known linked (expressions.Local k)
  local_resolves k h = resolves_at p arrays s e (nodes.Variable n) at is known linked (expressions.Local k) (λ final code b. resolved.local e.place x k h.0 h.1)

  pub constant_resolves : (v : Option Value) → IsNamed p (scope_at p s) x (named.Constant v) → Resolves p arrays s known linked (literal_of v)
  constant_resolves None h = resolves_at p arrays s e (nodes.Variable n) at is known linked expressions.Stuck (λ final code b. resolved.no_constant e.place x h.0 h.1 h.2 h.3)
  constant_resolves (Some v) h = resolves_at p arrays s e (nodes.Variable n) at is known linked (expressions.Literal v) (λ final code b. resolved.constant e.place x h.0 v h.1 h.2 h.3)

  pub own_resolves : (k i : ℕ) → IsNamed p (scope_at p s) x (named.Own k) → slice_get known i ≡ Some x → Resolves p arrays s known linked (expressions.OwnField i)
  own_resolves k i h g = resolves_at p arrays s e (nodes.Variable n) at is known linked (expressions.OwnField i) (λ final code b. resolved.own_field e.place x h.0 i h.1 h.2 (name_so p known final b.names i x g ∙ meant_so (scope_at p s) x h.0 h.1))

  pub nothing_resolves : IsNamed p (scope_at p s) x named.Nothing → Resolves p arrays s known linked expressions.Stuck
  nothing_resolves h = resolves_at p arrays s e (nodes.Variable n) at is known linked expressions.Stuck (λ final code b. resolved.no_name e.place x h)

module _ (p : Program) (program : IsProgram p) (arrays : List ℕ) (s : Site) (e : Entry) (a : ℕ) (n : Name) (at : IsHere p s e) (is : e.node ≡ nodes.FieldAccess a n) (known : List (List ℕ)) (linked : List ℕ) where
  abbrev y : List ℕ
  y = name_in (arena_at p s).text n

  pub class_constant_resolves : (c : ℕ) (v : Option Value) → class_before (scope_at p s) (node_tree p s.file a) ≡ Some c → constant_meant (running (scope_at p s)) (constant_of (scope_at p s).table (Some c) y) ≡ v → Resolves p arrays s known linked (literal_of v)
  class_constant_resolves c None h m = resolves_at p arrays s e (nodes.FieldAccess a n) at is known linked expressions.Stuck (λ final code b. resolved.no_class_constant e.place (node_tree p s.file a) y c (class_running (scope_at p s) (node_tree p s.file a) ∙ h) m)
  class_constant_resolves c (Some v) h m = resolves_at p arrays s e (nodes.FieldAccess a n) at is known linked (expressions.Literal v) (λ final code b. resolved.class_constant e.place (node_tree p s.file a) y c v (class_running (scope_at p s) (node_tree p s.file a) ∙ h) m)

  pub field_resolves : (i : ℕ) → class_before (scope_at p s) (node_tree p s.file a) ≡ None → slice_get known i ≡ Some y → Resolves p arrays s known linked (expressions.FieldOf (number_at p s a) i)
  field_resolves i h g = resolves_at p arrays s e (nodes.FieldAccess a n) at is known linked (expressions.FieldOf (number_at p s a) i)
      (λ final code b. resolved.field_of e.place (node_tree p s.file a) y (number_at p s a) i (class_running (scope_at p s) (node_tree p s.file a) ∙ h)
      (part_in p program final s e (nodes.FieldAccess a n) at is 0 a (parts_are p s e (nodes.FieldAccess a n) at is).0 (running (scope_at p s)) refl)
      (name_so p known final b.names i y g))
