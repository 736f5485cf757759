-- Methods and constructors by the nodes that declare them.
use Rattle.std.proofs.Common.{◌≡◌, sym, ap, ◌∙◌, subst, ℕ, Bool, false, List, [], ◌∷◌}
use Rattle.std.specs.Prelude.{Option, Some, None}
use Rattle.kr_ast.specs.Tree as trees
use Rattle.kr_ast.specs.Tree.{Tree}
use Rattle.kr_ast.specs.Arena.{tree_in}
use Rattle.kr_ast.specs.declared.node.Name.{Name}
use Rattle.kr_ast.specs.declared.node.Entry.{Entry}
use Rattle.kr_ast.specs.declared.node.Node.TheVariants as nodes
use Rattle.kr_classes_table.specs.Table as tables
use Rattle.kr_classes_table.specs.Table.{Heading, constructors_in, methods_in}
use Rattle.kr_laws_types.specs.Derivation as shapes
use Rattle.kr_types.specs.declared.program.Program.{Program}
use Rattle.kr_code_members.specs.Nodes.{table, IsConstructorNode, IsMaybeConstructorNode, IsMemberNode, IsMethodNode}
use Rattle.kr_code_members.specs.declared.nodes.MethodNode.{MethodNode}
use Rattle.kr_code_members.specs.declared.nodes.ConstructorNode.{ConstructorNode}
use Rattle.kr_code_members.specs.Nodes as members
use Rattle.kr_code_members.proofs.Scopes.{parameters}
use Rattle.kr_code_members.proofs.Signed.{no_methods}
use Rattle.kr_code_members.proofs.Constructing.{no_constructors}
use Rattle.kr_code.specs.declared.code.MethodCode.{MethodCode}
use Rattle.kr_code.specs.declared.code.Constructor as made
use Rattle.kr_code_lowering.specs.declared.site.Site.{Site}
use Rattle.kr_code_lowering.specs.Sites.{IsHere, IsSite, arena_at, scope_at, tree_at}
use Rattle.kr_code_lowering.specs.Bodies.{Constructs, Declares, HasParameters, TakesParameters, IsMember}
use Rattle.kr_code_bodies.specs.Made.{IsConstructorMade, IsMethodMade}

-- the site of a node
pub record IsSiteOf (p : Program) (s : Site) (f i : ℕ) : Type 0 where
  pub site : IsSite p s
  pub file : s.file ≡ f
  pub node : s.node ≡ i

pub site_tree : (p : Program) (s : Site) (f i : ℕ) → IsSiteOf p s f i → members.node_tree p f i ≡ tree_at p s
site_tree p s f i is = ap (λ (n : ℕ). members.node_tree p n i) (sym is.file) ∙ ap (members.node_tree p s.file) (sym is.node)

pub site_scope : (p : Program) (s : Site) (f i : ℕ) → IsSiteOf p s f i → scope_at p s ≡ members.node_scope p f i
site_scope p s f i is = ap (λ (n : ℕ). members.node_scope p n s.node) is.file ∙ ap (members.node_scope p f) is.node

site_member : (p : Program) (s : Site) (f c i : ℕ) → IsSiteOf p s f i → IsMemberNode p f c i → IsMember p s c
site_member p s f c i is member = site_scope p s f i is ∙ member.scope

-- ---- methods

has_parameters : (hs : List Heading) (c : ℕ) (m : tables.Method) (t : Tree) → shapes.IsMember false t → methods_in hs c t ≡ m ∷ [] → HasParameters t
has_parameters hs c m (trees.Method p st n (trees.Signature q r ps cs) b) h e = parameters ps h.0.1
has_parameters hs c m (trees.Method p st n _ b) h e = absurd h.0
has_parameters hs c m _ h e = absurd (cc (e))

module _ (p : Program) (s : Site) (n : MethodNode) (is : IsSiteOf p s n.file n.node) (m : tables.Method) (declared : IsMethodNode p m n) where
  pub method_made : (arrays : List ℕ) (known : List (List ℕ)) (linked : List ℕ) (k : MethodCode) → Declares p arrays s known linked k → IsMethodMade p arrays known linked m k
  method_made arrays known linked k h final code b =
      let t = site_tree p s n.file n.node is in
      let one : methods_in (table p).headings m.class (tree_at p s) ≡ m ∷ [] = ap (methods_in (table p).headings m.class) (sym t) ∙ declared.declares in
      h final code b m.class m (site_member p s n.file m.class n.node is declared.member)
      (has_parameters (table p).headings m.class m (tree_at p s) (subst (shapes.IsMember false) t declared.member.shape) one) one

  -- the node is a method
  pub is_method : (e : Entry) → IsHere p s e → ((st : Bool) (x : Name) (a b : ℕ) → e.node ≡ nodes.Method st x a b → ⊥) → ⊥
  is_method e at h =
      let hs = (table p).headings in
      let some : methods_in hs m.class (tree_at p s) ≡ m ∷ [] = ap (methods_in hs m.class) (sym (site_tree p s n.file n.node is)) ∙ declared.declares in
      let none : methods_in hs m.class (tree_at p s) ≡ [] = ap (methods_in hs m.class) at.tree ∙ no_methods hs m.class (arena_at p s).text (tree_in (arena_at p s)) e.place e.node h in
      cc

-- ---- constructors

takes_parameters : (hs : List Heading) (k : tables.Constructor) (t : Tree) → shapes.IsMember false t → constructors_in hs t ≡ k ∷ [] → TakesParameters t
takes_parameters hs k (trees.Constructor p ps call b) h e = parameters ps h.0
takes_parameters hs k _ h e = absurd (cc (e))

module _ (p : Program) (s : Site) (n : ConstructorNode) (is : IsSiteOf p s n.file n.node) (c : ℕ) (k : tables.Constructor) (declared : IsConstructorNode p c k n) where
  pub constructor_made : (arrays : List ℕ) (known : List (List ℕ)) (linked : List ℕ) (x : made.Constructor) → Constructs p arrays s known linked x → IsConstructorMade p arrays known linked c (Some k) (Some x)
  constructor_made arrays known linked x h final code b =
      let t = site_tree p s n.file n.node is in
      let one : constructors_in (table p).headings (tree_at p s) ≡ k ∷ [] = ap (constructors_in (table p).headings) (sym t) ∙ declared.declares in
      h final code b c k (site_member p s n.file c n.node is declared.member)
      (takes_parameters (table p).headings k (tree_at p s) (subst (shapes.IsMember false) t declared.member.shape) one) one

  pub is_constructor : (e : Entry) → IsHere p s e → ((a q b : ℕ) → e.node ≡ nodes.Constructor a q b → ⊥) → ⊥
  is_constructor e at h =
      let hs = (table p).headings in
      let some : constructors_in hs (tree_at p s) ≡ k ∷ [] = ap (constructors_in hs) (sym (site_tree p s n.file n.node is)) ∙ declared.declares in
      let none : constructors_in hs (tree_at p s) ≡ [] = ap (constructors_in hs) at.tree ∙ no_constructors hs (arena_at p s).text (tree_in (arena_at p s)) e.place e.node h in
      cc

pub maybe_made : (p : Program) (n : ConstructorNode) (c : ℕ) (arrays : List ℕ) (known : List (List ℕ)) (linked : List ℕ) (x : made.Constructor) → ((k : tables.Constructor) → IsConstructorNode p c k n → IsConstructorMade p arrays known linked c (Some k) (Some x))
    → (k : Option tables.Constructor) → IsMaybeConstructorNode p c k (Some n) → IsConstructorMade p arrays known linked c k (Some x)
maybe_made p n c arrays known linked x f None h = absurd h
maybe_made p n c arrays known linked x f (Some k) h = f k h

pub none_made : (p : Program) (c : ℕ) (arrays : List ℕ) (known : List (List ℕ)) (linked : List ℕ) (k : Option tables.Constructor) → IsMaybeConstructorNode p c k None → IsConstructorMade p arrays known linked c k None
none_made p c arrays known linked None h = λ final code b. tt
none_made p c arrays known linked (Some k) h = absurd h
