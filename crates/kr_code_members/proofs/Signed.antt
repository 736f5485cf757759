-- A method's nodes.
use Rattle.std.proofs.Common.{◌≡◌, refl, sym, ap, ◌∙◌, subst, ℕ, Bool, false, List, [], ◌∷◌}
use Rattle.std.specs.List.{AllZip}
use Rattle.kr_base.specs.declared.place.Place.{Place}
use Rattle.kr_ast.specs.Tree as trees
use Rattle.kr_ast.specs.Tree.{Tree}
use Rattle.kr_ast.specs.Arena.{name_in, tree_in, tree_of}
use Rattle.kr_ast.specs.declared.node.Name.{Name}
use Rattle.kr_ast.specs.declared.node.Entry.{Entry}
use Rattle.kr_ast.specs.declared.node.Node.{Node}
use Rattle.kr_ast.specs.declared.node.Node.TheVariants as nodes
use Rattle.kr_classes_table.specs.Table.{Heading, Method, items, method_with, methods_in, parameters_in, type_named}
use Rattle.kr_classes_table.specs.Constants.{values_of}
use Rattle.kr_types_meaning.specs.Scopes.{Scope, after, static_if}
use Rattle.kr_laws_types.specs.Derivation.{AreStatements, IsMember, IsSignature}
use Rattle.kr_types_meaning.specs.Handing.{handed}
use Rattle.kr_types_meaning.specs.Running.{running}
use Rattle.kr_types.specs.declared.program.Program.{Program}
use Rattle.kr_types.specs.Programs.{IsProgram}
use Rattle.kr_code_members.specs.declared.nodes.MethodNode.{MethodNode}
use Rattle.kr_code_members.specs.Nodes.{IsHere, IsMemberNode, IsMethodNode, arena_at, members_scope, node_scope, node_tree, table}
use Rattle.kr_code_members.proofs.Scopes.{method_body, parameters, part_scope, part_there, parts_are, tree_is}

-- nodes that are no methods
pub no_methods : (hs : List Heading) (c : ℕ) (text : List ℕ) (look : ℕ → Tree) (pl : Place) (n : Node) → ((st : Bool) (x : Name) (a b : ℕ) → n ≡ nodes.Method st x a b → ⊥) → methods_in hs c (tree_of text look pl n) ≡ []
no_methods hs c text look pl (nodes.Method st x a b) h = absurd (h st x a b refl)
no_methods hs c text look pl _ h = refl

pub no_method : (p : Program) (f c i : ℕ) (e : Entry) → IsHere p f i e → ((st : Bool) (x : Name) (a b : ℕ) → e.node ≡ nodes.Method st x a b → ⊥) → AllZip (IsMethodNode p) (methods_in (table p).headings c (node_tree p f i)) []
no_method p f c i e at h = rw (ap (methods_in (table p).headings c) at.tree ∙ no_methods (table p).headings c (arena_at p f).text (tree_in (arena_at p f)) e.place e.node h) tt

no_signature : (hs : List Heading) (c : ℕ) (p : Place) (st : Bool) (x : List ℕ) (body : Tree) (text : List ℕ) (look : ℕ → Tree) (pl : Place) (n : Node) → ((r ps cs : ℕ) → n ≡ nodes.Signature r ps cs → ⊥)
    → method_with hs c p st x body (tree_of text look pl n) ≡ []
no_signature hs c p st x body text look pl (nodes.Signature r ps cs) h = absurd (h r ps cs refl)
no_signature hs c p st x body text look pl _ h = refl

module _ (p : Program) (program : IsProgram p) (f c i : ℕ) (member : IsMemberNode p f c i) (e : Entry) (at : IsHere p f i e) (st : Bool) (x : Name) (sg b : ℕ) (it : e.node ≡ nodes.Method st x sg b) where
  abbrev n : Node
  n = nodes.Method st x sg b

  abbrev name : List ℕ
  name = name_in (arena_at p f).text x

  abbrev hs : List Heading
  hs = (table p).headings

  abbrev body : Tree
  body = node_tree p f b

  t : node_tree p f i ≡ trees.Method e.place st name (node_tree p f sg) body
  t = tree_is p f i e n at it

  shape : IsSignature (node_tree p f sg) × AreStatements body
  shape = subst (IsMember false) t member.shape

  -- of the signature
  signature_scope : node_scope p f sg ≡ static_if st (members_scope p c)
  signature_scope =
      part_scope p program f i 0 sg at.there (parts_are p f i e n at it).0 ∙ ap (λ (u : Tree). handed (node_scope p f i) u 0) t ∙ ap (static_if st) member.scope

  pub unsigned : (s : Entry) → IsHere p f sg s → ((r ps cs : ℕ) → s.node ≡ nodes.Signature r ps cs → ⊥) → AllZip (IsMethodNode p) (methods_in hs c (node_tree p f i)) []
  unsigned s here h =
      let none : methods_in hs c (node_tree p f i) ≡ [] =
      ap (methods_in hs c) t ∙ ap (method_with hs c e.place st name body) here.tree ∙ no_signature hs c e.place st name body (arena_at p f).text (tree_in (arena_at p f)) s.place s.node h in
      subst (λ (ms : List Method). AllZip (IsMethodNode p) ms []) (sym none) tt

  module _ (s : Entry) (here : IsHere p f sg s) (r ps cs : ℕ) (is : s.node ≡ nodes.Signature r ps cs) where
    abbrev pt : Tree
    pt = node_tree p f ps

    u : node_tree p f sg ≡ trees.Signature s.place (node_tree p f r) pt (node_tree p f cs)
    u = tree_is p f sg s (nodes.Signature r ps cs) here is

    abbrev own : Method
    own = record { class = c; name = name; place = e.place; is_static = st; parameters = parameters_in hs pt; result = type_named hs (node_tree p f r); contracts = items (node_tree p f cs); body = items body }

    declares : methods_in hs c (node_tree p f i) ≡ own ∷ []
    declares = ap (methods_in hs c) t ∙ ap (method_with hs c e.place st name body) u

    signed : IsSignature (trees.Signature s.place (node_tree p f r) pt (node_tree p f cs))
    signed = subst IsSignature u shape.0

    abbrev behind : Scope
    behind = after (static_if st (members_scope p c)) (trees.Signature s.place (node_tree p f r) pt (node_tree p f cs))

    contracts_behind : node_scope p f cs ≡ behind
    contracts_behind =
        part_scope p program f sg 2 cs here.there (parts_are p f sg s (nodes.Signature r ps cs) here is).1.1.0 ∙ ap (λ (w : Tree). handed (node_scope p f sg) w 2) u
        ∙ ap (λ (z : Scope). handed z (trees.Signature s.place (node_tree p f r) pt (node_tree p f cs)) 2) signature_scope

    body_behind : node_scope p f b ≡ behind
    body_behind =
        part_scope p program f i 1 b at.there (parts_are p f i e n at it).1.0 ∙ ap (λ (w : Tree). handed (node_scope p f i) w 1) t
        ∙ ap (λ (z : Scope). after (static_if st z) (node_tree p f sg)) member.scope ∙ ap (after (static_if st (members_scope p c))) u

    pub signed_method : AllZip (IsMethodNode p) (methods_in hs c (node_tree p f i)) (record { file = f; class = c; node = i; contracts = cs; body = b } ∷ [])
    signed_method =
        let made : MethodNode = record { file = f; class = c; node = i; contracts = cs; body = b } in
        let runs = method_body (table p) (values_of (table p)) c st s.place (node_tree p f r) pt (node_tree p f cs) (parameters pt signed.1) in
        let is_method : IsMethodNode p own made = record {
          class = refl;
          member = member;
          declares = declares;
          contracts_there = part_there p f sg 2 cs here.there (parts_are p f sg s (nodes.Signature r ps cs) here is).1.1.0;
          contracts = refl;
          contracts_scope = λ arrays. ap running contracts_behind ∙ runs;
          contracts_shape = signed.2;
          body_there = part_there p f i 1 b at.there (parts_are p f i e n at it).1.0;
          body = refl;
          body_scope = λ arrays. ap running body_behind ∙ runs;
          body_shape = shape.1;
        } in
        subst (λ (ms : List Method). AllZip (IsMethodNode p) ms (made ∷ [])) (sym declares) (is_method, tt)
