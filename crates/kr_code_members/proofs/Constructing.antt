-- A constructor's nodes.
use Rattle.std.proofs.Common.{◌≡◌, refl, sym, ap, ◌∙◌, subst, ℕ, zero, suc, ◌+◌, ◌<◌, false, List, [], ◌∷◌, ◌++◌, length, take, get_or, arith}
use Rattle.std.specs.Prelude.{Option, Some, None, true, flat_map, is_some, option_to_list}
use Rattle.std.specs.List.{AllZip}
use Rattle.kr_base.specs.declared.place.Place.{Place}
use Rattle.kr_ast.specs.Tree as trees
use Rattle.kr_ast.specs.Tree.{Tree}
use Rattle.kr_ast.specs.Arena.{IsPart, tree_in, tree_of}
use Rattle.kr_ast.specs.declared.node.Entry.{Entry}
use Rattle.kr_ast.specs.declared.node.Node.{Node}
use Rattle.kr_ast.specs.declared.node.Node.TheVariants as nodes
use Rattle.kr_classes_table.specs.Table.{Heading, Constructor, constructors_in, items, parameters_in}
use Rattle.kr_classes_table.specs.Constants.{values_of}
use Rattle.kr_types_meaning.specs.Scopes.{Scope, after}
use Rattle.kr_laws_types.specs.Derivation.{AreParameters, AreStatements, IsMember, MayCallSuper}
use Rattle.kr_types_meaning.specs.Handing.{handed}
use Rattle.kr_types_meaning.specs.Running.{running}
use Rattle.kr_types.specs.declared.program.Program.{Program}
use Rattle.kr_types.specs.Programs.{IsProgram}
use Rattle.kr_mean.specs.Program.{first}
use Rattle.kr_code_members.specs.declared.nodes.ConstructorNode.{ConstructorNode}
use Rattle.kr_code_members.specs.Nodes.{IsConstructorNode, IsHere, IsMaybeConstructorNode, IsMemberNode, arena_at, members_scope, node_scope, node_tree, table}
use Rattle.kr_code_members.proofs.Scopes.{constructor_body, parameters, part_scope, part_there, parts_are, tree_is}

pub no_constructors : (hs : List Heading) (text : List ℕ) (look : ℕ → Tree) (pl : Place) (n : Node) → ((a k b : ℕ) → n ≡ nodes.Constructor a k b → ⊥) → constructors_in hs (tree_of text look pl n) ≡ []
no_constructors hs text look pl (nodes.Constructor a k b) h = absurd (h a k b refl)
no_constructors hs text look pl _ h = refl

pub no_constructor : (p : Program) (f c i : ℕ) (e : Entry) → IsHere p f i e → ((a k b : ℕ) → e.node ≡ nodes.Constructor a k b → ⊥) → AllZip (IsConstructorNode p c) (constructors_in (table p).headings (node_tree p f i)) []
no_constructor p f c i e at h = rw (ap (constructors_in (table p).headings) at.tree ∙ no_constructors (table p).headings (arena_at p f).text (tree_in (arena_at p f)) e.place e.node h) tt

module _ (p : Program) (program : IsProgram p) (f c i : ℕ) (member : IsMemberNode p f c i) (e : Entry) (at : IsHere p f i e) (a k b : ℕ) (it : e.node ≡ nodes.Constructor a k b) where
  abbrev n : Node
  n = nodes.Constructor a k b

  abbrev hs : List Heading
  hs = (table p).headings

  abbrev pt : Tree
  pt = node_tree p f a

  t : node_tree p f i ≡ trees.Constructor e.place pt (node_tree p f k) (node_tree p f b)
  t = tree_is p f i e n at it

  shape : AreParameters pt × MayCallSuper (node_tree p f k) × AreStatements (node_tree p f b)
  shape = subst (IsMember false) t member.shape

  abbrev own : Constructor
  own = record { place = e.place; parameters = parameters_in hs pt; call = node_tree p f k; body = items (node_tree p f b) }

  declares : constructors_in hs (node_tree p f i) ≡ own ∷ []
  declares = ap (constructors_in hs) t

  -- of the call and of the statements
  behind : (j d : ℕ) → IsPart (arena_at p f).entries i (suc j) d → node_scope p f d ≡ after (members_scope p c) pt
  behind j d part = part_scope p program f i (suc j) d at.there part ∙ ap (λ (u : Tree). handed (node_scope p f i) u (suc j)) t ∙ ap (λ (z : Scope). after z pt) member.scope

  pub declared_constructor : AllZip (IsConstructorNode p c) (constructors_in hs (node_tree p f i)) (record { file = f; node = i; super_call = k; body = b } ∷ [])
  declared_constructor =
      let made : ConstructorNode = record { file = f; node = i; super_call = k; body = b } in
      let ps = parts_are p f i e n at it in
      let runs = constructor_body (table p) (values_of (table p)) c pt (parameters pt shape.0) in
      let is_constructor : IsConstructorNode p c own made = record {
        member = member;
        declares = declares;
        call_there = part_there p f i 1 k at.there ps.1.0;
        call = refl;
        call_scope = λ arrays. ap running (behind 0 k ps.1.0) ∙ runs;
        call_shape = shape.1;
        body_there = part_there p f i 2 b at.there ps.1.1.0;
        body = refl;
        body_scope = λ arrays. ap running (behind 1 b ps.1.1.0) ∙ runs;
        body_shape = shape.2;
      } in
      subst (λ (ks : List Constructor). AllZip (IsConstructorNode p c) ks (made ∷ [])) (sym declares) (is_constructor, tt)

-- ---- the first among members

-- nothing in the first
later : {A B : Type 0} (f : A → List B) (x : A) (xs : List A) (i : ℕ) (b : B) (ys : List B) → f x ≡ ys → f x ++ flat_map f (take i xs) ≡ [] → (flat_map f (take i xs) ≡ [] → first (flat_map f xs) ≡ Some b) → first (f x ++ flat_map f xs) ≡ Some b
later f x xs i b [] e h g = ap (λ (zs : List _). first (zs ++ flat_map f xs)) e ∙ g (sym (ap (λ (zs : List _). zs ++ flat_map f (take i xs)) e) ∙ h)
later f x xs i b (y ∷ ys) e h g = absurd (cc (sym (ap (λ (zs : List _). zs ++ flat_map f (take i xs)) e) ∙ h))

pub first_there : {A B : Type 0} (f : A → List B) (xs : List A) (i : ℕ) (d : A) (b : B) (bs : List B) → i < length xs → flat_map f (take i xs) ≡ [] → f (get_or xs i d) ≡ b ∷ bs → first (flat_map f xs) ≡ Some b
first_there f [] i d b bs l h k = absurd (omega (arith, l))
first_there f (x ∷ xs) zero d b bs l h k = ap (λ (ys : List _). first (ys ++ flat_map f xs)) k
first_there f (x ∷ xs) (suc i) d b bs l h k = later f x xs i b (f x) refl h (λ g. first_there f xs i d b bs (omega (arith, l)) g k)

pub found_one : (p : Program) (c : ℕ) (ks : List Constructor) (n : ConstructorNode) → AllZip (IsConstructorNode p c) ks (n ∷ []) → (k : Constructor) × (ks ≡ k ∷ []) × IsConstructorNode p c k n
found_one p c [] n h = absurd h
found_one p c (k ∷ []) n h = (k, refl, h.0)
found_one p c (k ∷ l ∷ ks) n h = absurd h.1

-- the first that is found is the first among all
pub maybe_here : (p : Program) (c : ℕ) (f : ℕ → List Constructor) (xs : List ℕ) (i d : ℕ) (found : Option ConstructorNode) → i < length xs → flat_map f (take i xs) ≡ [] → AllZip (IsConstructorNode p c) (f (get_or xs i d)) (option_to_list found)
    → true ≡ is_some found → IsMaybeConstructorNode p c (first (flat_map f xs)) found
maybe_here p c f xs i d None l h k e = absurd (cc (e))
maybe_here p c f xs i d (Some n) l h k e =
    let one = found_one p c (f (get_or xs i d)) n k in
    subst (λ (o : Option Constructor). IsMaybeConstructorNode p c o (Some n)) (sym (first_there f xs i d one.0 [] l h one.1)) one.2
