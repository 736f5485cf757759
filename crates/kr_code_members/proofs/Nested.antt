-- The nodes of classes.
use Rattle.std.proofs.Common.{◌≡◌, refl, sym, ap, ◌∙◌, subst, ℕ, true, false, ◌+◌, ◌-◌, ◌<◌, List, [], ◌∷◌, ◌++◌, length, map, take, get_or, append_assoc, append-nil, All}
use Rattle.std.specs.Prelude.{Option, Some, None, flat_map, unwrap_or}
use Rattle.std.proofs.lemmas.List.{map-append, take_more}
use Rattle.std.proofs.lemmas.List.Folds.{flat_map-map}
use Rattle.kr_ast.specs.Tree as trees
use Rattle.kr_ast.specs.Tree.{Tree}
use Rattle.kr_ast.specs.Arena.{Arena, name_in, root, tree_in}
use Rattle.kr_ast.specs.declared.node.Name.{Name}
use Rattle.kr_ast.specs.declared.node.Entry.{Entry}
use Rattle.kr_ast.specs.declared.node.Node.TheVariants as nodes
use Rattle.kr_classes_table.specs.Table.{Heading, heading_of, headings_from, items, number_of, with_nested}
use Rattle.kr_types_meaning.specs.Scopes.{scope_of}
use Rattle.kr_laws_types.specs.Derivation.{IsMember, MayExtend}
use Rattle.kr_types_meaning.specs.Handing.{handed}
use Rattle.kr_ast.specs.Files.{no_file}
use Rattle.kr_ast.specs.declared.files.NodeId.{NodeId}
use Rattle.kr_classes_table.proofs.Headings.{headings_append}
use Rattle.kr_types.specs.declared.program.Program.{Program}
use Rattle.kr_types.specs.Programs.{IsProgram}
use Rattle.kr_code_members.specs.Nodes.{AreShaped, IsHere, IsMemberNode, arena_at, members_scope, node_scope, node_tree, table}
use Rattle.kr_code_members.specs.Walk.{IsClassNode, IsIn, IsItem, IsMemberList, heading_numbered, members_of}
use Rattle.kr_code_members.proofs.Scopes.{part_scope, part_there, parts_are, scope_table, tree_is}
use Rattle.kr_code_members.proofs.Items.{each_class, each_member}
use Rattle.kr_code_members.proofs.Zipped.{each_shown, same_item}

module _ (p : Program) (f i : ℕ) (item : IsItem p f i) (e : Entry) (at : IsHere p f i e) where
  module _ (x : Name) (a b : ℕ) (it : e.node ≡ nodes.Class x a b) where
    abbrev name : List ℕ
    name = name_in (arena_at p f).text x

    t : node_tree p f i ≡ trees.Class e.place name (node_tree p f a) (node_tree p f b)
    t = tree_is p f i e (nodes.Class x a b) at it

    shape : MayExtend (node_tree p f a) × IsMember true (node_tree p f b)
    shape = subst (IsMember false) t item.shape

    abbrev own : Option ℕ → Heading
    own o = record { name = name; place = e.place; outer = o; extended = node_tree p f a; members = items (node_tree p f b) }

    heads : (o : Option ℕ) → heading_of o (node_tree p f i) ≡ own o ∷ []
    heads o = ap (heading_of o) t

    pub is_member_list : IsProgram p → IsMemberList p f i b
    is_member_list program = let part = (parts_are p f i e (nodes.Class x a b) at it).1.0 in record {
      there = part_there p f i 1 b at.there part;
      shape = shape.1;
      listed = λ o. ap (flat_map members_of) (heads o) ∙ append-nil (items (node_tree p f b));
      scope = λ h c is number.
          let same : own h.outer ≡ h = same_item (own h.outer) h (sym (heads h.outer) ∙ is) in
          let named : number_of (table p).headings name ≡ Some c = ap (λ (k : Heading). number_of (table p).headings k.name) same ∙ number in
          let s = node_scope p f i in
          part_scope p program f i 1 b at.there part ∙ ap (λ (u : Tree). handed s u 1) t
          ∙ ap (λ (w : _). scope_of w s.values (unwrap_or (number_of w.headings name) 0)) (scope_table p f i).0
          ∙ ap (λ (v : _). scope_of (table p) v (unwrap_or (number_of (table p).headings name) 0)) (scope_table p f i).1
          ∙ ap (λ (o : Option ℕ). members_scope p (unwrap_or o 0)) named;
    }

-- ---- a class and those among its members

pub with_nested_is : (k : ℕ) (t : Tree) → with_nested k (heading_of None t) ≡ heading_of None t ++ flat_map (heading_of (Some k)) (flat_map members_of (heading_of None t))
with_nested_is k (trees.Class p n e ms) =
    let h : Heading = record { name = n; place = p; outer = None; extended = e; members = items ms } in
    ap (λ (ts : List Tree). h ∷ flat_map (heading_of (Some k)) ts) (sym (append-nil (items ms)))
with_nested_is k _ = refl

pub last_items : (p : Program) (f : ℕ) (a : Arena) (n : ℕ) (nodes : List ℕ) → a ≡ arena_at p f → n ≡ length a.entries → map (tree_in a) nodes ≡ items (tree_in a (n - 1)) → map (node_tree p f) nodes ≡ items (root (arena_at p f))
last_items p f a n nodes e count shown = subst (λ (x : Arena). map (tree_in x) nodes ≡ items (root x)) e (shown ∙ ap (λ (m : ℕ). items (tree_in a (m - 1))) count)

-- the items after those before a class and those in it
pub class_added : (v : ℕ → Tree) (k : ℕ) (before : List Heading) (t : Tree) (xs : List ℕ) → flat_map members_of (heading_of None t) ≡ map v xs
    → (before ++ heading_of None t) ++ flat_map (λ n. heading_of (Some k) (v n)) xs ≡ before ++ with_nested k (heading_of None t)
class_added v k before t xs e =
    append_assoc before (heading_of None t) (flat_map (λ n. heading_of (Some k) (v n)) xs)
    ∙ ap (λ (hs : List Heading). before ++ (heading_of None t ++ hs)) (sym (flat_map-map (heading_of (Some k)) v xs) ∙ ap (flat_map (heading_of (Some k))) (sym e))
    ∙ ap (λ (hs : List Heading). before ++ hs) (sym (with_nested_is k t))

-- the items of a file
pub file_items_are : (p : Program) (f : ℕ) (a : Arena) (n : ℕ) (nodes : List ℕ) → a ≡ arena_at p f → f < length p.trees.items → AreShaped p → n ≡ length a.entries
    → All (λ i. i < length a.entries) nodes → map (tree_in a) nodes ≡ items (tree_in a (n - 1)) → All (IsItem p f) nodes
file_items_are p f a n nodes e l shaped count within shown k d b = record {
  there = record { file = l; node = subst (λ (x : Arena). get_or nodes k d < length x.entries) e (within k d b) };
  shape = each_shown (IsMember false) (node_tree p f) nodes (items (root (arena_at p f))) (last_items p f a n nodes e count shown) (each_class (root (arena_at p f)) (shaped f no_file l)) k d b;
}

-- members are items
pub member_items : (p : Program) (f i l : ℕ) (nodes : List ℕ) → IsMemberList p f i l → map (node_tree p f) nodes ≡ items (node_tree p f l) → All (λ n. n < length (arena_at p f).entries) nodes → All (IsItem p f) nodes
member_items p f i l nodes list shown within k d b = record {
  there = record { file = list.there.file; node = within k d b };
  shape = each_shown (IsMember false) (node_tree p f) nodes (items (node_tree p f l)) shown (each_member (node_tree p f l) list.shape) k d b;
}

-- headings of one item more
pub headings_more : (p : Program) (f : ℕ) (before : List Tree) (xs : List ℕ) (i d : ℕ) → i < length xs →
    let front = before ++ map (node_tree p f) (take i xs) in
    let hs = headings_from 0 front in
    hs ++ with_nested (0 + length hs) (heading_of None (node_tree p f (get_or xs i d))) ≡ headings_from 0 (before ++ map (node_tree p f) (take (i + 1) xs))
headings_more p f before xs i d l =
    let v = node_tree p f in
    let t = v (get_or xs i d) in
    let front = before ++ map v (take i xs) in
    let hs = headings_from 0 front in
    ap (λ (ys : List Heading). hs ++ ys) (sym (append-nil (with_nested (0 + length hs) (heading_of None t))))
    ∙ sym (headings_append 0 front (t ∷ []))
    ∙ ap (headings_from 0) (append_assoc before (map v (take i xs)) (t ∷ []) ∙ ap (λ (ts : List Tree). before ++ ts) (sym (map-append v (take i xs) (get_or xs i d ∷ [])) ∙ ap (map v) (sym (take_more xs i d l))))

-- ---- the members of a class

pub member_nodes_are : (p : Program) (c : ℕ) (at : NodeId) (l : ℕ) (nodes : List ℕ) → IsClassNode p c at → IsMemberList p at.file at.node l → map (node_tree p at.file) nodes ≡ items (node_tree p at.file l)
    → All (IsIn p at.file (node_scope p at.file l)) nodes → All (IsMemberNode p at.file c) nodes
member_nodes_are p c at l nodes class list shown stand k d b = record {
  there = (stand k d b).there;
  scope = (stand k d b).scope ∙ list.scope (heading_numbered p c) c class.node.heading class.number;
  shape = each_shown (IsMember false) (node_tree p at.file) nodes (items (node_tree p at.file l)) shown (each_member (node_tree p at.file l) list.shape) k d b;
}

-- the list has the members of the class's head
pub listed_members : (p : Program) (c : ℕ) (at : NodeId) (l : ℕ) → IsClassNode p c at → IsMemberList p at.file at.node l → items (node_tree p at.file l) ≡ (heading_numbered p c).members
listed_members p c at l class list =
    let h = heading_numbered p c in
    sym (list.listed h.outer) ∙ ap (flat_map members_of) class.node.heading ∙ append-nil h.members

pub a_class : (p : Program) (c : ℕ) (at : NodeId) → IsClassNode p c at → ((o : Option ℕ) → heading_of o (node_tree p at.file at.node) ≡ []) → ⊥
a_class p c at class none = let h = heading_numbered p c in let is = class.node.heading in let not = none h.outer in cc
