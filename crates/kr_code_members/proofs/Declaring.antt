-- A field's node.
use Rattle.std.proofs.Common.{◌≡◌, refl, sym, ap, ◌∙◌, subst, ℕ, Bool, true, false, List, [], ◌∷◌, map, get_or, All}
use Rattle.std.specs.Prelude.{flat_map}
use Rattle.std.specs.List.{AllZip}
use Rattle.std.proofs.lemmas.List.Folds.{flat_map-map}
use Rattle.kr_base.specs.declared.place.Place.{Place}
use Rattle.kr_ast.specs.Tree as trees
use Rattle.kr_ast.specs.Tree.{Tree}
use Rattle.kr_ast.specs.Arena.{name_in, tree_in, tree_of}
use Rattle.kr_ast.specs.declared.node.Name.{Name}
use Rattle.kr_ast.specs.declared.node.Entry.{Entry}
use Rattle.kr_ast.specs.declared.node.Node.{Node}
use Rattle.kr_ast.specs.declared.node.Node.TheVariants as nodes
use Rattle.kr_classes_table.specs.Table.{Heading, Field, declared_in, fields_in, items, type_named, Table}
use Rattle.kr_types_meaning.specs.Scopes.{Scope, bind_as, declaring, field_kind, scope_of, static_if}
use Rattle.kr_classes_table.specs.Constants.{Known, values_of}
use Rattle.kr_laws_types.specs.Derivation.{AreDeclarators, IsDeclarator, IsMember, IsVariableType}
use Rattle.kr_types_meaning.specs.Handing.{handed}
use Rattle.kr_types_meaning.specs.Running.{running}
use Rattle.kr_types.specs.declared.program.Program.{Program}
use Rattle.kr_types.specs.Programs.{IsProgram}
use Rattle.kr_code_members.specs.declared.fields.FieldLine.{FieldLine}
use Rattle.kr_code_members.specs.declared.nodes.FieldNode.{FieldNode}
use Rattle.kr_code_members.specs.Nodes.{IsFieldNode, IsHere, IsMemberNode, arena_at, members_scope, node_scope, node_tree, table}
use Rattle.kr_code_members.specs.Walk.{AreStill, IsIn, IsLine, IsOnLine, declared_on}
use Rattle.kr_code_members.proofs.Scopes.{part_scope, part_there, parts_are, tree_is}
use Rattle.kr_code_members.proofs.Items.{each_declarator, still_declarators}
use Rattle.kr_code_members.proofs.Zipped.{each_shown}

-- ---- lines

pub no_fields : (p : Program) (f c i : ℕ) (e : Entry) → IsHere p f i e → ((st fi : Bool) (a b : ℕ) → e.node ≡ nodes.Field st fi a b → ⊥) → fields_in (table p).headings c (node_tree p f i) ≡ []
no_fields p f c i e at h = ap (fields_in (table p).headings c) at.tree ∙ go e.node h
  where
    go : (n : Node) → ((st fi : Bool) (a b : ℕ) → n ≡ nodes.Field st fi a b → ⊥) → fields_in (table p).headings c (tree_of (arena_at p f).text (tree_in (arena_at p f)) e.place n) ≡ []
    go (nodes.Field st fi a b) k = absurd (k st fi a b refl)
    go _ k = refl

module _ (p : Program) (program : IsProgram p) (f c i : ℕ) (member : IsMemberNode p f c i) (e : Entry) (at : IsHere p f i e) (st fi : Bool) (d ds : ℕ) (it : e.node ≡ nodes.Field st fi d ds) where
  t : node_tree p f i ≡ trees.Field e.place st fi (node_tree p f d) (node_tree p f ds)
  t = tree_is p f i e (nodes.Field st fi d ds) at it

  shape : IsVariableType (node_tree p f d) × AreDeclarators (node_tree p f ds)
  shape = subst (IsMember false) t member.shape

  pub field_line : IsLine p f c i (record { is_static = st; is_final = fi; declared = d; declarators = ds })
  field_line = let ps = parts_are p f i e (nodes.Field st fi d ds) at it in record {
    list = record {
      there = part_there p f i 1 ds at.there ps.1.0;
      scope = part_scope p program f i 1 ds at.there ps.1.0 ∙ ap (λ (u : Tree). handed (node_scope p f i) u 1) t
          ∙ ap (λ (z : Scope). static_if st (declaring (field_kind st fi) (node_tree p f d) z)) member.scope;
    };
    shape = shape.1;
    declares = ap (fields_in (table p).headings c) t;
  }

-- a line's declarators declare no locals
pub still_line : (p : Program) (f c i : ℕ) (l : FieldLine) → IsLine p f c i l → AreStill (node_scope p f l.declarators) (items (node_tree p f l.declarators))
still_line p f c i l h =
    subst (λ (s : Scope). AreStill s (items (node_tree p f l.declarators))) (sym h.list.scope)
    (still_declarators l.is_static l.is_final (node_tree p f l.declared) (members_scope p c) (node_tree p f l.declarators) h.shape)

pub on_line : (p : Program) (f c i : ℕ) (l : FieldLine) (nodes : List ℕ) → IsLine p f c i l → map (node_tree p f) nodes ≡ items (node_tree p f l.declarators) → All (IsIn p f (node_scope p f l.declarators)) nodes → All (IsOnLine p f c l) nodes
on_line p f c i l nodes h shown stand k d b = record {
  node = subst (λ (s : Scope). IsIn p f s (get_or nodes k d)) h.list.scope (stand k d b);
  shape = each_shown IsDeclarator (node_tree p f) nodes (items (node_tree p f l.declarators)) shown (each_declarator (node_tree p f l.declarators) h.shape) k d b;
}

pub line_declares : (p : Program) (f c i : ℕ) (l : FieldLine) (nodes : List ℕ) → IsLine p f c i l → map (node_tree p f) nodes ≡ items (node_tree p f l.declarators) → flat_map (declared_on p f c l) nodes ≡ fields_in (table p).headings c (node_tree p f i)
line_declares p f c i l nodes h shown =
    let declared = declared_in (table p).headings c l.is_static l.is_final (node_tree p f l.declared) in
    sym (flat_map-map declared (node_tree p f) nodes) ∙ ap (flat_map declared) shown ∙ sym h.declares

-- ---- declarators

no_declared : (hs : List Heading) (c : ℕ) (st fi : Bool) (type : Tree) (text : List ℕ) (look : ℕ → Tree) (pl : Place) (n : Node) → ((x : Name) (a : ℕ) → n ≡ nodes.Declarator x a → ⊥) → declared_in hs c st fi type (tree_of text look pl n) ≡ []
no_declared hs c st fi type text look pl (nodes.Declarator x a) h = absurd (h x a refl)
no_declared hs c st fi type text look pl _ h = refl

-- the code of a field's initial value doesn't depend on these
initial_scope : (t : Table) (v : List Known) (c : ℕ) (st fi : Bool) (type : Tree) (x : List ℕ) →
    let s = static_if st (declaring (field_kind st fi) type (scope_of t v c)) in running (bind_as s.declaring x s) ≡ static_if st (scope_of t v c)
initial_scope t v c true fi type x = refl
initial_scope t v c false fi type x = refl

module _ (p : Program) (program : IsProgram p) (f c : ℕ) (l : FieldLine) (i : ℕ) (on : IsOnLine p f c l i) (e : Entry) (at : IsHere p f i e) where
  pub nothing_declared : ((x : Name) (a : ℕ) → e.node ≡ nodes.Declarator x a → ⊥) → AllZip (IsFieldNode p) (declared_on p f c l i) []
  nothing_declared h =
      let declared = declared_in (table p).headings c l.is_static l.is_final (node_tree p f l.declared) in
      let none : declared_on p f c l i ≡ [] = ap declared at.tree ∙ no_declared (table p).headings c l.is_static l.is_final (node_tree p f l.declared) (arena_at p f).text (tree_in (arena_at p f)) e.place e.node h in
      subst (λ (fs : List Field). AllZip (IsFieldNode p) fs []) (sym none) tt

  module _ (x : Name) (a : ℕ) (it : e.node ≡ nodes.Declarator x a) where
    abbrev name : List ℕ
    name = name_in (arena_at p f).text x

    u : node_tree p f i ≡ trees.Declarator e.place name (node_tree p f a)
    u = tree_is p f i e (nodes.Declarator x a) at it

    abbrev own : Field
    own = record { class = c; name = name; place = e.place; is_static = l.is_static; is_final = l.is_final; type = type_named (table p).headings (node_tree p f l.declared); initial = node_tree p f a }

    declares : declared_on p f c l i ≡ own ∷ []
    declares = ap (declared_in (table p).headings c l.is_static l.is_final (node_tree p f l.declared)) u

    pub declared_field : AllZip (IsFieldNode p) (declared_on p f c l i) (record { file = f; is_static = l.is_static; initial = a } ∷ [])
    declared_field =
        let made : FieldNode = record { file = f; is_static = l.is_static; initial = a } in
        let part = (parts_are p f i e (nodes.Declarator x a) at it).0 in
        let is_field : IsFieldNode p own made = record {
          there = part_there p f i 0 a at.there part;
          is_static = refl;
          initial = refl;
          scope = ap running (part_scope p program f i 0 a at.there part ∙ ap (λ (w : Tree). handed (node_scope p f i) w 0) u ∙ ap (λ (s : Scope). bind_as s.declaring name s) on.node.scope)
              ∙ initial_scope (table p) (values_of (table p)) c l.is_static l.is_final (node_tree p f l.declared) name;
          shape = subst IsDeclarator u on.shape;
        } in
        subst (λ (fs : List Field). AllZip (IsFieldNode p) fs (made ∷ [])) (sym declares) (is_field, tt)
