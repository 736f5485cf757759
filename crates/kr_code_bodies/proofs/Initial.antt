-- Initial values of fields as nodes.
use Rattle.std.proofs.Common.{◌≡◌, refl, sym, ap, ◌∙◌, subst, ℕ, suc, ◌+◌, ◌<◌, Bool, true, false, List, [], ◌∷◌, ◌++◌, length, map, get_or, append-nil, arith}
use Rattle.std.specs.Prelude.{if◌then◌else◌, Option, Some, flat_map, option_map, slice_get}
use Rattle.std.specs.List.{AllZip, range_with_len}
use Rattle.std.proofs.lemmas.Option.{get_or_from_slice_get, slice_get-get_or, slice_get-map}
use Rattle.kr_ast.specs.Tree as trees
use Rattle.kr_ast.specs.Tree.{Tree}
use Rattle.kr_ast.specs.Arena.{tree_in, tree_of}
use Rattle.kr_ast.specs.declared.node.Entry.{Entry}
use Rattle.kr_ast.specs.declared.node.Node as ast
use Rattle.kr_ast.specs.declared.node.Node.TheVariants as syntax
use Rattle.kr_base.specs.declared.place.Place.{Place}
use Rattle.kr_classes_table.specs.Table as tables
use Rattle.kr_classes_table.specs.Table.{Table, own_fields, is_instance}
use Rattle.kr_types_meaning.specs.Running.{running}
use Rattle.kr_classes_names.specs.ListedTypes.{IsGrown}
use Rattle.kr_types.specs.declared.program.Program.{Program}
use Rattle.kr_types.specs.Programs.{IsProgram}
use Rattle.kr_types_meaning.specs.Scopes.{Scope, scope_of, static_if}
use Rattle.kr_classes_table.specs.Constants.{values_of}
use Rattle.kr_mean.specs.Program.{class_scope}
use Rattle.kr_code_members.specs.Nodes.{run_program, table, IsFieldNode}
use Rattle.kr_code_members.specs.declared.nodes.FieldNode.{FieldNode}
use Rattle.kr_code.specs.declared.code.Code.{Code}
use Rattle.kr_code.specs.declared.code.Node.{Node}
use Rattle.kr_code.specs.declared.code.Node.TheVariants as nodes
use Rattle.kr_code.specs.declared.code.Initialiser.{Initialiser}
use Rattle.kr_code.specs.Tables.{initialiser_of, node_at}
use Rattle.kr_code.specs.Resolved.{AreInitialisers, IsInitialiser, IsPart, has_initial, initial_or_none}
use Rattle.kr_classes_members.specs.Rosters.{all_fields, field_numbered, fields_of_class, first_of, no_field}
use Rattle.kr_classes_members.proofs.Sections.{section}
use Rattle.kr_code_lowering.specs.declared.site.Site.{Site}
use Rattle.kr_code_lowering.specs.Origins.{Final, numbering_of}
use Rattle.kr_code_lowering.specs.Sites.{IsHere, arena_at, number_at, scope_at, tree_at}
use Rattle.kr_code_lowering.proofs.Growth.{got_grown}
use Rattle.kr_code_lowering.proofs.Parts.{part_number}
use Rattle.kr_code_bodies.specs.Made.{IsInitial}
use Rattle.kr_code_bodies.proofs.Declared.{IsSiteOf, site_scope, site_tree}
use Rattle.kr_base.proofs.ListLemmas.{slice_get-append_add}

-- ---- one field

-- a static field's initial value is none of an object's
pub none_static : (p : Program) (f : tables.Field) → f.is_static ≡ true → AllZip (IsInitial p) (flat_map has_initial (is_instance f)) []
none_static p f e = subst (λ (b : Bool). AllZip (IsInitial p) (flat_map has_initial (if b then [] else f ∷ [])) []) (sym e) tt

instance_is : (f : tables.Field) → f.is_static ≡ false → flat_map has_initial (is_instance f) ≡ has_initial f
instance_is f e = ap (λ (b : Bool). flat_map has_initial (if b then [] else f ∷ [])) e ∙ append-nil (has_initial f)

tree_there : (f : tables.Field) (text : List ℕ) (look : ℕ → Tree) (pl : Place) (n : ast.Node) → (n ≡ syntax.Nil → ⊥) → initial_or_none f (tree_of text look pl n) ≡ f ∷ []
tree_there f text look pl syntax.Nil h = absurd (h refl)
tree_there f text look pl _ h = refl

-- the scope of an object's initial value
instance_scope : (b : Bool) (s : Scope) → s.is_static ≡ false → b ≡ false → static_if b s ≡ s
instance_scope b s h e = ap (λ (x : Bool). static_if x s) (e ∙ sym h)

module _ (p : Program) (program : IsProgram p) (n : FieldNode) (s : Site) (is : IsSiteOf p s n.file n.initial) (e : Entry) (at : IsHere p s e) (f : tables.Field) (field : IsFieldNode p f n) where
  -- it is absent
  pub none_written : f.is_static ≡ false → e.node ≡ syntax.Nil → AllZip (IsInitial p) (flat_map has_initial (is_instance f)) []
  none_written st it =
      let t : f.initial ≡ trees.Nil = sym field.initial ∙ site_tree p s n.file n.initial is ∙ at.tree ∙ ap (tree_of (arena_at p s).text (tree_in (arena_at p s)) e.place) it in
      subst (λ (fs : List tables.Field). AllZip (IsInitial p) fs []) (sym (instance_is f st ∙ ap (initial_or_none f) t)) tt

  pub written : f.is_static ≡ false → (e.node ≡ syntax.Nil → ⊥) → (number : ℕ) → field_numbered (table p) number ≡ f → AllZip (IsInitial p) (flat_map has_initial (is_instance f)) (record { field = number; value = number_at p s s.node } ∷ [])
  written st it number numbered =
      let t : f.initial ≡ tree_at p s = sym field.initial ∙ site_tree p s n.file n.initial is in
      let one : flat_map has_initial (is_instance f) ≡ f ∷ [] = instance_is f st ∙ ap (initial_or_none f) (t ∙ at.tree) ∙ tree_there f (arena_at p s).text (tree_in (arena_at p s)) e.place e.node it in
      let made : Initialiser = record { field = number; value = number_at p s s.node } in
      let c : Scope = class_scope (run_program p []) f.class in
      let runs : running (scope_at p s) ≡ c = ap running (site_scope p s n.file n.initial is) ∙ field.scope ∙ instance_scope f.is_static (scope_of (table p) (values_of (table p)) f.class) refl st in
      let is_initial : IsInitial p f made = record {
        value = λ final. subst (λ (u : Tree). IsPart (numbering_of p final) c u (number_at p s s.node)) (sym t) (subst (λ (z : Scope). IsPart (numbering_of p final) z (tree_at p s) (number_at p s s.node)) runs (part_number p final s is.site s.node is.site.node));
        field = numbered;
      } in
      subst (λ (fs : List tables.Field). AllZip (IsInitial p) fs (made ∷ [])) (sym one) (is_initial, tt)

-- ---- the fields of a class

-- the number of a class's own field
pub own_number : (t : Table) (c j : ℕ) (d : tables.Field) → j < length (own_fields t c) → field_numbered t (first_of fields_of_class t c + j) ≡ get_or (own_fields t c) j d
own_number t c j d l =
    get_or_from_slice_get (all_fields t) (first_of fields_of_class t c + j) (get_or (own_fields t c) j d) (no_field t) (section fields_of_class t.classes c j l ∙ slice_get-get_or (own_fields t c) j d l)

-- ---- nodes

-- the nodes after these are those of the initial values
pub nodes_behind : (old new : List Node) (xs : List Initialiser) (code : Code) → new ≡ old ++ map nodes.Initialiser xs → IsGrown new code.nodes.items → (k : ℕ) (x : Initialiser) → slice_get xs k ≡ Some x → initialiser_of (node_at code (length old + k)) ≡ Some x
nodes_behind old new xs code e g k x i =
    let made : slice_get new (length old + k) ≡ Some (nodes.Initialiser x) =
    ap (λ (ns : List Node). slice_get ns (length old + k)) e ∙ slice_get-append_add old (map nodes.Initialiser xs) k ∙ slice_get-map nodes.Initialiser xs k ∙ ap (option_map nodes.Initialiser) i in
    ap initialiser_of (get_or_from_slice_get code.nodes.items (length old + k) (nodes.Initialiser x) _ (got_grown new code.nodes.items (length old + k) (nodes.Initialiser x) g made))

pub initialisers_are : (p : Program) (arrays : List ℕ) (code : Code) (final : Final) (fs : List tables.Field) (xs : List Initialiser) (base : ℕ) → AllZip (IsInitial p) fs xs → ((k : ℕ) (x : Initialiser) → slice_get xs k ≡ Some x → initialiser_of (node_at code (base + k)) ≡ Some x)
    → AreInitialisers (run_program p arrays) code (numbering_of p final) fs (range_with_len base (length xs))
initialisers_are p arrays code final [] [] base h g = tt
initialisers_are p arrays code final [] (x ∷ xs) base h g = absurd h
initialisers_are p arrays code final (f ∷ fs) [] base h g = absurd h
initialisers_are p arrays code final (f ∷ fs) (x ∷ xs) base h g =
    let z : base ≡ base + 0 = omega arith in
    let first : initialiser_of (node_at code base) ≡ Some x = ap (λ (n : ℕ). initialiser_of (node_at code n)) z ∙ g 0 x refl in (
      subst (λ (o : Option Initialiser). IsInitialiser (run_program p arrays) (numbering_of p final) f o) (sym first) (h.0.value final, h.0.field),
      initialisers_are p arrays code final fs xs (base + 1) h.1 (λ k y i. let e : base + 1 + k ≡ base + suc k = omega arith in ap (λ (n : ℕ). initialiser_of (node_at code n)) e ∙ g (suc k) y i),
    )
