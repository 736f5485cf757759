-- The code that is entered at the nodes of members.
use Rattle.std.proofs.Common.{◌≡◌, refl, sym, ap, ◌∙◌, subst, ℕ, ◌+◌, ◌<◌, ◌≤◌, Bool, true, false, List, [], ◌∷◌, ◌++◌, append-nil, append_assoc, get_or, length, take, arith}
use Rattle.std.specs.Prelude.{Option, Some, None, map, flat_map, option_to_list, if◌then◌else◌}
use Rattle.std.specs.List.{AllZip}
use Rattle.std.proofs.lemmas.Grind.{flat_map-append}
use Rattle.std.proofs.lemmas.List.{take_more, map-append}
use Rattle.std.proofs.lemmas.List.Elements.{All-nil, All-cons, All-append}
use Rattle.kr_ast.specs.Tree.{Tree}
use Rattle.kr_classes_table.specs.Types.{JavaType}
use Rattle.kr_classes_table.specs.Table.{Constructor, Field, Method, items, own_fields, is_instance}
use Rattle.kr_types_meaning.specs.Scopes.{Scope, Requiring, in_contract}
use Rattle.kr_ast.specs.declared.files.NodeId.{NodeId}
use Rattle.kr_types_meaning.specs.Running.{running}
use Rattle.kr_types.specs.declared.program.Program.{Program}
use Rattle.kr_mean.specs.Program as meaning
use Rattle.kr_mean.specs.Program.{class_scope, constructor_of, constructor_scope, method_scope, program_with}
use Rattle.kr_mean.specs.Code.{Node, code, code_of_all, code_of_class, code_of_constructor, code_of_method}
use Rattle.kr_mean.specs.Runs.{required_in, requires_of}
use Rattle.kr_pure.proofs.Nodes.{maybe, statements, super_call}
use Rattle.kr_pure.proofs.Walk.{all_code}
use Rattle.kr_code_members.specs.Nodes.{AreMemberNodes, IsClassNodes, IsConstructorNode, IsFieldNode, IsMaybeConstructorNode, IsMethodNode, node_scope, node_tree, table}
use Rattle.kr_code_members.specs.declared.nodes.ClassNodes.{ClassNodes}
use Rattle.kr_code_members.specs.declared.nodes.ConstructorNode.{ConstructorNode}
use Rattle.kr_code_members.specs.declared.nodes.FieldNode.{FieldNode}
use Rattle.kr_code_members.specs.declared.nodes.MethodNode.{MethodNode}
use Rattle.kr_code_members.specs.declared.nodes.MemberNodes.{MemberNodes}
use Rattle.kr_classes_members.specs.Rosters.{all_methods, method_numbered}
use Rattle.std.proofs.lemmas.Option.{slice_get_read}
use Rattle.kr_pure.specs.declared.conditions.Side.{Side}
use Rattle.kr_pure.specs.declared.conditions.Side.TheVariants as sides
use Rattle.kr_pure.specs.Entries.{Enter, IsEntry, class_entries, code_at, constructor_entries, initial_entry, line_code, side_nodes, stated}
use Rattle.kr_pure.proofs.Lists.{take_past}

pub none_entered : (p : Program) → Enter p [] []
none_entered p = record { stand = All-nil (IsEntry p); code = refl }

pub both_entered : (p : Program) (xs ys : List Node) (es fs : List NodeId) → Enter p xs es → Enter p ys fs → Enter p (xs ++ ys) (es ++ fs)
both_entered p xs ys es fs a b = record {
  stand = All-append (IsEntry p) es fs a.stand b.stand;
  code = flat_map-append (code_at p) es fs ∙ (ap (λ zs. zs ++ flat_map (code_at p) fs) a.code ∙ ap (λ zs. xs ++ zs) b.code);
}

pub one_entered : (p : Program) (e : NodeId) (ns : List Node) → IsEntry p e → code_at p e ≡ ns → Enter p ns (e ∷ [])
one_entered p e ns h is = record { stand = All-cons (IsEntry p) e [] h (All-nil (IsEntry p)); code = append-nil (code_at p e) ∙ is }

-- equal code, at equal entries
pub entered_same : (p : Program) (xs ys : List Node) (es : List NodeId) → xs ≡ ys → Enter p xs es → Enter p ys es
entered_same p xs ys es e h = subst (λ (zs : List Node). Enter p zs es) e h

-- more code at more entries
pub entered_more : (p : Program) (before xs : List Node) (old new more : List NodeId) → new ≡ old ++ more → Enter p xs more → Enter p before old → Enter p (before ++ xs) new
entered_more p before xs old new more e h b = subst (λ (es : List NodeId). Enter p (before ++ xs) es) (sym e) (both_entered p before xs old more b h)

-- the node of a method by its number
pub method_there : (p : Program) (nodes : MemberNodes) (k : ℕ) (n : MethodNode) → AreMemberNodes p nodes → k < length (all_methods (table p)) → n ≡ get_or nodes.methods.items k n → IsMethodNode p (method_numbered (table p) k) n
method_there p nodes k n h l e = h.methods k n (slice_get_read nodes.methods.items (length nodes.methods.items) k n refl (let c = h.method_count in omega (arith, l, c)) e)

module _ (p : Program) (arrays : List JavaType) where
  abbrev mean : meaning.Program
  mean = program_with (table p) arrays

  pub body_entered : (m : Method) (n : MethodNode) → IsMethodNode p m n → Enter p (code_of_method mean m) (record { file = n.file; node = n.body } ∷ [])
  body_entered m n h =
      one_entered p (record { file = n.file; node = n.body }) (code_of_method mean m)
      (record { there = h.body_there; seen = statements (node_scope p n.file n.body) (node_tree p n.file n.body) h.body_shape })
      (sym (all_code (running (node_scope p n.file n.body)) (node_tree p n.file n.body) h.body_shape)
      ∙ (ap (λ s. code_of_all s (items (node_tree p n.file n.body))) (h.body_scope arrays) ∙ ap (code_of_all (method_scope mean m)) h.body))

  -- ---- classes

  initial_entered : (f : Field) (n : FieldNode) → IsFieldNode p f n → Enter p (flat_map (λ (g : Field). code (class_scope mean g.class) g.initial) (is_instance f)) (initial_entry n)
  initial_entered f n h = go f.is_static refl
    where
      go : (b : Bool) → f.is_static ≡ b → Enter p (flat_map (λ (g : Field). code (class_scope mean g.class) g.initial) (if b then [] else f ∷ [])) (if n.is_static then [] else record { file = n.file; node = n.initial } ∷ [])
      go true e = subst (λ (b : Bool). Enter p [] (if b then [] else record { file = n.file; node = n.initial } ∷ [])) (sym (h.is_static ∙ e)) (none_entered p)
      go false e =
          let scope : running (node_scope p n.file n.initial) ≡ class_scope mean f.class = h.scope ∙ ap (λ b. Rattle.kr_types_meaning.specs.Scopes.static_if b (class_scope mean f.class)) e in
          let entry : IsEntry p (record { file = n.file; node = n.initial }) = record { there = h.there; seen = maybe (node_scope p n.file n.initial) (node_tree p n.file n.initial) h.shape } in
          let same = ap (λ s. code s (node_tree p n.file n.initial)) scope ∙ (ap (code (class_scope mean f.class)) h.initial ∙ sym (append-nil (code (class_scope mean f.class) f.initial))) in
          subst (λ (b : Bool). Enter p (code (class_scope mean f.class) f.initial ++ []) (if b then [] else record { file = n.file; node = n.initial } ∷ [])) (sym (h.is_static ∙ e))
          (one_entered p (record { file = n.file; node = n.initial }) (code (class_scope mean f.class) f.initial ++ []) entry same)

  initials_entered : (fs : List Field) (ns : List FieldNode) → AllZip (IsFieldNode p) fs ns → Enter p (flat_map (λ (g : Field). code (class_scope mean g.class) g.initial) (flat_map is_instance fs)) (flat_map initial_entry ns)
  initials_entered [] [] h = none_entered p
  initials_entered [] (n ∷ ns) h = absurd h
  initials_entered (f ∷ fs) [] h = absurd h
  initials_entered (f ∷ fs) (n ∷ ns) h =
      entered_same p _ _ _ (sym (flat_map-append (λ (g : Field). code (class_scope mean g.class) g.initial) (is_instance f) (flat_map is_instance fs)))
      (both_entered p (flat_map (λ (g : Field). code (class_scope mean g.class) g.initial) (is_instance f)) (flat_map (λ (g : Field). code (class_scope mean g.class) g.initial) (flat_map is_instance fs)) (initial_entry n) (flat_map initial_entry ns)
      (initial_entered f n h.0) (initials_entered fs ns h.1))

  constructor_entered : (c : ℕ) (k : Constructor) (n : ConstructorNode) → IsConstructorNode p c k n → Enter p (code_of_constructor mean c k) (constructor_entries (Some n))
  constructor_entered c k n h =
      both_entered p (code (constructor_scope mean c k) k.call) (code_of_all (constructor_scope mean c k) k.body) (record { file = n.file; node = n.super_call } ∷ []) (record { file = n.file; node = n.body } ∷ [])
      (one_entered p (record { file = n.file; node = n.super_call }) (code (constructor_scope mean c k) k.call)
      (record { there = h.call_there; seen = super_call (node_scope p n.file n.super_call) (node_tree p n.file n.super_call) h.call_shape })
      (ap (λ s. code s (node_tree p n.file n.super_call)) (h.call_scope arrays) ∙ ap (code (constructor_scope mean c k)) h.call))
      (one_entered p (record { file = n.file; node = n.body }) (code_of_all (constructor_scope mean c k) k.body)
      (record { there = h.body_there; seen = statements (node_scope p n.file n.body) (node_tree p n.file n.body) h.body_shape })
      (sym (all_code (running (node_scope p n.file n.body)) (node_tree p n.file n.body) h.body_shape)
      ∙ (ap (λ s. code_of_all s (items (node_tree p n.file n.body))) (h.body_scope arrays) ∙ ap (code_of_all (constructor_scope mean c k)) h.body)))

  maybe_constructor_entered : (c : ℕ) (o : Option Constructor) (n : Option ConstructorNode) → IsMaybeConstructorNode p c o n → Enter p (flat_map (code_of_constructor mean c) (option_to_list o)) (constructor_entries n)
  maybe_constructor_entered c None None h = none_entered p
  maybe_constructor_entered c None (Some n) h = absurd h
  maybe_constructor_entered c (Some k) None h = absurd h
  maybe_constructor_entered c (Some k) (Some n) h = entered_same p _ _ _ (sym (append-nil (code_of_constructor mean c k))) (constructor_entered c k n h)

  pub class_entered : (c : ℕ) (n : ClassNodes) → IsClassNodes p c n → Enter p (code_of_class mean c) (class_entries n)
  class_entered c n h =
      both_entered p (flat_map (λ (f : Field). code (class_scope mean f.class) f.initial) (flat_map is_instance (own_fields (table p) c))) (flat_map (code_of_constructor mean c) (option_to_list (constructor_of mean c))) (flat_map initial_entry n.fields.items) (constructor_entries n.constructor)
      (initials_entered (own_fields (table p) c) n.fields.items h.fields) (maybe_constructor_entered c (constructor_of mean c) n.constructor h.constructor)

  -- ---- contracts

  lines_same : (s : Scope) (side : Side) (ts : List Tree) → flat_map (λ (n : Node). code n.scope n.tree) (flat_map (stated side s) ts) ≡ flat_map (line_code side s) ts
  lines_same s side [] = refl
  lines_same s side (t ∷ ts) = flat_map-append (λ (n : Node). code n.scope n.tree) (stated side s t) (flat_map (stated side s) ts) ∙ ap (λ ns. line_code side s t ++ ns) (lines_same s side ts)

  -- the conditions of a method's contract are those of its lines
  pub contract_same : (m : Method) (n : MethodNode) (side : Side) → IsMethodNode p m n
      → flat_map (line_code side (running (node_scope p n.file n.contracts))) (items (node_tree p n.file n.contracts)) ≡ flat_map (λ (e : Node). code e.scope e.tree) (side_nodes mean side m)
  contract_same m n side h =
      ap (λ s. flat_map (line_code side s) (items (node_tree p n.file n.contracts))) (h.contracts_scope arrays)
      ∙ (ap (flat_map (line_code side (method_scope mean m))) h.contracts ∙ sym (lines_same (method_scope mean m) side m.contracts))

abbrev required_node : Scope → Tree → Node
required_node s e = record { scope = in_contract Requiring s; tree = e }

required_lines : (s : Scope) (ts : List Tree) → flat_map (stated sides.Required s) ts ≡ map (required_node s) (flat_map required_in ts)
required_lines s [] = refl
required_lines s (t ∷ ts) = ap (λ (ns : List Node). stated sides.Required s t ++ ns) (required_lines s ts) ∙ sym (map-append (required_node s) (required_in t) (flat_map required_in ts))

-- those before the call are its preconditions
pub required_same : (program : meaning.Program) (m : Method) → side_nodes program sides.Required m ≡ requires_of program m
required_same program m = required_lines (method_scope program m) m.contracts

-- ---- lists of them

-- the code of one more
more_code : {A : Type 0} (g : A → List Node) (before : List Node) (xs : List A) (i : ℕ) (d : A) → i < length xs → before ++ flat_map g (take (i + 1) xs) ≡ (before ++ flat_map g (take i xs)) ++ g (get_or xs i d)
more_code g before xs i d l =
    let x = get_or xs i d in
    ap (λ ys. before ++ flat_map g ys) (take_more xs i d l)
    ∙ (ap (λ ns. before ++ ns) (flat_map-append g (take i xs) (x ∷ []))
    ∙ (ap (λ ns. before ++ (flat_map g (take i xs) ++ ns)) (append-nil (g x)) ∙ sym (append_assoc before (flat_map g (take i xs)) (g x))))

pub no_code : (p : Program) (before : List Node) (es : List NodeId) → Enter p before es → Enter p (before ++ []) es
no_code p before es h = entered_same p before (before ++ []) es (sym (append-nil before)) h

-- the claim for one more, after any code
pub one_more_after : {A : Type 0} (p : Program) (g : A → List Node) (before : List Node) (xs : List A) (i : ℕ) (d : A) (old new : List NodeId) → i < length xs → ((ns : List Node) → Enter p ns old → Enter p (ns ++ g (get_or xs i d)) new)
    → Enter p (before ++ flat_map g (take i xs)) old → Enter p (before ++ flat_map g (take (i + 1) xs)) new
one_more_after p g before xs i d old new l h k = entered_same p _ _ new (sym (more_code g before xs i d l)) (h (before ++ flat_map g (take i xs)) k)

-- that of all
pub whole_entered : {A : Type 0} (p : Program) (g : A → List Node) (before : List Node) (xs : List A) (i : ℕ) (es : List NodeId) → length xs ≤ i → Enter p (before ++ flat_map g (take i xs)) es → Enter p (before ++ flat_map g xs) es
whole_entered p g before xs i es l h = entered_same p _ _ es (ap (λ ys. before ++ flat_map g ys) (take_past xs i l)) h

pub mapped_code : {A B : Type 0} (f : A → B) (g : B → List Node) (xs : List A) → flat_map (λ x. g (f x)) xs ≡ flat_map g (map f xs)
mapped_code f g [] = refl
mapped_code f g (x ∷ xs) = ap (λ ns. g (f x) ++ ns) (mapped_code f g xs)
