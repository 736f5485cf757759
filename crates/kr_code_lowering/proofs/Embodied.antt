-- Bodies of methods and constructors run in the scope that the meaning has for them.
use Rattle.std.proofs.Common.{◌≡◌, refl, sym, ap, ◌∙◌, ℕ, Bool, List, [], ◌∷◌, length, map, subst, Some, None}
use Rattle.std.proofs.lemmas.List.{length-map}
use Rattle.kr_base.specs.declared.place.Place.{Place}
use Rattle.kr_ast.specs.Tree as trees
use Rattle.kr_ast.specs.Tree.{Tree}
use Rattle.kr_ast.specs.Arena.{name_in, tree_in, tree_of}
use Rattle.kr_ast.specs.declared.node.Name.{Name}
use Rattle.kr_ast.specs.declared.node.Entry.{Entry}
use Rattle.kr_ast.specs.declared.node.Node.{Node}
use Rattle.kr_ast.specs.declared.node.Node.TheVariants as nodes
use Rattle.kr_classes_table.specs.Types.{JavaType, is_void}
use Rattle.kr_classes_table.specs.Table.{Heading, Method, Constructor, Parameter, items, methods_in, constructors_in, parameters_in, type_named}
use Rattle.kr_classes_table.specs.Constants.{values_of}
use Rattle.kr_types_meaning.specs.Scopes.{Scope, after, static_if}
use Rattle.kr_types_meaning.specs.Handing.{handed}
use Rattle.kr_types_meaning.specs.Running.{running}
use Rattle.kr_classes_names.specs.ListedTypes.{IsGrown}
use Rattle.kr_types.specs.declared.program.Program.{Program}
use Rattle.kr_types.specs.Programs.{IsProgram}
use Rattle.kr_mean.specs.Program.{constructor_scope, method_scope}
use Rattle.kr_code.specs.declared.expression.Nodes.{Nodes}
use Rattle.kr_code.specs.declared.code.MethodCode.{MethodCode}
use Rattle.kr_code.specs.declared.code.Code.{Code}
use Rattle.kr_code.specs.declared.code.Constructor as made
use Rattle.kr_code.specs.Resolved.{Numbering, AreArguments, IsConstructor, IsMethodCode}
use Rattle.kr_code_lowering.specs.declared.site.Site.{Site}
use Rattle.kr_code_members.specs.Nodes.{run_program, table}
use Rattle.kr_code_lowering.specs.Origins.{node_tree, numbering_of}
use Rattle.kr_code_lowering.specs.Sites.{Becomes, IsHere, arena_at, scope_at, tree_at}
use Rattle.kr_code_lowering.specs.Lists.{AreLinked}
use Rattle.kr_code_members.specs.Walk.{AreParameters}
use Rattle.kr_code_members.proofs.Zipped.{same_item}
use Rattle.kr_code_members.proofs.Scopes.{constructor_body, method_body}
use Rattle.kr_code_lowering.specs.Bodies.{AreTyped, HasParameters, parameter_type, TakesParameters, Calls, Constructs, Declares}
use Rattle.kr_code_lowering.proofs.Growth.{grown_on}
use Rattle.kr_code_lowering.proofs.Parts.{part_scope, tree_is}
use Rattle.kr_code_lowering.proofs.Naming.{parts_are}
use Rattle.kr_code_lowering.proofs.Called.{arguments_are}

-- the types of parameters, and how many they are
parameter_types : (hs : List Heading) (ps : Tree) → AreParameters ps → map (parameter_type hs) (items ps) ≡ map (λ (p : Parameter). p.type) (parameters_in hs ps)
parameter_types hs trees.Nil h = refl
parameter_types hs (trees.Cons (trees.Parameter p t n) b) h = ap (λ (ts : List JavaType). type_named hs t ∷ ts) (parameter_types hs b h)
parameter_types hs (trees.Cons _ b) h = absurd h
parameter_types hs _ h = absurd h

parameter_count : (hs : List Heading) (ps : Tree) → AreParameters ps → length (items ps) ≡ length (parameters_in hs ps)
parameter_count hs ps h = sym (length-map (items ps) (parameter_type hs)) ∙ ap length (parameter_types hs ps h) ∙ length-map (parameters_in hs ps) (λ (p : Parameter). p.type)

module _ (p : Program) (program : IsProgram p) (s : Site) (e : Entry) (at : IsHere p s e) (known : List (List ℕ)) (before linked : List ℕ) (st : Bool) (x : Name) (sg b : ℕ) (it : e.node ≡ nodes.Method st x sg b) where
  pub method_declares : (made : MethodCode) → IsGrown before linked → AreLinked p (record s { node = b }) linked made.body
      → ((q : Place) (r ps cs : Tree) → node_tree p s.file sg ≡ trees.Signature q r ps cs → AreTyped p ps before made.parameters)
      → ((q : Place) (r ps cs : Tree) → node_tree p s.file sg ≡ trees.Signature q r ps cs → made.is_void ≡ is_void (type_named (table p).headings r))
      → (arrays : List ℕ) → Declares p arrays s known linked made
  method_declares made grown links typed void arrays final code becomes c m member has one = go (node_tree p s.file sg) refl (subst HasParameters t has) (subst (λ (u : Tree). methods_in (table p).headings c u ≡ m ∷ []) t one)
    where
      n : Node
      n = nodes.Method st x sg b

      name : List ℕ
      name = name_in (arena_at p s).text x

      body : Tree
      body = node_tree p s.file b

      t : tree_at p s ≡ trees.Method e.place st name (node_tree p s.file sg) body
      t = tree_is p s e n at it

      go : (g : Tree) → node_tree p s.file sg ≡ g → HasParameters (trees.Method e.place st name g body) → methods_in (table p).headings c (trees.Method e.place st name g body) ≡ m ∷ []
          → IsMethodCode (run_program p arrays) code (numbering_of p final) m made
      go (trees.Signature q r ps cs) g h o =
          let hs = (table p).headings in
          let own : Method = record { class = c; name = name; place = e.place; is_static = st; parameters = parameters_in hs ps; result = type_named hs r; contracts = items cs; body = items body } in
          let runs = ap (λ (u : Tree). running (after (static_if st (scope_at p s)) u)) g
          ∙ ap (λ (u : Scope). running (after (static_if st u) (trees.Signature q r ps cs))) member ∙ method_body (table p) (values_of (table p)) c st q r ps cs h in
          subst (λ (k : Method). IsMethodCode (run_program p arrays) code (numbering_of p final) k made) (same_item own m o) (record {
            parameters = (typed q r ps cs g).count ∙ parameter_count hs ps h;
            types = (typed q r ps cs g).types code.links.items (grown_on before linked code.links.items grown becomes.links) ∙ parameter_types hs ps h;
            void = void q r ps cs g;
            body = arguments_are p program known linked final code becomes s e n at it 1 b (parts_are p s e n at it).1.0 made.body links (method_scope (run_program p arrays) own) runs;
          })
      go _ g h o = absurd h

-- ---- constructors

no_arguments : (code : Code) (n : Numbering) (s : Scope) (text : List ℕ) (look : ℕ → Tree) (pl : Place) (m : Node) → ((a : ℕ) → m ≡ nodes.ConstructorCall a → ⊥) → AreArguments code n s (tree_of text look pl m) None
no_arguments code n s text look pl (nodes.ConstructorCall a) h = absurd (h a refl)
no_arguments code n s text look pl _ h = tt

module _ (p : Program) (program : IsProgram p) (s : Site) (e : Entry) (at : IsHere p s e) (linked : List ℕ) where
  pub call_arguments : (a : ℕ) → e.node ≡ nodes.ConstructorCall a → (ns : Nodes) → AreLinked p (record s { node = a }) linked ns → Calls p s linked (Some ns)
  call_arguments a it ns links known final code becomes =
      let n = nodes.ConstructorCall a in
      let r = running (scope_at p s) in
      subst (λ (t : Tree). AreArguments code (numbering_of p final) r t (Some ns)) (sym (tree_is p s e n at it))
      (arguments_are p program known linked final code becomes s e n at it 0 a (parts_are p s e n at it).0 ns links r refl)

  pub no_call : ((a : ℕ) → e.node ≡ nodes.ConstructorCall a → ⊥) → Calls p s linked None
  no_call h known final code becomes =
      let a = arena_at p s in
      let r = running (scope_at p s) in
      subst (λ (t : Tree). AreArguments code (numbering_of p final) r t None) (sym at.tree) (no_arguments code (numbering_of p final) r a.text (tree_in a) e.place e.node h)

module _ (p : Program) (program : IsProgram p) (s : Site) (e : Entry) (at : IsHere p s e) (known : List (List ℕ)) (first before linked : List ℕ) (a k b : ℕ) (it : e.node ≡ nodes.Constructor a k b) where
  pub constructor_constructs : (x : made.Constructor) → IsGrown first before → IsGrown before linked → AreTyped p (node_tree p s.file a) first x.parameters → Calls p (record s { node = k }) before x.call → AreLinked p (record s { node = b }) linked x.body
      → (arrays : List ℕ) → Constructs p arrays s known linked x
  constructor_constructs x f g typed calls links arrays final code becomes c m member takes one =
      let n = nodes.Constructor a k b in
      let ps = parts_are p s e n at it in
      let pt = node_tree p s.file a in
      let hs = (table p).headings in
      let t = tree_is p s e n at it in
      let h : AreParameters pt = subst TakesParameters t takes in
      let own : Constructor = record { place = e.place; parameters = parameters_in hs pt; call = node_tree p s.file k; body = items (node_tree p s.file b) } in
      let u : Scope = constructor_scope (run_program p arrays) c own in
      let runs : running (after (scope_at p s) pt) ≡ u = ap (λ (z : Scope). running (after z pt)) member ∙ constructor_body (table p) (values_of (table p)) c pt h in
      let called : running (scope_at p (record s { node = k })) ≡ u = ap running (part_scope p program s at.site 1 k ps.1.0 ∙ ap (λ (w : Tree). handed (scope_at p s) w 1) t) ∙ runs in
      let earlier : Becomes p known before final code = record { names = becomes.names; links = grown_on before linked code.links.items g becomes.links; methods = becomes.methods; classes = becomes.classes } in
      subst (λ (m : Constructor). IsConstructor (run_program p arrays) code (numbering_of p final) c m x) (same_item own m (subst (λ (w : Tree). constructors_in hs w ≡ m ∷ []) t one)) (record {
        parameters = typed.count ∙ parameter_count hs pt h;
        types = typed.types code.links.items (grown_on first linked code.links.items (grown_on first before linked f g) becomes.links) ∙ parameter_types hs pt h;
        call = subst (λ (z : Scope). AreArguments code (numbering_of p final) z (node_tree p s.file k) x.call) called (calls known final code earlier);
        body = arguments_are p program known linked final code becomes s e n at it 2 b ps.1.1.0 x.body links u runs;
      })
