-- The nodes of the code, by their numbers.
use Rattle.std.proofs.Common.{◌≡◌, refl, sym, ap, ◌∙◌, ℕ, ◌+◌, true, false, List, subst, None}
use Rattle.kr_base.specs.declared.place.Place.{Place}
use Rattle.kr_ast.specs.Tree.{Tree}
use Rattle.kr_ast.specs.Arena.{tree_in, tree_of}
use Rattle.kr_ast.specs.declared.node.Name.{Name}
use Rattle.kr_ast.specs.declared.node.Entry.{Entry}
use Rattle.kr_ast.specs.declared.node.Node as trees
use Rattle.kr_ast.specs.declared.node.Node.TheVariants as nodes
use Rattle.kr_types_meaning.specs.Scopes.{Declaring, Scope, Locals, Fields, Constants}
use Rattle.kr_types_meaning.specs.Running.{locals_only, running}
use Rattle.kr_types.specs.declared.program.Program.{Program}
use Rattle.kr_types.specs.Programs.{IsProgram}
use Rattle.kr_mean.specs.Code as meaning
use Rattle.kr_code.specs.declared.code.Node.{Node}
use Rattle.kr_code.specs.declared.code.Node.TheVariants as made
use Rattle.kr_code.specs.declared.expression.Expression.{Expression}
use Rattle.kr_code.specs.declared.statement.Statement.{Statement}
use Rattle.kr_code.specs.declared.statement.Declarator.{Declarator}
use Rattle.kr_code.specs.declared.statement.Catch.{Catch}
use Rattle.kr_code.specs.Tables.{catch_of, declarator_of, expression_of, statement_of}
use Rattle.kr_code.specs.Resolved.{Numbering, IsCatch, IsDeclarator, IsExpression, IsStatement, is_no_expression, is_no_statement}
use Rattle.kr_code_lowering.specs.declared.site.Site.{Site}
use Rattle.kr_code_members.specs.Nodes.{run_program}
use Rattle.kr_code_lowering.specs.Origins.{Final, node_origin, number_of, numbering_of, origin_of}
use Rattle.kr_code_lowering.specs.Sites.{IsHere, IsSite, Resolves, arena_at, scope_at, tree_at, number_at}
use Rattle.kr_code_lowering.specs.Statements.{Catches, Declares, Does}
use Rattle.kr_code_lowering.specs.Resolving.{IsNode}
use Rattle.kr_code_lowering.proofs.Numbers.{origin_there}
use Rattle.kr_code_lowering.proofs.Dispatch.{no_expression_resolves}
use Rattle.kr_code_lowering.proofs.Performed.{no_statement_does}

origin_is : (p : Program) (ns : List meaning.Node) (s : Site) → IsSite p s → origin_of p ns (number_at p s s.node) ≡ node_origin p s.file s.node
origin_is p ns s at = ap (λ (k : ℕ). origin_of p ns (number_of p (k + s.node))) at.first ∙ origin_there p ns s.file s.node at.file at.node

locals_so : (d : Declaring) → locals_only d ≡ Locals → d ≡ Locals
locals_so Locals h = refl
locals_so Fields h = absurd (cc (h))
locals_so (Constants f) h = absurd (cc (h))

-- a node that is no declarator declares nothing
none_declared : (n : Numbering) (s : Scope) (text : List ℕ) (look : ℕ → Tree) (pl : Place) (m : trees.Node) → ((x : Name) (i : ℕ) → m ≡ nodes.Declarator x i → ⊥) → IsDeclarator n s (tree_of text look pl m) None
none_declared n s text look pl (nodes.Declarator x i) h = absurd (h x i refl)
none_declared n s text look pl _ h = tt

-- a node that is no catch catches nothing
none_caught : (n : Numbering) (s : Scope) (text : List ℕ) (look : ℕ → Tree) (pl : Place) (m : trees.Node) → ((d b : ℕ) → m ≡ nodes.Catch d b → ⊥) → IsCatch n s (tree_of text look pl m) None
none_caught n s text look pl (nodes.Catch d b) h = absurd (h d b refl)
none_caught n s text look pl _ h = tt

expression_no_statement : (text : List ℕ) (look : ℕ → Tree) (pl : Place) (m : trees.Node) → is_no_expression (tree_of text look pl m) ≡ false → is_no_statement (tree_of text look pl m) ≡ true
expression_no_statement text look pl nodes.Empty h = absurd (cc (h))
expression_no_statement text look pl (nodes.Block a) h = absurd (cc (h))
expression_no_statement text look pl (nodes.Local a b) h = absurd (cc (h))
expression_no_statement text look pl (nodes.ExpressionStatement a) h = absurd (cc (h))
expression_no_statement text look pl (nodes.IfThen a b) h = absurd (cc (h))
expression_no_statement text look pl (nodes.IfElse a b c) h = absurd (cc (h))
expression_no_statement text look pl (nodes.While a b) h = absurd (cc (h))
expression_no_statement text look pl (nodes.Do a b) h = absurd (cc (h))
expression_no_statement text look pl (nodes.For a b c d) h = absurd (cc (h))
expression_no_statement text look pl nodes.Break h = absurd (cc (h))
expression_no_statement text look pl nodes.Continue h = absurd (cc (h))
expression_no_statement text look pl (nodes.Return a) h = absurd (cc (h))
expression_no_statement text look pl (nodes.Throw a) h = absurd (cc (h))
expression_no_statement text look pl (nodes.Try a b) h = absurd (cc (h))
expression_no_statement text look pl _ h = refl

module _ (p : Program) (program : IsProgram p) (arrays : List ℕ) (s : Site) (e : Entry) (at : IsHere p s e) (known : List (List ℕ)) (linked : List ℕ) where
  -- from its meaning at its place
  placed : (node : Node) → Resolves p arrays s known linked (expression_of node) → Does p s known linked (statement_of node) → ((scope_at p s).declaring ≡ Locals → (final : Final) → IsDeclarator (numbering_of p final) (running (scope_at p s)) (tree_at p s) (declarator_of node))
      → ((final : Final) → IsCatch (numbering_of p final) (running (scope_at p s)) (tree_at p s) (catch_of node)) → IsNode p arrays known linked (number_at p s s.node) node
  placed node x y d k =
      let o = λ (final : Final). sym (origin_is p final.nodes s at.site) in
      record {
        expression = λ final code b. subst (λ (n : meaning.Node). IsExpression (run_program p arrays) code (numbering_of p final) n.scope n.tree (expression_of node)) (o final) (x final code b);
        statement = λ final code b c. subst (λ (n : meaning.Node). IsStatement code (numbering_of p final) n.scope n.tree (statement_of node)) (o final) (y final code b c);
        declarator = λ final h. subst (λ (n : meaning.Node). IsDeclarator (numbering_of p final) n.scope n.tree (declarator_of node)) (o final) (d (locals_so (scope_at p s).declaring (ap (λ (n : meaning.Node). n.scope.declaring) (o final) ∙ h)) final);
        caught = λ final. subst (λ (n : meaning.Node). IsCatch (numbering_of p final) n.scope n.tree (catch_of node)) (o final) (k final);
      }

  nothing_declared : ((x : Name) (i : ℕ) → e.node ≡ nodes.Declarator x i → ⊥) → (final : Final) → IsDeclarator (numbering_of p final) (running (scope_at p s)) (tree_at p s) None
  nothing_declared h final = subst (λ (t : Tree). IsDeclarator (numbering_of p final) (running (scope_at p s)) t None) (sym at.tree) (none_declared (numbering_of p final) (running (scope_at p s)) (arena_at p s).text (tree_in (arena_at p s)) e.place e.node h)

  nothing_caught : ((d b : ℕ) → e.node ≡ nodes.Catch d b → ⊥) → (final : Final) → IsCatch (numbering_of p final) (running (scope_at p s)) (tree_at p s) None
  nothing_caught h final = subst (λ (t : Tree). IsCatch (numbering_of p final) (running (scope_at p s)) t None) (sym at.tree) (none_caught (numbering_of p final) (running (scope_at p s)) (arena_at p s).text (tree_in (arena_at p s)) e.place e.node h)

  pub expression_node : (x : Expression) → is_no_expression (tree_of (arena_at p s).text (tree_in (arena_at p s)) e.place e.node) ≡ false → ((y : Name) (i : ℕ) → e.node ≡ nodes.Declarator y i → ⊥) → ((d b : ℕ) → e.node ≡ nodes.Catch d b → ⊥) → Resolves p arrays s known linked x → IsNode p arrays known linked (number_at p s s.node) (made.Expression x)
  expression_node x none h k r = placed (made.Expression x) r (no_statement_does p program s e at known linked (expression_no_statement (arena_at p s).text (tree_in (arena_at p s)) e.place e.node none)) (λ l final. nothing_declared h final) (nothing_caught k)

  pub statement_node : (x : Statement) → is_no_expression (tree_of (arena_at p s).text (tree_in (arena_at p s)) e.place e.node) ≡ true → ((y : Name) (i : ℕ) → e.node ≡ nodes.Declarator y i → ⊥) → ((d b : ℕ) → e.node ≡ nodes.Catch d b → ⊥) → Does p s known linked x → IsNode p arrays known linked (number_at p s s.node) (made.Statement x)
  statement_node x none h k r = placed (made.Statement x) (no_expression_resolves p program arrays s e at known linked none) r (λ l final. nothing_declared h final) (nothing_caught k)

  pub declarator_node : (d : Declarator) (y : Name) (i : ℕ) → e.node ≡ nodes.Declarator y i → Declares p s d → IsNode p arrays known linked (number_at p s s.node) (made.Declarator d)
  declarator_node d y i is h =
      let text = (arena_at p s).text in
      let look = tree_in (arena_at p s) in
      placed (made.Declarator d) (no_expression_resolves p program arrays s e at known linked (ap (λ (m : trees.Node). is_no_expression (tree_of text look e.place m)) is))
      (no_statement_does p program s e at known linked (ap (λ (m : trees.Node). is_no_statement (tree_of text look e.place m)) is)) h
      (nothing_caught (λ a b q. let clash : nodes.Declarator y i ≡ nodes.Catch a b = sym is ∙ q in cc (clash)))

  pub catch_node : (c : Catch) (a b : ℕ) → e.node ≡ nodes.Catch a b → Catches p s c → IsNode p arrays known linked (number_at p s s.node) (made.Catch c)
  catch_node c a b is h =
      let text = (arena_at p s).text in
      let look = tree_in (arena_at p s) in
      placed (made.Catch c) (no_expression_resolves p program arrays s e at known linked (ap (λ (m : trees.Node). is_no_expression (tree_of text look e.place m)) is))
      (no_statement_does p program s e at known linked (ap (λ (m : trees.Node). is_no_statement (tree_of text look e.place m)) is))
      (λ l final. nothing_declared (λ y i q. let clash : nodes.Catch a b ≡ nodes.Declarator y i = sym is ∙ q in cc (clash)) final) h
