-- Operators on numbers, at the width of the types of their operands.
use Rattle.std.proofs.Common.{◌≡◌, refl, sym, ap, ◌∙◌, ℕ, ◌+◌, List, subst}
use Rattle.kr_ast.specs.Tree.{Tree}
use Rattle.kr_ast.specs.Arena as arenas
use Rattle.kr_ast.specs.Arena.{tree_in, tree_of}
use Rattle.kr_ast.specs.declared.node.UnaryOperator.{UnaryOperator}
use Rattle.kr_ast.specs.declared.node.UnaryOperator.TheVariants.{Plus, Minus, Complement, Not}
use Rattle.kr_ast.specs.declared.node.BinaryOperator.{BinaryOperator}
use Rattle.kr_ast.specs.declared.node.Entry.{Entry}
use Rattle.kr_ast.specs.declared.node.Node.{Node}
use Rattle.kr_ast.specs.declared.node.Node.TheVariants as nodes
use Rattle.kr_classes_table.specs.Numbers.{Width}
use Rattle.kr_classes_table.specs.Operators.{operator_width}
use Rattle.kr_types_meaning.specs.Scopes.{Scope, value}
use Rattle.kr_types_meaning.specs.Handing.{handed}
use Rattle.kr_types_meaning.specs.Typing.{judged, operand, type_in}
use Rattle.kr_types_meaning.specs.Running.{running}
use Rattle.kr_types.specs.declared.program.Program.{Program}
use Rattle.kr_types.specs.Programs.{IsProgram}
use Rattle.kr_mean.specs.Meaning.{type_width, width_at, width_of, operand_width}
use Rattle.kr_mean.specs.Operators.{unary_operation}
use Rattle.kr_laws_types.proofs.Loops.{running_same, operand_running}
use Rattle.kr_code.specs.declared.expression.Expression.{Expression}
use Rattle.kr_code.specs.declared.expression.Expression.TheVariants as expressions
use Rattle.kr_code.specs.Resolved as resolved
use Rattle.kr_code_members.specs.Nodes.{run_program}
use Rattle.kr_code_lowering.specs.declared.site.Site.{Site}
use Rattle.kr_code_lowering.specs.Kinds.{IsBinary}
use Rattle.kr_code_lowering.specs.Origins.{node_scope, node_tree, numbering_of}
use Rattle.kr_code_lowering.specs.Sites.{IsHere, Resolves, arena_at, scope_at, number_at}
use Rattle.kr_code_lowering.proofs.Parts.{part_in, part_scope, tree_is}
use Rattle.kr_code_lowering.proofs.Naming.{parts_are, resolves_at}

-- the width of the numbers of a node's type
abbrev pub typed_width : Program → ℕ → ℕ → Width
typed_width p f c = type_width (type_in (judged (node_scope p f c) (node_tree p f c)).typed)

-- a value's width is the same where code runs
pub value_width : (p : Program) (s : Site) (c : ℕ) → node_scope p s.file c ≡ value (scope_at p s) → typed_width p s.file c ≡ width_at (running (scope_at p s)) (node_tree p s.file c)
value_width p s c h = ap type_width (ap (λ (x : Scope). type_in (judged x (node_tree p s.file c)).typed) h ∙ sym (running_same (scope_at p s) (node_tree p s.file c)).type)

-- an operand of a sign runs where its operator does
sign_running : (o : UnaryOperator) (s : Scope) → running (operand o s) ≡ running s
sign_running Minus s = refl
sign_running Plus s = refl
sign_running Complement s = refl
sign_running Not s = refl

module _ (p : Program) (program : IsProgram p) (s : Site) (e : Entry) (at : IsHere p s e) where
  -- the scope that a node hands to a part
  pub part_handed : (n : Node) → e.node ≡ n → (j c : ℕ) → arenas.IsPart (arena_at p s).entries s.node j c → node_scope p s.file c ≡ handed (scope_at p s) (tree_of (arena_at p s).text (tree_in (arena_at p s)) e.place n) j
  part_handed n it j c part = part_scope p program s at.site j c part ∙ ap (λ (t : Tree). handed (scope_at p s) t j) (tree_is p s e n at it)

module _ (p : Program) (program : IsProgram p) (arrays : List ℕ) (s : Site) (e : Entry) (at : IsHere p s e) (known : List (List ℕ)) (linked : List ℕ) where
  pub unary_resolves : (o : UnaryOperator) (a : ℕ) (w : Width) → e.node ≡ nodes.Unary o a → w ≡ typed_width p s.file a → Resolves p arrays s known linked (expressions.Unary (unary_operation w o) (number_at p s a))
  unary_resolves o a w is wide =
      subst (λ (v : Width). Resolves p arrays s known linked (expressions.Unary (unary_operation v o) (number_at p s a))) (sym here)
      (resolves_at p arrays s e (nodes.Unary o a) at is known linked (expressions.Unary (unary_operation (operand_width (running (scope_at p s)) o (node_tree p s.file a)) o) (number_at p s a))
      (λ final code b. resolved.unary e.place o (node_tree p s.file a) (number_at p s a) (part_in p program final s e (nodes.Unary o a) at is 0 a (parts_are p s e (nodes.Unary o a) at is).0 (running (scope_at p s)) (sign_running o (scope_at p s)))))
    where
      scope : node_scope p s.file a ≡ operand o (scope_at p s)
      scope = part_handed p program s e at (nodes.Unary o a) is 0 a (parts_are p s e (nodes.Unary o a) at is).0

      here : w ≡ operand_width (running (scope_at p s)) o (node_tree p s.file a)
      here = wide ∙ ap type_width (ap (λ (x : Scope). type_in (judged x (node_tree p s.file a)).typed) scope ∙ sym (operand_running (scope_at p s) o (node_tree p s.file a)))

  pub binary_resolves : (o : BinaryOperator) (a b : ℕ) (v w u : Width) (x : Expression) → e.node ≡ nodes.Binary o a b → v ≡ typed_width p s.file a → w ≡ typed_width p s.file b → u ≡ operator_width o v w → IsBinary o u (number_at p s a) (number_at p s b) x → Resolves p arrays s known linked x
  binary_resolves o a b v w u x is first second both f =
      resolves_at p arrays s e (nodes.Binary o a b) at is known linked x
      (λ final code c. f (run_program p arrays) code (numbering_of p final) (running (scope_at p s)) e.place (node_tree p s.file a) (node_tree p s.file b) here
      (part_in p program final s e (nodes.Binary o a b) at is 0 a parts.0 (running (scope_at p s)) refl) (part_in p program final s e (nodes.Binary o a b) at is 1 b parts.1.0 (running (scope_at p s)) refl))
    where
      parts : arenas.ArePartsFrom (arena_at p s).entries s.node 0 (arenas.parts (nodes.Binary o a b))
      parts = parts_are p s e (nodes.Binary o a b) at is

      here : u ≡ width_of (running (scope_at p s)) o (node_tree p s.file a) (node_tree p s.file b)
      here =
          both
          ∙ (ap (λ (z : Width). operator_width o z w) (first ∙ value_width p s a (part_handed p program s e at (nodes.Binary o a b) is 0 a parts.0))
          ∙ ap (λ (z : Width). operator_width o (width_at (running (scope_at p s)) (node_tree p s.file a)) z) (second ∙ value_width p s b (part_handed p program s e at (nodes.Binary o a b) is 1 b parts.1.0)))
