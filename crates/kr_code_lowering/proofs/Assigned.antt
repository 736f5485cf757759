-- Assignments.
use Rattle.std.proofs.Common.{◌≡◌, refl, sym, ap, ◌∙◌, ℕ, ◌+◌, List, arith, subst}
use Rattle.std.specs.Prelude.{Option, Some, None}
use Rattle.kr_ast.specs.Tree.{Tree}
use Rattle.kr_ast.specs.Arena as arenas
use Rattle.kr_ast.specs.Arena.{tree_in, tree_of}
use Rattle.kr_ast.specs.declared.node.BinaryOperator.{BinaryOperator}
use Rattle.kr_ast.specs.declared.node.StepOperator.{StepOperator}
use Rattle.kr_ast.specs.declared.node.Entry.{Entry}
use Rattle.kr_ast.specs.declared.node.Node.{Node}
use Rattle.kr_ast.specs.declared.node.Node.TheVariants as nodes
use Rattle.kr_types_meaning.specs.Scopes.{Scope, value}
use Rattle.kr_types_meaning.specs.Handing.{handed}
use Rattle.kr_types_meaning.specs.Running.{running}
use Rattle.kr_types.specs.declared.program.Program.{Program}
use Rattle.kr_types.specs.Programs.{IsProgram}
use Rattle.kr_classes_table.specs.Numbers.{Width}
use Rattle.kr_classes_table.specs.Operators.{operator_width}
use Rattle.kr_mean.specs.Meaning.{width_at, width_of}
use Rattle.kr_mean.specs.Operators.{compound_operation, step_operation}
use Rattle.kr_code.specs.declared.expression.Variable.{Variable}
use Rattle.kr_code.specs.declared.expression.Expression.TheVariants as expressions
use Rattle.kr_code.specs.Resolved as resolved
use Rattle.kr_code_lowering.specs.declared.site.Site.{Site}
use Rattle.kr_code_lowering.specs.Origins.{node_scope, node_tree}
use Rattle.kr_code_lowering.specs.Sites.{IsHere, IsSite, Resolves, arena_at, scope_at, number_at}
use Rattle.kr_code_lowering.specs.Targets.{IsTarget}
use Rattle.kr_code_lowering.proofs.Parts.{part_in, part_scope, tree_is}
use Rattle.kr_code_lowering.proofs.Naming.{parts_are, resolves_at}
use Rattle.kr_code_lowering.proofs.Widths.{typed_width, value_width, part_handed}

-- the target is the first part, and is a value's
pub target_scope : (p : Program) → IsProgram p → (s : Site) (e : Entry) (n : Node) → IsHere p s e → e.node ≡ n → (c : ℕ) → arenas.IsPart (arena_at p s).entries s.node 0 c → handed (scope_at p s) (tree_of (arena_at p s).text (tree_in (arena_at p s)) e.place n) 0 ≡ value (scope_at p s)
    → node_scope p s.file c ≡ value (scope_at p s)
target_scope p is s e n at it c part value_is = part_scope p is s at.site 0 c part ∙ (ap (λ (t : Tree). handed (scope_at p s) t 0) (tree_is p s e n at it) ∙ value_is)

abbrev pub target : Node → Option ℕ
target (nodes.Assignment a v) = Some a
target (nodes.CompoundAssignment o a v) = Some a
target (nodes.Step o a) = Some a
target n = None

pub written_scope : (p : Program) → IsProgram p → (s : Site) (e : Entry) (n : Node) → IsHere p s e → e.node ≡ n → (c : ℕ) → target n ≡ Some c → node_scope p s.file c ≡ value (scope_at p s)
written_scope p is s e (nodes.Assignment a v) at it c w = let same : a ≡ c = cc in rw (← same) (target_scope p is s e (nodes.Assignment a v) at it a (parts_are p s e (nodes.Assignment a v) at it).0 refl)
written_scope p is s e (nodes.CompoundAssignment o a v) at it c w = let same : a ≡ c = cc in rw (← same) (target_scope p is s e (nodes.CompoundAssignment o a v) at it a (parts_are p s e (nodes.CompoundAssignment o a v) at it).0 refl)
written_scope p is s e (nodes.Step o a) at it c w = let same : a ≡ c = cc in rw (← same) (target_scope p is s e (nodes.Step o a) at it a (parts_are p s e (nodes.Step o a) at it).0 refl)
written_scope p is s e _ at it c w = absurd (cc (w))

module _ (p : Program) (program : IsProgram p) (arrays : List ℕ) (s : Site) (e : Entry) (at : IsHere p s e) (known : List (List ℕ)) (linked : List ℕ) (a : ℕ) (x : Variable) (written : IsTarget p (scope_at p s) (node_tree p s.file a) known x) where
  pub assignment_resolves : (v : ℕ) → e.node ≡ nodes.Assignment a v → Resolves p arrays s known linked (expressions.Assign x (number_at p s v))
  assignment_resolves v is = resolves_at p arrays s e (nodes.Assignment a v) at is known linked (expressions.Assign x (number_at p s v))
      (λ final code b. resolved.assignment e.place (node_tree p s.file a) (node_tree p s.file v) x (number_at p s v) (written final b.names) (part_in p program final s e (nodes.Assignment a v) at is 1 v (parts_are p s e (nodes.Assignment a v) at is).1.0 (running (scope_at p s)) refl))

  -- at the widths of the types of the target and the value
  pub compound_resolves : (o : BinaryOperator) (v : ℕ) (to from w : Width) → e.node ≡ nodes.CompoundAssignment o a v → to ≡ typed_width p s.file a → from ≡ typed_width p s.file v → w ≡ operator_width o to from → Resolves p arrays s known linked (expressions.Compound (compound_operation to w o) x (number_at p s v))
  compound_resolves o v to from w is first second both =
      subst (λ (z : Width). Resolves p arrays s known linked (expressions.Compound (compound_operation z w o) x (number_at p s v))) (sym target_wide)
      (subst (λ (z : Width). Resolves p arrays s known linked (expressions.Compound (compound_operation (width_at here (node_tree p s.file a)) z o) x (number_at p s v))) (sym wide)
      (resolves_at p arrays s e (nodes.CompoundAssignment o a v) at is known linked (expressions.Compound (compound_operation (width_at here (node_tree p s.file a)) (width_of here o (node_tree p s.file a) (node_tree p s.file v)) o) x (number_at p s v))
      (λ final code b. resolved.compound e.place o (node_tree p s.file a) (node_tree p s.file v) x (number_at p s v) (written final b.names) (part_in p program final s e (nodes.CompoundAssignment o a v) at is 1 v (parts_are p s e (nodes.CompoundAssignment o a v) at is).1.0 (running (scope_at p s)) refl))))
    where
      here : Scope
      here = running (scope_at p s)

      target_wide : to ≡ width_at here (node_tree p s.file a)
      target_wide = first ∙ value_width p s a (part_handed p program s e at (nodes.CompoundAssignment o a v) is 0 a (parts_are p s e (nodes.CompoundAssignment o a v) at is).0)

      value_wide : from ≡ width_at here (node_tree p s.file v)
      value_wide = second ∙ value_width p s v (part_handed p program s e at (nodes.CompoundAssignment o a v) is 1 v (parts_are p s e (nodes.CompoundAssignment o a v) at is).1.0)

      wide : w ≡ width_of here o (node_tree p s.file a) (node_tree p s.file v)
      wide = both ∙ (ap (λ (z : Width). operator_width o z from) target_wide ∙ ap (λ (z : Width). operator_width o (width_at here (node_tree p s.file a)) z) value_wide)

  pub step_resolves : (o : StepOperator) (w : Width) → e.node ≡ nodes.Step o a → w ≡ typed_width p s.file a → Resolves p arrays s known linked (expressions.Step (step_operation w o) x)
  step_resolves o w is wide =
      subst (λ (z : Width). Resolves p arrays s known linked (expressions.Step (step_operation z o) x)) (sym (wide ∙ value_width p s a (part_handed p program s e at (nodes.Step o a) is 0 a (parts_are p s e (nodes.Step o a) at is).0)))
      (resolves_at p arrays s e (nodes.Step o a) at is known linked (expressions.Step (step_operation (width_at (running (scope_at p s)) (node_tree p s.file a)) o) x)
      (λ final code b. resolved.step e.place o (node_tree p s.file a) x (written final b.names)))
