-- The kinds of nodes.
use Rattle.std.proofs.Common.{◌≡◌, refl, sym, ap, arith, ℕ, true, false, List, subst, pos}
use Rattle.std.specs.Prelude.{negsuc, nat_lt, if◌then◌else◌}
use Rattle.std.specs.Int.{w64, cast_signed}
use Rattle.kr_base.specs.declared.place.Place.{Place}
use Rattle.kr_ast.specs.Tree as trees
use Rattle.kr_ast.specs.Tree.{Tree}
use Rattle.kr_ast.specs.Arena.{parts, tree_in, tree_of}
use Rattle.kr_ast.specs.declared.node.BinaryOperator.{BinaryOperator}
use Rattle.kr_ast.specs.declared.node.Entry.{Entry}
use Rattle.kr_ast.specs.declared.node.Node.{Node}
use Rattle.kr_ast.specs.declared.node.Node.TheVariants as nodes
use Rattle.kr_value.specs.declared.value.Value.TheVariants.{Int}
use Rattle.kr_classes_table.specs.Numbers.{Width, Bits32, Bits64, whole_of, wrap}
use Rattle.kr_types_meaning.specs.Scopes.{Scope}
use Rattle.kr_types_meaning.specs.Running.{running}
use Rattle.kr_types.specs.declared.program.Program as typed
use Rattle.kr_types.specs.Programs.{IsProgram}
use Rattle.kr_mean.specs.Program.{Program}
use Rattle.kr_mean.specs.Meaning.{width_of}
use Rattle.kr_mean.specs.Operators.{binary_operation}
use Rattle.kr_code.specs.declared.code.Code.{Code}
use Rattle.kr_code.specs.declared.expression.Expression.{Expression}
use Rattle.kr_code.specs.declared.expression.Expression.TheVariants as expressions
use Rattle.kr_code.specs.Resolved as resolved
use Rattle.kr_code.specs.Resolved.{Numbering, IsPart, IsExpression, is_junction, is_no_expression}
use Rattle.kr_code_lowering.specs.declared.site.Site.{Site}
use Rattle.kr_code_members.specs.Nodes.{run_program}
use Rattle.kr_code_lowering.specs.Origins.{Final, node_tree, numbering_of}
use Rattle.kr_code_lowering.specs.Sites.{IsHere, Resolves, arena_at, number_at, scope_at}
use Rattle.kr_code_lowering.specs.Kinds.{IsNumbered, IsOperation, is_operator}
use Rattle.kr_code_lowering.proofs.Parts.{part_in}
use Rattle.kr_code_lowering.proofs.Naming.{parts_are, resolves_at}

-- the forms of what is made of values
pub ruleset operator_forms = (resolved.truth, resolved.null, resolved.this, IsExpression.element, resolved.conditional, resolved.result)

pub binary_by : (program : Program) (code : Code) (n : Numbering) (s : Scope) (p : Place) (o : BinaryOperator) (w : Width) (a b : Tree) (i j : ℕ) → is_junction o ≡ false → w ≡ width_of s o a b → IsPart n s a i → IsPart n s b j
    → IsExpression program code n s (trees.Binary p o a b) (expressions.Binary (binary_operation w o) i j)
binary_by program code n s p o w a b i j k e x y =
    subst (λ (v : Width). IsExpression program code n s (trees.Binary p o a b) (expressions.Binary (binary_operation v o) i j)) (sym e) (resolved.binary p o a b i j k x y)

pub ruleset binary_forms = (resolved.conjunction, resolved.disjunction, binary_by)

-- the number of 64 bits
pub whole_of_64 : (n : ℕ) → cast_signed w64 n ≡ whole_of Bits64 n
whole_of_64 n = ap (λ k. if nat_lt n 9223372036854775808 then pos n else negsuc k) (omega arith)

module _ (p : typed.Program) (program : IsProgram p) (s : Site) (e : Entry) (at : IsHere p s e) (final : Final) where
  abbrev r : Scope
  r = running (scope_at p s)

  pub numbered : (n : Node) → e.node ≡ n → is_operator n ≡ true → IsNumbered (numbering_of p final) r (tree_in (arena_at p s)) (number_at p s) (parts n)
  numbered (nodes.Truth v) it h = tt
  numbered nodes.Null it h = tt
  numbered nodes.This it h = tt
  numbered nodes.Result it h = tt
  numbered (nodes.ArrayAccess a b) it h =
      let ps = parts_are p s e (nodes.ArrayAccess a b) at it in (part_in p program final s e (nodes.ArrayAccess a b) at it 0 a ps.0 r refl, (part_in p program final s e (nodes.ArrayAccess a b) at it 1 b ps.1.0 r refl, tt))
  numbered (nodes.Conditional a b c) it h =
      let ps = parts_are p s e (nodes.Conditional a b c) at it in
      (part_in p program final s e (nodes.Conditional a b c) at it 0 a ps.0 r refl, (part_in p program final s e (nodes.Conditional a b c) at it 1 b ps.1.0 r refl, (part_in p program final s e (nodes.Conditional a b c) at it 2 c ps.1.1.0 r refl, tt)))
  numbered _ it h = absurd (cc (h))

module _ (p : typed.Program) (program : IsProgram p) (arrays : List ℕ) (s : Site) (e : Entry) (at : IsHere p s e) (known : List (List ℕ)) (linked : List ℕ) where
  pub operator_resolves : (x : Expression) → is_operator e.node ≡ true → IsOperation (number_at p s) e.place e.node x → Resolves p arrays s known linked x
  operator_resolves x h f = resolves_at p arrays s e e.node at refl known linked x
      (λ final code b. f (run_program p arrays) code (numbering_of p final) (running (scope_at p s)) (arena_at p s).text (tree_in (arena_at p s)) h (numbered p program s e at final e.node refl h))

  pub no_expression_resolves : is_no_expression (tree_of (arena_at p s).text (tree_in (arena_at p s)) e.place e.node) ≡ true → Resolves p arrays s known linked expressions.Stuck
  no_expression_resolves h = resolves_at p arrays s e e.node at refl known linked expressions.Stuck (λ final code b. resolved.other _ h)

  pub number_resolves : (v : ℕ) → e.node ≡ nodes.Number v → Resolves p arrays s known linked (expressions.Literal (Int (wrap Bits32 (pos v))))
  number_resolves v is = resolves_at p arrays s e (nodes.Number v) at is known linked (expressions.Literal (Int (wrap Bits32 (pos v)))) (λ final code b. resolved.number e.place v)

  pub long_number_resolves : (v : ℕ) → e.node ≡ nodes.LongNumber v → Resolves p arrays s known linked (expressions.Literal (Int (wrap Bits64 (pos v))))
  long_number_resolves v is = resolves_at p arrays s e (nodes.LongNumber v) at is known linked (expressions.Literal (Int (wrap Bits64 (pos v)))) (λ final code b. resolved.long_number e.place v)

  pub old_resolves : (a : ℕ) → e.node ≡ nodes.Old a → Resolves p arrays s known linked (expressions.Old e.place)
  old_resolves a is = resolves_at p arrays s e (nodes.Old a) at is known linked (expressions.Old e.place) (λ final code b. resolved.old e.place (node_tree p s.file a))
