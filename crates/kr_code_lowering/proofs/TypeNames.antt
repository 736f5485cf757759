-- Expressions that name types.
use Rattle.std.proofs.Common.{◌≡◌, refl, sym, ap, ◌∙◌, ℕ, ◌+◌, List, map, subst, true, false, Option}
use Rattle.kr_value.specs.declared.value.Value.{Value}
use Rattle.kr_ast.specs.declared.node.UnaryOperator.TheVariants.{Plus}
use Rattle.kr_classes_table.specs.Types.{JavaType, NumberType, ArrayType}
use Rattle.kr_classes_table.specs.Arrays.{array_number}
use Rattle.kr_mean.specs.Program.{default_of}
use Rattle.kr_ast.specs.declared.node.Entry.{Entry}
use Rattle.kr_ast.specs.declared.node.Node.TheVariants as nodes
use Rattle.kr_types_meaning.specs.Running.{running}
use Rattle.kr_types_meaning.specs.Scopes.{written}
use Rattle.kr_classes_names.specs.Types.{IsTypeNumber, type_at}
use Rattle.kr_types.specs.declared.program.Program.{Program}
use Rattle.kr_types.specs.Programs.{IsProgram}
use Rattle.kr_mean.specs.Meaning.{is_primitive}
use Rattle.kr_types_meaning.specs.Promotion.{is_number}
use Rattle.kr_mean.specs.Operators.{unary_operation}
use Rattle.kr_code.specs.declared.expression.Expression.{Expression}
use Rattle.kr_code.specs.declared.expression.Expression.TheVariants as expressions
use Rattle.kr_code.specs.Resolved as resolved
use Rattle.kr_code_lowering.specs.declared.site.Site.{Site}
use Rattle.kr_code_lowering.specs.Kinds.{IsPrimitiveCast}
use Rattle.kr_code_lowering.specs.Origins.{node_tree}
use Rattle.kr_code_lowering.specs.Sites.{IsHere, Resolves, scope_at, number_at}
use Rattle.kr_code_lowering.proofs.Parts.{part_in}
use Rattle.kr_code_lowering.proofs.Naming.{parts_are, resolves_at}

module _ (p : Program) (program : IsProgram p) (arrays : List ℕ) (s : Site) (e : Entry) (at : IsHere p s e) (known : List (List ℕ)) (linked : List ℕ) (a t : ℕ) where
  pub instance_resolves : (k : ℕ) → e.node ≡ nodes.InstanceOf a t → IsTypeNumber p.table.types k (written (scope_at p s) (node_tree p s.file t)) → Resolves p arrays s known linked (expressions.InstanceOf (number_at p s a) k)
  instance_resolves k is number = resolves_at p arrays s e (nodes.InstanceOf a t) at is known linked (expressions.InstanceOf (number_at p s a) k)
      (λ final code b. resolved.instance e.place (node_tree p s.file a) (node_tree p s.file t) (number_at p s a) k (part_in p program final s e (nodes.InstanceOf a t) at is 0 a (parts_are p s e (nodes.InstanceOf a t) at is).0 (running (scope_at p s)) refl) number.type_is)

  -- a cast to a primitive type, of a number or another one
  pub convert_resolves : (k : ℕ) (x : Expression) → e.node ≡ nodes.Cast t a → is_primitive (node_tree p s.file t) ≡ true → IsTypeNumber p.table.types k (written (scope_at p s) (node_tree p s.file t)) → IsPrimitiveCast (type_at p.table.types k) k (number_at p s a) x → Resolves p arrays s known linked x
  convert_resolves k x is primitive number cast = by (type_at p.table.types k) number.type_is cast
    where
      by : (u : JavaType) → u ≡ written (scope_at p s) (node_tree p s.file t) → IsPrimitiveCast u k (number_at p s a) x → Resolves p arrays s known linked x
      by (NumberType w) q h = subst (Resolves p arrays s known linked) (sym h)
          (resolves_at p arrays s e (nodes.Cast t a) at is known linked (expressions.Unary (unary_operation w Plus) (number_at p s a))
          (λ final code b. resolved.number_cast e.place (node_tree p s.file t) (node_tree p s.file a) w (number_at p s a) primitive (sym q) (part_in p program final s e (nodes.Cast t a) at is 1 a (parts_are p s e (nodes.Cast t a) at is).1.0 (running (scope_at p s)) refl)))
      by u q h = subst (Resolves p arrays s known linked) (sym h)
          (resolves_at p arrays s e (nodes.Cast t a) at is known linked (expressions.Convert k (number_at p s a))
          (λ final code b. resolved.primitive_cast e.place (node_tree p s.file t) (node_tree p s.file a) k (number_at p s a) primitive (ap is_number (sym q)) number.type_is (part_in p program final s e (nodes.Cast t a) at is 1 a (parts_are p s e (nodes.Cast t a) at is).1.0 (running (scope_at p s)) refl)))

  pub cast_resolves : (k : ℕ) → e.node ≡ nodes.Cast t a → is_primitive (node_tree p s.file t) ≡ false → IsTypeNumber p.table.types k (written (scope_at p s) (node_tree p s.file t)) → Resolves p arrays s known linked (expressions.Cast k (number_at p s a))
  cast_resolves k is primitive number = resolves_at p arrays s e (nodes.Cast t a) at is known linked (expressions.Cast k (number_at p s a))
      (λ final code b. resolved.cast e.place (node_tree p s.file t) (node_tree p s.file a) k (number_at p s a) primitive number.type_is (part_in p program final s e (nodes.Cast t a) at is 1 a (parts_are p s e (nodes.Cast t a) at is).1.0 (running (scope_at p s)) refl))

  pub array_resolves : (k : ℕ) (number : Option ℕ) (v : Value) → e.node ≡ nodes.ArrayCreation t a → IsTypeNumber p.table.types k (written (scope_at p s) (node_tree p s.file t)) → number ≡ array_number (map (type_at p.table.types) arrays) (ArrayType (type_at p.table.types k)) → v ≡ default_of (type_at p.table.types k)
      → Resolves p arrays s known linked (expressions.NewArray number v (number_at p s a))
  array_resolves k number v is kind n d =
      let ty = written (scope_at p s) (node_tree p s.file t) in
      let number' : number ≡ array_number (map (type_at p.table.types) arrays) (ArrayType ty) = n ∙ ap (λ (u : JavaType). array_number (map (type_at p.table.types) arrays) (ArrayType u)) kind.type_is in
      let v' : v ≡ default_of ty = d ∙ ap default_of kind.type_is in
      subst (λ (o : Option ℕ). Resolves p arrays s known linked (expressions.NewArray o v (number_at p s a))) (sym number') (subst (λ (u : Value). Resolves p arrays s known linked (expressions.NewArray (array_number (map (type_at p.table.types) arrays) (ArrayType ty)) u (number_at p s a))) (sym v')
      (resolves_at p arrays s e (nodes.ArrayCreation t a) at is known linked (expressions.NewArray (array_number (map (type_at p.table.types) arrays) (ArrayType ty)) (default_of ty) (number_at p s a))
      (λ final code b. resolved.array e.place (node_tree p s.file t) (node_tree p s.file a) (number_at p s a) (part_in p program final s e (nodes.ArrayCreation t a) at is 1 a (parts_are p s e (nodes.ArrayCreation t a) at is).1.0 (running (scope_at p s)) refl))))
