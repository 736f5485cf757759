-- Initial values that are literals have values.
use Rattle.std.proofs.Common.{◌≡◌, ◌⊎◌, inl, inr, true, false, refl, arith}
use Rattle.std.specs.Prelude.{ℤ, pos, neg_ℤ}
use Rattle.kr_base.specs.declared.place.Place.{Place}
use Rattle.kr_ast.specs.Tree as trees
use Rattle.kr_ast.specs.Tree.{Tree}
use Rattle.kr_ast.specs.declared.node.UnaryOperator.TheVariants.{Plus, Minus, Complement, Not}
use Rattle.kr_value.specs.declared.value.Value.TheVariants.{Int, Bool as Truth, Null}
use Rattle.kr_classes_table.specs.Numbers.{Bits32, Bits64, wrap}
use Rattle.kr_types_meaning.specs.Scopes.{Scope}
use Rattle.kr_mean.specs.Meaning.{operand_width, value}
use Rattle.kr_mean.specs.Operators.{operated_alone, unary_operation}
use Rattle.kr_mean.specs.Program.{Program}
use Rattle.kr_mean.specs.Steps.{say}
use Rattle.kr_emit_meaning.specs.Buildable.{is_literal, is_number}
use Rattle.kr_laws_safety.proofs.Creations.{is_nil}
use Rattle.kr_emit_laws.proofs.Creations.{HasValue}
use Rattle.kr_emit_laws.proofs.Expressions.{goes_null, goes_truth}
use Rattle.kr_emit_laws.proofs.Goes.{Goes, Memory, goes_give, goes_more, goes_node, goes_then}

-- a number, as it is or under a minus
negative : (program : Program) (s : Scope) (p : Place) (e : Tree) (z : ℤ) → ((m : Memory) → Goes (value program s e) m (Int z) m 1) → HasValue program s (trees.Unary p Minus e)
negative program s p e z goes = (
  Int (wrap (operand_width s Minus e) (neg_ℤ z)),
  λ m.
      goes_node program s (trees.Unary p Minus e)
      (goes_then (λ v. say (operated_alone (unary_operation (operand_width s Minus e) Minus) v)) (goes m) (goes_give (Int (wrap (operand_width s Minus e) (neg_ℤ z))) m)),
)

under_minus : (program : Program) (s : Scope) (p : Place) (e : Tree) → is_number e ≡ true → HasValue program s (trees.Unary p Minus e)
under_minus program s p (trees.Number q n) h = negative program s p (trees.Number q n) (wrap Bits32 (pos n)) (λ m. goes_node program s (trees.Number q n) (goes_give (Int (wrap Bits32 (pos n))) m))
under_minus program s p (trees.LongNumber q n) h = negative program s p (trees.LongNumber q n) (wrap Bits64 (pos n)) (λ m. goes_node program s (trees.LongNumber q n) (goes_give (Int (wrap Bits64 (pos n))) m))
under_minus program s p _ h = absurd (cc (h))

pub literal_value : (program : Program) (s : Scope) (e : Tree) → is_literal e ≡ true → (e ≡ trees.Nil) ⊎ ((is_nil e ≡ false) × HasValue program s e)
literal_value program s trees.Nil h = inl refl
literal_value program s (trees.Number p n) h = inr (refl, (Int (wrap Bits32 (pos n)), λ m. goes_more 2 (omega arith) (goes_node program s (trees.Number p n) (goes_give (Int (wrap Bits32 (pos n))) m))))
literal_value program s (trees.LongNumber p n) h = inr (refl, (Int (wrap Bits64 (pos n)), λ m. goes_more 2 (omega arith) (goes_node program s (trees.LongNumber p n) (goes_give (Int (wrap Bits64 (pos n))) m))))
literal_value program s (trees.Truth p b) h = inr (refl, (Truth b, λ m. goes_more 2 (omega arith) (goes_truth program s p b m)))
literal_value program s (trees.Null p) h = inr (refl, (Null, λ m. goes_more 2 (omega arith) (goes_null program s p m)))
literal_value program s (trees.Unary p Minus e) h = inr (refl, under_minus program s p e h)
literal_value program s (trees.Unary p Plus e) h = absurd (cc (h))
literal_value program s (trees.Unary p Complement e) h = absurd (cc (h))
literal_value program s (trees.Unary p Not e) h = absurd (cc (h))
literal_value program s _ h = absurd (cc (h))
