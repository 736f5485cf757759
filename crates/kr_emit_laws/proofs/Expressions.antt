-- Runs of the expressions that builders are made of.
use Rattle.std.proofs.Common.{◌≡◌, ℕ, suc, Bool, true, false, List, length, Option, Some, refl, sym, ap, ◌∙◌, subst}
use Rattle.std.specs.Prelude.{ℤ, pos, negsuc, nat_lt, ◌||◌, if◌then◌else◌, neg_ℤ}
use Rattle.kr_base.specs.declared.place.Place.{Place}
use Rattle.kr_ast.specs.Tree as trees
use Rattle.kr_ast.specs.Tree.{Tree}
use Rattle.kr_ast.specs.declared.node.UnaryOperator.TheVariants.{Minus}
use Rattle.kr_value.specs.declared.value.Value.{Value}
use Rattle.kr_value.specs.declared.value.Value.TheVariants.{Int, Bool as Truth, Null, Ref as Reference}
use Rattle.kr_value.specs.Heaps.{object_in}
use Rattle.kr_classes_table.specs.Numbers.{Width, Bits32, Bits64, half, is_within, wrap}
use Rattle.kr_classes_table.specs.Types.{JavaType, NumberType, ArrayType, is_known}
use Rattle.kr_classes_table.specs.Table.{Field}
use Rattle.kr_types_meaning.specs.Scopes.{Scope, Meant, LocalName, Role, meant, under_minus}
use Rattle.kr_types_meaning.specs.Rules.{ask, Fits, Judgement}
use Rattle.kr_types_meaning.specs.Rules as rules
use Rattle.kr_types_meaning.specs.Typing.{judged, leaf, type_in, type_of}
use Rattle.kr_mean.specs.Program.{Program, spot_of_field, is_array_of}
use Rattle.kr_mean.specs.Steps.{local_at, plain_local, put, say}
use Rattle.kr_mean.specs.Operators.{operated_alone, unary_operation}
use Rattle.kr_mean.specs.Meaning.{FieldOf, ElementOf, assigned, operand_width, read_name, type_width, typed_field, unbounded, value, element_target, field_target}
use Rattle.kr_emit_laws.proofs.Goes.{Goes, Memory, goes_give, goes_node, goes_read, goes_store, goes_store_element, goes_then, with_heap}
use Rattle.kr_emit_laws.proofs.Numbers.{negated, wrapped}

-- ---- literals

pub goes_number : (program : Program) (s : Scope) (p : Place) (n : ℕ) (m : Memory) → nat_lt n (half Bits32) ≡ true → Goes (value program s (trees.Number p n)) m (Int (pos n)) m 1
goes_number program s p n m h = subst (λ (z : ℤ). Goes (value program s (trees.Number p n)) m (Int z) m 1) (wrapped Bits32 (pos n) h) (goes_node program s (trees.Number p n) (goes_give (Int (wrap Bits32 (pos n))) m))

pub goes_long : (program : Program) (s : Scope) (p : Place) (n : ℕ) (m : Memory) → nat_lt n (half Bits64) ≡ true → Goes (value program s (trees.LongNumber p n)) m (Int (pos n)) m 1
goes_long program s p n m h = subst (λ (z : ℤ). Goes (value program s (trees.LongNumber p n)) m (Int z) m 1) (wrapped Bits64 (pos n) h) (goes_node program s (trees.LongNumber p n) (goes_give (Int (wrap Bits64 (pos n))) m))

-- the operand of a minus has a type, whatever its size
minus_width : (s : Scope) (w : Width) (p : Place) (n : ℕ) → type_width (type_in (leaf p (ask (nat_lt n (half w) || true) 6 (Fits (rules.Value (NumberType w))))).typed) ≡ w
minus_width s w p n = go (nat_lt n (half w))
  where
    go : (b : Bool) → type_width (type_in (leaf p (ask (b || true) 6 (Fits (rules.Value (NumberType w))))).typed) ≡ w
    go true = refl
    go false = refl

int_width : (s : Scope) (p : Place) (n : ℕ) → operand_width s Minus (trees.Number p n) ≡ Bits32
unfolding judged
int_width s p n = minus_width s Bits32 p n

long_width : (s : Scope) (p : Place) (n : ℕ) → operand_width s Minus (trees.LongNumber p n) ≡ Bits64
unfolding judged
long_width s p n = minus_width s Bits64 p n

goes_minus : (program : Program) (s : Scope) (p : Place) (e : Tree) (w : Width) (n : ℕ) (m : Memory) → operand_width s Minus e ≡ w → is_within w (negsuc n) ≡ true → Goes (value program s e) m (Int (wrap w (pos (suc n)))) m 1
    → Goes (value program s (trees.Unary p Minus e)) m (Int (negsuc n)) m 2
goes_minus program s p e w n m is h below =
    let negates : (u : Width) → u ≡ w → Goes (say (operated_alone (unary_operation u Minus) (Int (wrap w (pos (suc n)))))) m (Int (negsuc n)) m 0 =
    λ u q. subst (λ (x : Width). Goes (say (operated_alone (unary_operation x Minus) (Int (wrap w (pos (suc n)))))) m (Int (negsuc n)) m 0) (sym q)
    (subst (λ (z : ℤ). Goes (say (operated_alone (unary_operation w Minus) (Int (wrap w (pos (suc n)))))) m (Int z) m 0) (negated w n h) (goes_give (Int (wrap w (neg_ℤ (wrap w (pos (suc n)))))) m)) in
    goes_node program s (trees.Unary p Minus e) (goes_then (λ v. say (operated_alone (unary_operation (operand_width s Minus e) Minus) v)) below (negates (operand_width s Minus e) is))

pub goes_minus_int : (program : Program) (s : Scope) (p q : Place) (n : ℕ) (m : Memory) → is_within Bits32 (negsuc n) ≡ true → Goes (value program s (trees.Unary p Minus (trees.Number q (suc n)))) m (Int (negsuc n)) m 2
goes_minus_int program s p q n m h = goes_minus program s p (trees.Number q (suc n)) Bits32 n m (int_width s q (suc n)) h (goes_node program s (trees.Number q (suc n)) (goes_give (Int (wrap Bits32 (pos (suc n)))) m))

pub goes_minus_long : (program : Program) (s : Scope) (p q : Place) (n : ℕ) (m : Memory) → is_within Bits64 (negsuc n) ≡ true → Goes (value program s (trees.Unary p Minus (trees.LongNumber q (suc n)))) m (Int (negsuc n)) m 2
goes_minus_long program s p q n m h = goes_minus program s p (trees.LongNumber q (suc n)) Bits64 n m (long_width s q (suc n)) h (goes_node program s (trees.LongNumber q (suc n)) (goes_give (Int (wrap Bits64 (pos (suc n)))) m))

pub goes_truth : (program : Program) (s : Scope) (p : Place) (b : Bool) (m : Memory) → Goes (value program s (trees.Truth p b)) m (Truth b) m 1
goes_truth program s p b m = goes_node program s (trees.Truth p b) (goes_give (Truth b) m)

pub goes_null : (program : Program) (s : Scope) (p : Place) (m : Memory) → Goes (value program s (trees.Null p)) m Null m 1
goes_null program s p m = goes_node program s (trees.Null p) (goes_give Null m)

-- ---- locals

pub goes_local : (program : Program) (s : Scope) (p : Place) (n : List ℕ) (k : ℕ) (t : JavaType) (m : Memory) (v : Value) → meant s n ≡ LocalName k t → local_at m.locals k ≡ Some (plain_local v) → Goes (value program s (trees.Variable p n)) m v m 1
goes_local program s p n k t m v is here = goes_node program s (trees.Variable p n) (subst (λ (x : Meant). Goes (read_name program s x) m v m 0) (sym is) (goes_read m k v here))

pub local_type : (s : Scope) (p : Place) (n : List ℕ) (k : ℕ) (t : JavaType) → meant s n ≡ LocalName k t → is_known t ≡ true → type_of s (trees.Variable p n) ≡ Some t
unfolding judged
local_type s p n k t is known =
    ap (λ (x : Meant). type_in (leaf p (rules.name_rule (Rattle.kr_types_meaning.specs.Scopes.value s) x)).typed) is
    ∙ ap (λ (b : Bool). let x : rules.Typed = if b then rules.Variable t else rules.Untyped in type_in x) known

-- ---- assignments

pub goes_to_field : (program : Program) (s : Scope) (p r : Place) (a e : Tree) (n : List ℕ) (f : Field) (m : Memory) (o k : ℕ) (v : Value) → typed_field s a n ≡ Some f → Goes (value program s a) m (Reference o) m 1 → Goes (value program s e) m v m 2
    → spot_of_field program f (object_in m.heap o).class ≡ Some k → Goes (value program s (trees.Assignment p (trees.FieldAccess r a n) e)) m v (with_heap (put m.heap o k v) m) 4
goes_to_field program s p r a e n f m o k v is object given spot =
    let after : Memory = with_heap (put m.heap o k v) m in
    let x : Goes (assigned program (unbounded program) s (FieldOf a f) (value program s e)) m v after 3 =
    goes_then _ object (goes_then _ given (goes_then _ (goes_store m program f o k v spot) (goes_give v after))) in
    goes_node program s (trees.Assignment p (trees.FieldAccess r a n) e)
    (subst (λ (f : Option Field). Goes (assigned program (unbounded program) s (field_target a f) (value program s e)) m v after 3) (sym is) x)

pub goes_to_element : (program : Program) (s : Scope) (p r : Place) (a i e : Tree) (t : JavaType) (m : Memory) (o k : ℕ) (v : Value) → type_of s a ≡ Some (ArrayType t) → Goes (value program s a) m (Reference o) m 1 → Goes (value program s i) m (Int (pos k)) m 1
    → Goes (value program s e) m v m 2 → is_array_of program t (object_in m.heap o).class ≡ true → nat_lt k (length (object_in m.heap o).values) ≡ true
    → Goes (value program s (trees.Assignment p (trees.ArrayAccess r a i) e)) m v (with_heap (put m.heap o k v) m) 5
goes_to_element program s p r a i e t m o k v is object index given array inside =
    let after : Memory = with_heap (put m.heap o k v) m in
    let x : Goes (assigned program (unbounded program) s (ElementOf a i t) (value program s e)) m v after 4 =
    goes_then _ object (goes_then _ index (goes_then _ given (goes_then _ (goes_store_element m program t o k v array inside) (goes_give v after)))) in
    goes_node program s (trees.Assignment p (trees.ArrayAccess r a i) e)
    (subst (λ (u : Option JavaType). Goes (assigned program (unbounded program) s (element_target a i u) (value program s e)) m v after 4) (sym is) x)
