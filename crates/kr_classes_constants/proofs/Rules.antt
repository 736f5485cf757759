-- The outcome of an expression, kind by kind.
use Rattle.std.proofs.Common.{◌≡◌, refl, sym, ap, subst, ◌∙◌, ℕ, ◌+◌, ◌<◌, Bool, true, false, ◌&&◌, List, [], ◌∷◌, ◌++◌, length, if◌then◌else◌, arith}
use Rattle.std.specs.Prelude.{negsuc, nat_lt, pos, Option, Some, None, is_some, option_and_then, option_map, unwrap_or, Result, Ok, Err, IfOk}
use Rattle.std.specs.Int.{w64, cast_signed}
use Rattle.kr_base.specs.declared.place.Place.{Place}
use Rattle.kr_ast.specs.declared.node.Node.{Node}
use Rattle.kr_ast.specs.declared.node.Node.TheVariants as nodes
use Rattle.kr_ast.specs.declared.node.Entry.{Entry}
use Rattle.kr_ast.specs.declared.node.UnaryOperator.{UnaryOperator}
use Rattle.kr_ast.specs.declared.node.BinaryOperator.{BinaryOperator}
use Rattle.kr_ast.specs.Arena.{Arena, ArePartsFrom, name_in, tree_in, tree_of}
use Rattle.kr_ast.specs.Tree as trees
use Rattle.kr_ast.specs.Tree.{Tree}
use Rattle.kr_classes_table.specs.Numbers.{Width, Bits32, Bits64, wider, whole_of}
use Rattle.kr_classes_table.specs.Operators.{operator_width}
use Rattle.kr_classes_table.specs.Table.{Table, Field}
use Rattle.kr_classes_table.specs.Constants.{Known, known_as, with_constant, is_constant, evaluated, unary_value, binary_value, cast_value, chosen, known_value, field_meant, field_width, constant_of, class_meant, constant_width, is_primitive, number_width}
use Rattle.kr_classes_constants.specs.Outcomes.{Sized, outcome, sized, sized_of, unary_outcome, binary_outcome, conditional_outcome, cast_outcome, known_outcome, with_outcome, note_shown, found_shown}
use Rattle.kr_value.specs.declared.value.Value.{Value}
use Rattle.kr_classes_constants.specs.declared.note.Found.{Found}
use Rattle.kr_classes_constants.specs.declared.frames.Frame.{Frame}
use Rattle.kr_classes_constants.specs.declared.frames.Task.{Task}
use Rattle.kr_classes_constants.specs.declared.frames.Task.TheVariants.{Look}
use Rattle.kr_classes_constants.specs.Kept.{Key, AreValues}
use Rattle.kr_classes_constants.specs.Frames.{Setting, setting, node_outcome, outcome_at, resumed, whole}
use Rattle.kr_ast.specs.Arena.{AreBelow}

name_law : (o : Option Value) → outcome (is_some o) o ≡ known_outcome o
name_law None = refl
name_law (Some v) = refl

unary_law : (w : Width) (o : UnaryOperator) (b : Bool) (v : Option Value) → outcome b (option_and_then (unary_value w o) v) ≡ unary_outcome w o (outcome b v)
unary_law w o true v = refl
unary_law w o false v = refl

binary_law : (u : Width) (o : BinaryOperator) (a b : Bool) (v w : Option Value) → outcome (a && b) (binary_value u o v w) ≡ binary_outcome u o (outcome a v) (outcome b w)
binary_law u o true true v w = refl
binary_law u o true false v w = refl
binary_law u o false true v w = refl
binary_law u o false false v w = refl

conditional_law : (a b c : Bool) (u v w : Option Value) → outcome (a && b && c) (chosen u v w) ≡ conditional_outcome (outcome a u) (outcome b v) (outcome c w)
conditional_law true true true u v w = refl
conditional_law true true false u v w = refl
conditional_law true false true u v w = refl
conditional_law true false false u v w = refl
conditional_law false true true u v w = refl
conditional_law false true false u v w = refl
conditional_law false false true u v w = refl
conditional_law false false false u v w = refl

cast_law : (p : Bool) (w : Option Width) (b : Bool) (v : Option Value) → (p ≡ false → w ≡ None) → sized (unwrap_or w Bits32) (outcome (p && b) (option_map (cast_value w) v)) ≡ (if p then sized (unwrap_or w Bits32) (cast_outcome w (outcome b v)) else sized Bits32 None)
cast_law true w true v h = refl
cast_law true w false v h = refl
cast_law false w b v h = ap (λ (x : Option Width). sized (unwrap_or x Bits32) None) (h refl)

-- another type has no width
unwritten : (k : Tree) → is_primitive k ≡ false → number_width k ≡ None
unwritten (trees.PrimitiveType p k) e = absurd (cc (e))
unwritten _ e = refl

-- the number of 64 bits
pub whole_of_64 : (n : ℕ) → cast_signed w64 n ≡ whole_of Bits64 n
whole_of_64 n = ap (λ k. if nat_lt n 9223372036854775808 then pos n else negsuc k) (omega arith)

node_law : (s : Setting) (p : Place) (n : Node) → sized_of s.table s.known s.class (tree_of s.tree.text (tree_in s.tree) p n) ≡ node_outcome s n
unfolding is_constant evaluated constant_width
node_law s p (nodes.Number v) = refl
node_law s p (nodes.LongNumber v) = refl
node_law s p (nodes.Truth b) = refl
node_law s p nodes.Null = refl
node_law s p (nodes.Variable n) = let f = field_meant s.table s.class (name_in s.tree.text n) in ap (sized (field_width f)) (name_law (known_value s.known f))
node_law s p (nodes.FieldAccess x n) = let f = constant_of s.table (class_meant s.table s.class (tree_in s.tree x)) (name_in s.tree.text n) in ap (sized (field_width f)) (name_law (known_value s.known f))
node_law s p (nodes.Unary o x) =
    let w = constant_width s.table s.class (tree_in s.tree x) in
    ap (sized w) (unary_law w o (is_constant s.table s.known s.class (tree_in s.tree x)) (evaluated s.table s.known s.class (tree_in s.tree x)))
node_law s p (nodes.Binary o x y) =
    let w = operator_width o (constant_width s.table s.class (tree_in s.tree x)) (constant_width s.table s.class (tree_in s.tree y)) in
    ap (sized w)
    (binary_law w o (is_constant s.table s.known s.class (tree_in s.tree x)) (is_constant s.table s.known s.class (tree_in s.tree y))
    (evaluated s.table s.known s.class (tree_in s.tree x)) (evaluated s.table s.known s.class (tree_in s.tree y)))
node_law s p (nodes.Conditional x y z) =
    ap (sized (wider (constant_width s.table s.class (tree_in s.tree y)) (constant_width s.table s.class (tree_in s.tree z))))
    (conditional_law (is_constant s.table s.known s.class (tree_in s.tree x)) (is_constant s.table s.known s.class (tree_in s.tree y)) (is_constant s.table s.known s.class (tree_in s.tree z))
    (evaluated s.table s.known s.class (tree_in s.tree x)) (evaluated s.table s.known s.class (tree_in s.tree y)) (evaluated s.table s.known s.class (tree_in s.tree z)))
node_law s p (nodes.Cast k x) =
    cast_law (is_primitive (tree_in s.tree k)) (number_width (tree_in s.tree k)) (is_constant s.table s.known s.class (tree_in s.tree x)) (evaluated s.table s.known s.class (tree_in s.tree x)) (unwritten (tree_in s.tree k))
node_law s p _ = refl

-- the outcome of a node from those of its parts
pub entry_law : (s : Setting) (i : ℕ) (e : Entry) → tree_in s.tree i ≡ tree_of s.tree.text (tree_in s.tree) e.place e.node → outcome_at s i ≡ node_outcome s e.node
entry_law s i e h = ap (sized_of s.table s.known s.class) h ∙ node_law s e.place e.node

pub parts_below : (a : Arena) (i j : ℕ) (cs : List ℕ) → i < length a.entries → ArePartsFrom a.entries i j cs → AreBelow (length a.entries) cs
parts_below a i j [] h k = tt
parts_below a i j (c ∷ cs) h k = (let b = k.0.below in omega arith, parts_below a i (j + 1) cs h k.1)

-- a node is looked at
pub looked : {E : Type 0} (t : Table) (c : ℕ) (a : Arena) (i : ℕ) (e : Entry) (fs new : List Frame) (kept : List (Key × Value)) → tree_in a i ≡ tree_of a.text (tree_in a) e.place e.node → (r : Result Task E)
    → IfOk r (λ task. (known : List Known) → AreValues known kept → whole (setting t known c a) task new ≡ resumed (setting t known c a) fs (node_outcome (setting t known c a) e.node))
    → IfOk r (λ task. (known : List Known) → AreValues known kept → whole (setting t known c a) task new ≡ whole (setting t known c a) (Look i) fs)
looked t c a i e fs new kept h (Err x) k = tt
looked t c a i e fs new kept h (Ok task) k = λ known v. k known v ∙ ap (resumed (setting t known c a) fs) (sym (entry_law (setting t known c a) i e h))

by_outcome : (known : List Known) (p : Place) (b : Bool) (v : Option Value) → (if b then known ++ known_as p v else known) ≡ with_outcome known p (outcome b v)
by_outcome known p true v = refl
by_outcome known p false v = refl

-- a constant's value is noted
pub noted : {A E : Type 0} (t : Table) (f : Field) (found : Found) (kept new : List (Key × Value)) → ((known : List Known) → AreValues known kept → found_shown found ≡ sized_of t known f.class f.initial) → (r : Result A E)
    → IfOk r (λ none. (known : List Known) → AreValues known kept → AreValues (with_outcome known f.place (note_shown found.note)) new)
    → IfOk r (λ none. (known : List Known) → AreValues known kept → AreValues (with_constant t known f) new)
noted t f found kept new h (Err x) k = tt
noted t f found kept new h (Ok none) k = λ known v.
    subst (λ (ks : List Known). AreValues ks new)
    (ap (λ (x : Sized). with_outcome known f.place x.outcome) (h known v) ∙ sym (by_outcome known f.place (is_constant t known f.class f.initial) (evaluated t known f.class f.initial)))
    (k known v)
