-- Statements of builders that aren't broken: locals of new objects, and fields and elements that are set.
use Rattle.std.proofs.Common.{◌≡◌, refl, ap, ◌∙◌, ℕ, Bool, true, false, not, ◌||◌, nat_lt, List, [], ◌++◌, Some, if◌then◌else◌}
use Rattle.std.proofs.lemmas.Bool.{or_right}
use Rattle.kr_base.specs.declared.place.Place.{Place}
use Rattle.kr_ast.specs.declared.node.UnaryOperator.TheVariants.{Minus}
use Rattle.kr_ast.specs.Tree as trees
use Rattle.kr_ast.specs.Tree.{Tree}
use Rattle.kr_classes_table.specs.Numbers.{Bits32, Bits64, half}
use Rattle.kr_classes_table.specs.Types.{JavaType, NumberType, int_type, BooleanType, NullType, ClassType, ArrayType, is_known}
use Rattle.kr_classes_table.specs.Rules.{Fault}
use Rattle.kr_classes_table.specs.Table.{Field, type_named, field_named, constructor_parameters, is_assignable}
use Rattle.kr_types_meaning.specs.Scopes.{Scope, Locals, LocalName, Meant, value, statement, declaring, bind_local, static_if, meant, class_if_none, written}
use Rattle.kr_types_meaning.specs.Rules.{Typed, Untyped, Value, Variable, Values, Judgement, Fits, Breaks, ask, fine, takes, is_code, is_new, arguments_fit, type_rule, name_rule, number_rule, unary_rule, access_rule, field_rule, element_rule, assignment_rule, written_rule, creation_rule, array_creation_rule, declaration_rule, return_rule}
use Rattle.kr_types_meaning.specs.Typing.{Judged, judge, on_one, on_maybe, one, two, one_and_list, maybe, field_of, judged, type_in}

-- a node of a type without broken nodes
abbrev pub of : Typed → Judged
of x = record { typed = x; faults = [] }

fits : (p : Place) (v : Judgement) (x : Typed) → v ≡ Fits x → judge p v [] ≡ of x
fits p v x e = ap (λ z. judge p z []) e

-- a value of a type, which may be a variable
pub record IsValue (s : Scope) (e : Tree) (a : JavaType) : Type 0 where
  pub unbroken : (judged s e).faults ≡ []
  pub typed : type_in (judged s e).typed ≡ Some a

pub valued : (s : Scope) (e : Tree) (a : JavaType) (x : Typed) → judged s e ≡ of x → type_in x ≡ Some a → IsValue s e a
valued s e a x q t = record { unbroken = ap (λ (z : Judged). z.faults) q; typed = ap (λ (z : Judged). type_in z.typed) q ∙ t }

-- ---- operands

pub local_judged : (s : Scope) (p : Place) (n : List ℕ) (k : ℕ) (a : JavaType) → meant s n ≡ LocalName k a → is_known a ≡ true → judged s (trees.Variable p n) ≡ of (Variable a)
unfolding judged
local_judged s p n k a e known = fits p (name_rule s (meant s n)) (Variable a) (ap (name_rule s) e ∙ ap (λ b. Fits (if b then Variable a else Untyped)) known)

pub number_judged : (s : Scope) (p : Place) (n : ℕ) → nat_lt n (half Bits32) ≡ true → judged s (trees.Number p n) ≡ of (Value int_type)
unfolding judged
number_judged s p n e = fits p (number_rule s Bits32 n) (Value int_type) (ap (λ b. ask (b || Rattle.kr_types_meaning.specs.Rules.is_under_minus s.role) 6 (Fits (Value int_type))) e)

pub long_judged : (s : Scope) (p : Place) (n : ℕ) → nat_lt n (half Bits64) ≡ true → judged s (trees.LongNumber p n) ≡ of (Value (NumberType Bits64))
unfolding judged
long_judged s p n e = fits p (number_rule s Bits64 n) (Value (NumberType Bits64)) (ap (λ b. ask (b || Rattle.kr_types_meaning.specs.Rules.is_under_minus s.role) 6 (Fits (Value (NumberType Bits64)))) e)

-- a number under a minus may be any
pub negative_judged : (s : Scope) (p q : Place) (n : ℕ) → judged s (trees.Unary p Minus (trees.Number q n)) ≡ of (Value int_type)
unfolding judged
negative_judged s p q n = ap (λ b. one p (unary_rule Minus) (judge q (ask b 6 (Fits (Value int_type))) [])) (or_right (nat_lt n (half Bits32)) true refl)

pub negative_long_judged : (s : Scope) (p q : Place) (n : ℕ) → judged s (trees.Unary p Minus (trees.LongNumber q n)) ≡ of (Value (NumberType Bits64))
unfolding judged
negative_long_judged s p q n = ap (λ b. one p (unary_rule Minus) (judge q (ask b 6 (Fits (Value (NumberType Bits64)))) [])) (or_right (nat_lt n (half Bits64)) true refl)

pub truth_judged : (s : Scope) (p : Place) (b : Bool) → judged s (trees.Truth p b) ≡ of (Value BooleanType)
unfolding judged
truth_judged s p b = refl

pub null_judged : (s : Scope) (p : Place) → judged s (trees.Null p) ≡ of (Value NullType)
unfolding judged
null_judged s p = refl

-- ---- what is set

pub field_judged : (s : Scope) (p q : Place) (n f : List ℕ) (k c : ℕ) (x : Field) → meant s n ≡ LocalName k (ClassType c) → field_named s.table c f ≡ Some x → x.is_static ≡ false → is_known x.type ≡ true
    → judged s (trees.FieldAccess p (trees.Variable q n) f) ≡ of (Variable x.type)
unfolding judged
field_judged s p q n f k c x e found instance known =
    ap (λ (m : Meant). field_of s p f (class_if_none s n m) (judged (value s) (trees.Variable q n))) e
    ∙ (ap (one p (access_rule s f)) (local_judged (value s) q n k (ClassType c) e refl)
    ∙ fits p (field_rule (field_named s.table c f)) (Variable x.type)
    (ap field_rule found ∙ (ap (λ b. ask (not b) 22 (Fits (if is_known x.type then Variable x.type else Untyped))) instance ∙ ap (λ b. Fits (if b then Variable x.type else Untyped)) known)))

pub element_judged : (s : Scope) (p q r : Place) (n : List ℕ) (i k : ℕ) (a : JavaType) → meant s n ≡ LocalName k (ArrayType a) → is_known a ≡ true → nat_lt i (half Bits32) ≡ true
    → judged s (trees.ArrayAccess p (trees.Variable q n) (trees.Number r i)) ≡ of (Variable a)
unfolding judged
element_judged s p q r n i k a e known small =
    ap (λ z. two p element_rule z (judged (value s) (trees.Number r i))) (local_judged (value s) q n k (ArrayType a) e known) ∙ ap (two p element_rule (of (Variable (ArrayType a)))) (number_judged (value s) r i small)

assigned : (s : Scope) (p : Place) (a b : JavaType) (x y : Judged) → x ≡ of (Variable a) → y.faults ≡ [] → type_in y.typed ≡ Some b → is_assignable s.table b a ≡ true → is_code s.part ≡ true → (two p (assignment_rule s x.typed) x y).faults ≡ []
assigned s p a b x y e f t assignable code =
    ap (λ (z : Judged). (two p (assignment_rule s z.typed) z y).faults) e
    ∙ (ap (λ (fs : List Fault). (judge p (on_one (assignment_rule s (Variable a) a) y.typed) fs).faults) f ∙ go y.typed t)
  where
    rule : (c : JavaType) → c ≡ b → (judge p (assignment_rule s (Variable a) a c) []).faults ≡ []
    rule c q =
        ap (λ z. (judge p (assignment_rule s (Variable a) a z) []).faults) q
        ∙ (ap (λ z. (judge p (ask z 16 (written_rule s (Variable a) a)) []).faults) assignable ∙ ap (λ z. (judge p (ask z 39 (Fits (Value a))) []).faults) code)

    go : (v : Typed) → type_in v ≡ Some b → (judge p (on_one (assignment_rule s (Variable a) a) v) []).faults ≡ []
    go (Value c) q = let r : c ≡ b = cc (q) in rule c r
    go (Variable c) q = let r : c ≡ b = cc (q) in rule c r
    go (Values ts) q = refl
    go Untyped q = refl

-- `target = value;`
pub set_unbroken : (s : Scope) (p q : Place) (x y : Tree) (a b : JavaType) → judged (value s) x ≡ of (Variable a) → IsValue (value s) y b → is_assignable s.table b a ≡ true → is_code s.part ≡ true → (judged s (trees.ExpressionStatement p (trees.Assignment q x y))).faults ≡ []
unfolding judged
set_unbroken s p q x y a b e v assignable code = assigned (statement s) q a b (judged (value s) x) (judged (value s) y) e v.unbroken v.typed assignable code

-- ---- locals

-- the scope in which a local's initial value is, and which it leaves
abbrev pub with_local : Scope → Tree → List ℕ → Scope
with_local s k n = bind_local n (written s k) (declaring Locals k s)

pub local_unbroken : (s : Scope) (p q : Place) (k e : Tree) (n : List ℕ) (b : JavaType) → (judged s k).faults ≡ [] → is_new s n (meant s n) ≡ true → IsValue (with_local s k n) e b → is_assignable s.table b (written s k) ≡ true
    → (judged s (trees.Local p k (trees.Cons (trees.Declarator q n e) trees.Nil))).faults ≡ []
unfolding judged
local_unbroken s p q k e n b type new v assignable =
    let inner = judged (with_local s k n) e in
    let s1 = declaring Locals k s in
    ap (λ (fs : List Fault). fs ++ ((maybe q (declaration_rule s1 Locals q n) inner).faults ++ [])) type
    ∙ ap (λ (fs : List Fault). fs ++ []) (ap (λ (fs : List Fault). (judge q (on_maybe (declaration_rule s1 Locals q n) inner.typed) fs).faults) v.unbroken ∙ go inner.typed v.typed)
  where
    rule : (c : JavaType) → c ≡ b → (judge q (declaration_rule (declaring Locals k s) Locals q n (Some c)) []).faults ≡ []
    rule c r =
        ap (λ z. (judge q (declaration_rule (declaring Locals k s) Locals q n (Some z)) []).faults) r
        ∙ (ap (λ z. (judge q (ask z 4 (ask (not (is_known (written s k)) || is_assignable s.table b (written s k)) 29 fine)) []).faults) new
        ∙ ap (λ z. (judge q (ask z 29 fine) []).faults) (or_right (not (is_known (written s k))) (is_assignable s.table b (written s k)) assignable))

    go : (x : Typed) → type_in x ≡ Some b → (judge q (on_maybe (declaration_rule (declaring Locals k s) Locals q n) x) []).faults ≡ []
    go (Value c) t = let r : c ≡ b = cc (t) in rule c r
    go (Variable c) t = let r : c ≡ b = cc (t) in rule c r
    go (Values ts) t = absurd (cc (t))
    go Untyped t = refl

-- the names of types that builders write
abbrev pub IsSimple : Tree → Type 0
IsSimple (trees.PrimitiveType p k) = Unit {0}
IsSimple (trees.NamedType p n) = Unit {0}
IsSimple (trees.QualifiedType p o n) = Unit {0}
IsSimple k = ⊥

known_type : (p : Place) (a b : JavaType) → a ≡ b → is_known b ≡ true → judge p (type_rule a) [] ≡ of (Value b)
known_type p a b e known = ap (λ z. judge p (type_rule z) []) e ∙ ap (λ z. judge p (ask z 1 (Fits (Value b))) []) known

pub type_judged : (s : Scope) (k : Tree) (a : JavaType) → IsSimple k → type_named s.table.headings k ≡ a → is_known a ≡ true → judged s k ≡ of (Value a)
unfolding judged
type_judged s (trees.PrimitiveType p k) a h e known = known_type p (type_named s.table.headings (trees.PrimitiveType p k)) a e known
type_judged s (trees.NamedType p n) a h e known = known_type p (type_named s.table.headings (trees.NamedType p n)) a e known
type_judged s (trees.QualifiedType p o n) a h e known = known_type p (type_named s.table.headings (trees.QualifiedType p o n)) a e known
type_judged s _ a h e known = absurd h

-- `new C()`
pub creation_judged : (s : Scope) (p : Place) (k : Tree) (c : ℕ) → IsSimple k → type_named s.table.headings k ≡ ClassType c → constructor_parameters s.table c ≡ [] → is_code s.part ≡ true → judged s (trees.ObjectCreation p k trees.Nil) ≡ of (Value (ClassType c))
unfolding judged
creation_judged s p k c h e none code =
    ap (λ z. one_and_list p (creation_rule s) z (of (Values []))) (type_judged s k (ClassType c) h e refl)
    ∙ (ap (λ ps. judge p (ask (arguments_fit s [] ps) 26 (ask (is_code s.part) 39 (Fits (Value (ClassType c))))) []) none ∙ ap (λ z. judge p (ask z 39 (Fits (Value (ClassType c)))) []) code)

-- `new T[n]`
pub array_judged : (s : Scope) (p : Place) (k e : Tree) (a : JavaType) → IsSimple k → type_named s.table.headings k ≡ a → is_known a ≡ true → judged (value s) e ≡ of (Value int_type) → is_code s.part ≡ true → judged s (trees.ArrayCreation p k e) ≡ of (Value (ArrayType a))
unfolding judged
array_judged s p k e a h named known length code =
    ap (λ z. two p (array_creation_rule s) z (judged (value s) e)) (type_judged s k a h named known)
    ∙ (ap (two p (array_creation_rule s) (of (Value a))) length ∙ ap (λ z. judge p (ask z 39 (Fits (Value (ArrayType a)))) []) code)

-- ---- the method

-- `return name;`
pub return_unbroken : (s : Scope) (p q : Place) (n : List ℕ) (k : ℕ) (a : JavaType) → meant s n ≡ LocalName k a → is_known a ≡ true → takes s s.result a ≡ true → (judged s (trees.Return p (trees.Variable q n))).faults ≡ []
unfolding judged
return_unbroken s p q n k a e known t = ap (λ (z : Judged). (maybe p (return_rule s) z).faults) (local_judged s q n k a e known) ∙ ap (λ z. (judge p (ask z 30 fine) []).faults) t

-- the scope of the body of a static method without parameters
abbrev pub body_scope : Scope → JavaType → Scope
body_scope s a = record s { is_static = true; result = a }

pub method_unbroken : (s : Scope) (p q : Place) (n : List ℕ) (r b : Tree) (a : JavaType) → IsSimple r → type_named s.table.headings r ≡ a → is_known a ≡ true → (judged (body_scope s a) b).faults ≡ []
    → (judged s (trees.Method p true n (trees.Signature q r trees.Nil trees.Nil) b)).faults ≡ []
unfolding judged
method_unbroken s p q n r b a h e known f =
    ap (λ (z : Judged). ((z.faults ++ []) ++ []) ++ (judged (body_scope s (type_named s.table.headings r)) b).faults) (type_judged (static_if true s) r a h e known)
    ∙ (ap (λ (z : JavaType). (judged (body_scope s z) b).faults) e ∙ f)
