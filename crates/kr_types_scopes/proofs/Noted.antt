-- The note of a node follows from those of its parts.
use Rattle.std.proofs.Common.{◌≡◌, ℕ, ◌⊎◌, inl, inr, Bool, true, false, Option, List, [], ◌∷◌, ◌++◌, Some, None, refl, sym, ap, ◌∙◌, if◌then◌else◌}
use Rattle.std.specs.Prelude.{slice_get}
use Rattle.std.proofs.lemmas.Bool.{both_ways, cases_Bool}
use Rattle.kr_base.specs.declared.place.Place.{Place}
use Rattle.kr_ast.specs.Tree as trees
use Rattle.kr_ast.specs.Tree.{Tree}
use Rattle.kr_classes_table.specs.Types.{JavaType}
use Rattle.kr_classes_table.specs.Rules.{Fault, is_before, sooner, least}
use Rattle.kr_classes_table.specs.Table.{applied, method_named}
use Rattle.kr_types_meaning.specs.Scopes.{Scope, written, class_before, method_meant, caught_type}
use Rattle.kr_types_meaning.specs.Rules.{Typed, Untyped, Judgement, Fits, Breaks, type_rule, array_rule, unary_rule, operator_rule, choice_rule, cast_rule, instance_rule, assignment_rule, compound_rule, step_rule, access_rule, element_rule, call_rule, static_rule, super_rule, object_call_rule, creation_rule, array_creation_rule, old_rule, contract_rule, condition_rule, return_rule, declaration_rule, super_constructor_rule, implied_rule, throw_rule, caught_rule, then_rule}
use Rattle.kr_types_meaning.specs.Typing as typing
use Rattle.kr_types_meaning.specs.Typing.{Judged, judge, judged, on_one, on_two, on_list, on_maybe}
use Rattle.kr_types_meaning.specs.Noting.{Note, note, kept, concluded, one, two, three, one_and_list, list, maybe, plain, test, both, field_of, method_of, noted, parts_of}
use Rattle.kr_types_scopes.specs.Noting.{AreNoted}
use Rattle.kr_types_meaning.specs.Handing.{handed}
use Rattle.kr_classes_table.proofs.Order.{asymmetric, onwards}

assoc_cases : (f g h : Fault) (a b c : Bool) → is_before g f ≡ a → is_before h g ≡ b → is_before h f ≡ c → (a ≡ true → b ≡ true → c ≡ true) → (a ≡ false → b ≡ false → c ≡ false)
    → sooner (if a then Some g else Some f) (Some h) ≡ sooner (Some f) (if b then Some h else Some g)
assoc_cases f g h true true c ea eb ec p q = ap (λ t. if t then Some h else Some g) eb ∙ sym (ap (λ t. if t then Some h else Some f) (ec ∙ p refl refl))
assoc_cases f g h true false c ea eb ec p q = ap (λ t. if t then Some h else Some g) eb ∙ sym (ap (λ t. if t then Some g else Some f) ea)
assoc_cases f g h false true c ea eb ec p q = refl
assoc_cases f g h false false c ea eb ec p q = ap (λ t. if t then Some h else Some f) (ec ∙ q refl refl) ∙ sym (ap (λ t. if t then Some g else Some f) ea)

before_on : (f g h : Fault) → is_before g f ≡ true → is_before h g ≡ true → is_before h f ≡ true
before_on f g h a b = go (cases_Bool (is_before h f))
  where
    go : (is_before h f ≡ true) ⊎ (is_before h f ≡ false) → is_before h f ≡ true
    go (inl t) = t
    go (inr n) = absurd (both_ways (is_before h g) (onwards h f g n (asymmetric f g a)) b)

pub sooner_assoc : (a b c : Option Fault) → sooner (sooner a b) c ≡ sooner a (sooner b c)
sooner_assoc None b c = refl
sooner_assoc (Some f) None c = refl
sooner_assoc (Some f) (Some g) None = elim (is_before g f) as (λ t. sooner (if t then Some g else Some f) None ≡ (if t then Some g else Some f)) [ true ↦ refl | false ↦ refl ]
sooner_assoc (Some f) (Some g) (Some h) =
    assoc_cases f g h (is_before g f) (is_before h g) (is_before h f) refl refl refl (before_on f g h) (λ a b. onwards h g f b a)

pub least-append : (fs gs : List Fault) → least (fs ++ gs) ≡ sooner (least fs) (least gs)
least-append [] gs = refl
least-append (f ∷ fs) gs = ap (sooner (Some f)) (least-append fs gs) ∙ sym (sooner_assoc (Some f) (least fs) (least gs))

kept_judge : (p : Place) (v : Judgement) (below : List Fault) → kept (judge p v below) ≡ concluded p v (least below)
kept_judge p (Fits t) below = refl
kept_judge p (Breaks r) below = ap (note Untyped) (least-append below (record { place = p; rule = r } ∷ []))

-- the note of a judgement, and the first of a list, as records so that arguments are inferred
record Kept (x : Judged) (a : Note) : Type 0 where
  is : a ≡ kept x

record Least (fs : List Fault) (l : Option Fault) : Type 0 where
  is : l ≡ least fs

only : {x : Judged} {a : Note} → Kept x a → Least x.faults a.least
only e = record { is = ap (λ (f : Note). f.least) e.is }

beside : {fs gs : List Fault} {l m : Option Fault} → Least fs l → Least gs m → Least (fs ++ gs) (sooner l m)
beside {fs} {gs} {l} {m} e g = record { is = ap (λ l. sooner l m) e.is ∙ (ap (sooner (least fs)) g.is ∙ sym (least-append fs gs)) }

judge_is : (p : Place) {v w : Judgement} {fs : List Fault} {l : Option Fault} → v ≡ w → Least fs l → kept (judge p v fs) ≡ concluded p w l
judge_is p {v} {w} {fs} {l} e g = kept_judge p v fs ∙ (ap (λ x. concluded p x (least fs)) e ∙ ap (concluded p w) (sym g.is))

typed_is : {x : Judged} {a : Note} → Kept x a → x.typed ≡ a.typed
typed_is e = sym (ap (λ (f : Note). f.typed) e.is)

one_is : (p : Place) (f : JavaType → Judgement) {x : Judged} {a : Note} → Kept x a → kept (typing.one p f x) ≡ one p f a
one_is p f e = judge_is p (ap (on_one f) (typed_is e)) (only e)

two_is : (p : Place) (f : JavaType → JavaType → Judgement) {x y : Judged} {a b : Note} → Kept x a → Kept y b → kept (typing.two p f x y) ≡ two p f a b
two_is p f {x} {y} {a} {b} e g = judge_is p (ap (λ t. on_two f t y.typed) (typed_is e) ∙ ap (on_two f a.typed) (typed_is g)) (beside (only e) (only g))

three_is : (p : Place) (f : JavaType → JavaType → JavaType → Judgement) {x y z : Judged} {a b c : Note} → Kept x a → Kept y b → Kept z c → kept (typing.three p f x y z) ≡ three p f a b c
three_is p f {x} {y} {z} {a} {b} {c} e g h =
    judge_is p (ap (on_one (λ t. on_two (f t) y.typed z.typed)) (typed_is e) ∙ (ap (λ u. on_one (λ t. on_two (f t) u z.typed) a.typed) (typed_is g) ∙ ap (λ u. on_one (λ t. on_two (f t) b.typed u) a.typed) (typed_is h)))
    (beside (beside (only e) (only g)) (only h))

one_and_list_is : (p : Place) (f : JavaType → List JavaType → Judgement) {x y : Judged} {a b : Note} → Kept x a → Kept y b → kept (typing.one_and_list p f x y) ≡ one_and_list p f a b
one_and_list_is p f {x} {y} {a} {b} e g =
    judge_is p (ap (on_one (λ t. on_list (f t) y.typed)) (typed_is e) ∙ ap (λ u. on_one (λ t. on_list (f t) u) a.typed) (typed_is g)) (beside (only e) (only g))

list_is : (p : Place) (f : List JavaType → Judgement) {x : Judged} {a : Note} → Kept x a → kept (typing.list p f x) ≡ list p f a
list_is p f e = judge_is p (ap (on_list f) (typed_is e)) (only e)

maybe_is : (p : Place) (f : Option JavaType → Judgement) {x : Judged} {a : Note} → Kept x a → kept (typing.maybe p f x) ≡ maybe p f a
maybe_is p f e = judge_is p (ap (on_maybe f) (typed_is e)) (only e)

test_is : (p : Place) {x : Judged} {a : Note} {fs : List Fault} {l : Option Fault} → Kept x a → Least fs l → kept (typing.test p x fs) ≡ test p a l
test_is p e g = judge_is p (ap (on_one condition_rule) (typed_is e)) (beside (only e) g)

plain_is : {fs : List Fault} {l : Option Fault} → Least fs l → kept (typing.plain fs) ≡ plain l
plain_is g = ap (note Untyped) (sym g.is)

both_is : {x y : Judged} {a b : Note} → Kept x a → Kept y b → kept (typing.both x y) ≡ both a b
both_is {x} {y} {a} {b} e g =
    ap (λ t. note (typing.joined t y.typed) (least (x.faults ++ y.faults))) (typed_is e)
    ∙ (ap (λ t. note (typing.joined a.typed t) (least (x.faults ++ y.faults))) (typed_is g)
    ∙ ap (note (typing.joined a.typed b.typed)) (sym (beside (only e) (only g)).is))

-- a rule that also reads how the first part is typed
step_is : (p : Place) (f : Typed → JavaType → Judgement) {x : Judged} {a : Note} → Kept x a → kept (typing.one p (f x.typed) x) ≡ one p (f a.typed) a
step_is p f {x} {a} e = ap (λ t. kept (typing.one p (f t) x)) (typed_is e) ∙ one_is p (f a.typed) e

write_is : (p : Place) (f : Typed → JavaType → JavaType → Judgement) {x y : Judged} {a b : Note} → Kept x a → Kept y b → kept (typing.two p (f x.typed) x y) ≡ two p (f a.typed) a b
write_is p f {x} {y} {a} {b} e g = ap (λ t. kept (typing.two p (f t) x y)) (typed_is e) ∙ two_is p (f a.typed) e g

field_is : (s : Scope) (p : Place) (n : List ℕ) (c : Option ℕ) {x : Judged} {a : Note} → Kept x a → kept (typing.field_of s p n c x) ≡ field_of s p n c a
field_is s p n (Some c) e = kept_judge p _ []
field_is s p n None e = one_is p (access_rule s n) e

method_is : (s : Scope) (p : Place) (n : List ℕ) (c : Option ℕ) {x y : Judged} {a b : Note} → Kept x a → Kept y b → kept (typing.method_of s p n c x y) ≡ method_of s p n c a b
method_is s p n (Some c) e g = list_is p (static_rule s (method_named s.table c n)) g
method_is s p n None e g = one_and_list_is p (object_call_rule s n) e g

module _ (s : Scope) (look : ℕ → Note) where
  known : (t : Tree) → AreNoted s t look → (j : ℕ) (u : Tree) → slice_get (parts_of t) j ≡ Some u → Kept (judged (handed s t j) u) (look j)
  known t h j u e = record { is = h j u e }

  pub noted_is : (t : Tree) → AreNoted s t look → kept (judged s t) ≡ noted s t look
  unfolding judged
  noted_is trees.Nil h = refl
  noted_is (trees.Cons a b) h = both_is (known (trees.Cons a b) h 0 a refl) (known (trees.Cons a b) h 1 b refl)
  noted_is (trees.PrimitiveType p k) h = kept_judge p _ []
  noted_is (trees.NamedType p n) h = kept_judge p _ []
  noted_is (trees.QualifiedType p o n) h = kept_judge p _ []
  noted_is (trees.GenericType p a b) h = one_is p (λ t. type_rule (applied (written s a) t)) (known (trees.GenericType p a b) h 1 b refl)
  noted_is (trees.DiamondType p a) h = kept_judge p _ []
  noted_is (trees.ArrayType p e) h = one_is p array_rule (known (trees.ArrayType p e) h 0 e refl)
  noted_is (trees.Number p n) h = kept_judge p _ []
  noted_is (trees.LongNumber p n) h = kept_judge p _ []
  noted_is (trees.Truth p b) h = refl
  noted_is (trees.Null p) h = refl
  noted_is (trees.This p) h = kept_judge p _ []
  noted_is (trees.Variable p n) h = kept_judge p _ []
  noted_is (trees.FieldAccess p e n) h = field_is s p n (class_before s e) (known (trees.FieldAccess p e n) h 0 e refl)
  noted_is (trees.ArrayAccess p a i) h = two_is p element_rule (known (trees.ArrayAccess p a i) h 0 a refl) (known (trees.ArrayAccess p a i) h 1 i refl)
  noted_is (trees.Call p n es) h = list_is p (call_rule s (method_meant s n)) (known (trees.Call p n es) h 0 es refl)
  noted_is (trees.MethodCall p e n es) h = method_is s p n (class_before s e) (known (trees.MethodCall p e n es) h 0 e refl) (known (trees.MethodCall p e n es) h 1 es refl)
  noted_is (trees.SuperCall p n es) h = list_is p (super_rule s n) (known (trees.SuperCall p n es) h 0 es refl)
  noted_is (trees.ObjectCreation p t es) h = one_and_list_is p (creation_rule s) (known (trees.ObjectCreation p t es) h 0 t refl) (known (trees.ObjectCreation p t es) h 1 es refl)
  noted_is (trees.ArrayCreation p t e) h = two_is p (array_creation_rule s) (known (trees.ArrayCreation p t e) h 0 t refl) (known (trees.ArrayCreation p t e) h 1 e refl)
  noted_is (trees.Unary p o e) h = one_is p (unary_rule o) (known (trees.Unary p o e) h 0 e refl)
  noted_is (trees.Step p o e) h = step_is p (step_rule s) (known (trees.Step p o e) h 0 e refl)
  noted_is (trees.Binary p o a b) h = two_is p (operator_rule s o) (known (trees.Binary p o a b) h 0 a refl) (known (trees.Binary p o a b) h 1 b refl)
  noted_is (trees.InstanceOf p e t) h = two_is p (instance_rule s) (known (trees.InstanceOf p e t) h 0 e refl) (known (trees.InstanceOf p e t) h 1 t refl)
  noted_is (trees.Conditional p c a b) h = three_is p (choice_rule s) (known (trees.Conditional p c a b) h 0 c refl) (known (trees.Conditional p c a b) h 1 a refl) (known (trees.Conditional p c a b) h 2 b refl)
  noted_is (trees.Cast p t e) h = two_is p (cast_rule s) (known (trees.Cast p t e) h 0 t refl) (known (trees.Cast p t e) h 1 e refl)
  noted_is (trees.Assignment p a b) h = write_is p (assignment_rule s) (known (trees.Assignment p a b) h 0 a refl) (known (trees.Assignment p a b) h 1 b refl)
  noted_is (trees.CompoundAssignment p o a b) h = write_is p (compound_rule s o) (known (trees.CompoundAssignment p o a b) h 0 a refl) (known (trees.CompoundAssignment p o a b) h 1 b refl)
  noted_is (trees.Result p) h = kept_judge p _ []
  noted_is (trees.Old p e) h = one_is p (old_rule s) (known (trees.Old p e) h 0 e refl)
  noted_is (trees.Empty p) h = refl
  noted_is (trees.Block p b) h = plain_is (only (known (trees.Block p b) h 0 b refl))
  noted_is (trees.Local p t ds) h = plain_is (beside (only (known (trees.Local p t ds) h 0 t refl)) (only (known (trees.Local p t ds) h 1 ds refl)))
  noted_is (trees.Declarator p n e) h = maybe_is p (declaration_rule s s.declaring p n) (known (trees.Declarator p n e) h 0 e refl)
  noted_is (trees.ExpressionStatement p e) h = plain_is (only (known (trees.ExpressionStatement p e) h 0 e refl))
  noted_is (trees.Return p e) h = maybe_is p (return_rule s) (known (trees.Return p e) h 0 e refl)
  noted_is (trees.Break p) h = kept_judge p _ []
  noted_is (trees.Continue p) h = kept_judge p _ []
  noted_is (trees.IfThen p c a) h = test_is p (known (trees.IfThen p c a) h 0 c refl) (only (known (trees.IfThen p c a) h 1 a refl))
  noted_is (trees.IfElse p c a b) h = test_is p (known (trees.IfElse p c a b) h 0 c refl) (beside (only (known (trees.IfElse p c a b) h 1 a refl)) (only (known (trees.IfElse p c a b) h 2 b refl)))
  noted_is (trees.While p c a) h = test_is p (known (trees.While p c a) h 0 c refl) (only (known (trees.While p c a) h 1 a refl))
  noted_is (trees.Do p a c) h = test_is p (known (trees.Do p a c) h 1 c refl) (only (known (trees.Do p a c) h 0 a refl))
  noted_is (trees.For p i c u a) h =
      test_is p (known (trees.For p i c u a) h 1 c refl) (beside (beside (only (known (trees.For p i c u a) h 0 i refl)) (only (known (trees.For p i c u a) h 2 u refl))) (only (known (trees.For p i c u a) h 3 a refl)))
  noted_is (trees.Throw p e) h = one_is p (throw_rule s) (known (trees.Throw p e) h 0 e refl)
  noted_is (trees.Try p b cs) h = plain_is (beside (only (known (trees.Try p b cs) h 0 b refl)) (only (known (trees.Try p b cs) h 1 cs refl)))
  noted_is (trees.Catch p d b) h = judge_is p refl (beside (only (known (trees.Catch p d b) h 0 d refl)) (only (known (trees.Catch p d b) h 1 b refl)))
  noted_is (trees.ConstructorCall p es) h = list_is p (super_constructor_rule s) (known (trees.ConstructorCall p es) h 0 es refl)
  noted_is (trees.Class p n e ms) h = judge_is p refl (only (known (trees.Class p n e ms) h 1 ms refl))
  noted_is (trees.Field p st fi t ds) h = plain_is (beside (only (known (trees.Field p st fi t ds) h 0 t refl)) (only (known (trees.Field p st fi t ds) h 1 ds refl)))
  noted_is (trees.Method p st n g b) h = plain_is (beside (only (known (trees.Method p st n g b) h 0 g refl)) (only (known (trees.Method p st n g b) h 1 b refl)))
  noted_is (trees.Signature p r ps cs) h = plain_is (beside (beside (only (known (trees.Signature p r ps cs) h 0 r refl)) (only (known (trees.Signature p r ps cs) h 1 ps refl))) (only (known (trees.Signature p r ps cs) h 2 cs refl)))
  noted_is (trees.Parameter p t n) h = judge_is p refl (only (known (trees.Parameter p t n) h 0 t refl))
  noted_is (trees.Constructor p ps call b) h =
      judge_is p (ap (on_maybe (λ t. implied_rule s)) (typed_is (known (trees.Constructor p ps call b) h 1 call refl)))
      (beside (beside (only (known (trees.Constructor p ps call b) h 0 ps refl)) (only (known (trees.Constructor p ps call b) h 1 call refl))) (only (known (trees.Constructor p ps call b) h 2 b refl)))
  noted_is (trees.Requires p e) h = one_is p (contract_rule s) (known (trees.Requires p e) h 0 e refl)
  noted_is (trees.Ensures p e) h = one_is p (contract_rule s) (known (trees.Ensures p e) h 0 e refl)
  noted_is (trees.Signals p d e) h =
      judge_is p (ap (on_one (λ t. then_rule (contract_rule s t) (caught_rule s 43 (caught_type s d)))) (typed_is (known (trees.Signals p d e) h 1 e refl)))
      (beside (only (known (trees.Signals p d e) h 0 d refl)) (only (known (trees.Signals p d e) h 1 e refl)))
