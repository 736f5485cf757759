-- Types of types' nodes.
use Rattle.std.proofs.Common.{◌≡◌, refl, sym, ap, ◌∙◌, ℕ, Bool, true, false, ◌&&◌, List, [], ◌∷◌, if◌then◌else◌}
use Rattle.std.specs.Prelude.{bytes_eq, codes}
use Rattle.kr_ast.specs.Tree as trees
use Rattle.kr_classes_table.specs.Types.{JavaType, UnknownType, AppliedType, SetType, ListType, ArrayType, is_known, is_element}
use Rattle.kr_classes_table.specs.Table.{applied}
use Rattle.kr_types_meaning.specs.Scopes.{written}
use Rattle.kr_base.specs.declared.place.Place.{Place}
use Rattle.kr_classes_table.specs.Rules.{Fault}
use Rattle.kr_types_meaning.specs.Rules.{Untyped, Value, Fits, ask, typed_as, type_rule, array_rule}
use Rattle.kr_types_meaning.specs.Typing.{judged, judge, on_one}
use Rattle.kr_types_meaning.specs.Laws.{TypesLaw}

-- an argument that isn't known makes no known type
if_chosen : (b c : Bool) (n : List ℕ) (t : JavaType) → is_known t ≡ false → is_known (if b then SetType t else if c then ListType t else AppliedType (UnknownType [] n) t) ≡ false
if_chosen true c n t e = ap (λ x. x && is_element t) e
if_chosen false true n t e = ap (λ x. x && is_element t) e
if_chosen false false n t e = refl

unknown_argument : (h t : JavaType) → is_known t ≡ false → is_known (applied h t) ≡ false
unknown_argument (UnknownType [] n) t e = if_chosen (bytes_eq n (codes "HashSet")) (bytes_eq n (codes "LinkedList")) n t e
unknown_argument (UnknownType (o ∷ os) n) t e = refl
unknown_argument h t e = refl

-- a type's node by rule T1, after its parts
by_rule : (p : Place) (t : JavaType) (fs : List Fault) (b : Bool) → (judge p (ask b 1 (Fits (Value t))) fs).typed ≡ (if b then Value t else Untyped)
by_rule p t fs true = refl
by_rule p t fs false = refl

of_array : (p : Place) (t : JavaType) (fs : List Fault) (b : Bool) → (judge p (on_one array_rule (if b then Value t else Untyped)) fs).typed ≡ (if b then Value (ArrayType t) else Untyped)
of_array p t fs true = refl
of_array p t fs false = refl

of_argument : (p : Place) (h t : JavaType) (fs : List Fault) (b : Bool) → is_known t ≡ b → (judge p (on_one (λ u. type_rule (applied h u)) (if b then Value t else Untyped)) fs).typed ≡ typed_as (applied h t)
of_argument p h t fs true e = by_rule p (applied h t) fs (is_known (applied h t))
of_argument p h t fs false e = ap (λ c. if c then Value (applied h t) else Untyped) (sym (unknown_argument h t e))

pub types_law : TypesLaw
unfolding judged
types_law s (trees.PrimitiveType p k) i = by_rule p (written s (trees.PrimitiveType p k)) [] (is_known (written s (trees.PrimitiveType p k)))
types_law s (trees.NamedType p n) i = by_rule p (written s (trees.NamedType p n)) [] (is_known (written s (trees.NamedType p n)))
types_law s (trees.QualifiedType p o n) i = by_rule p (written s (trees.QualifiedType p o n)) [] (is_known (written s (trees.QualifiedType p o n)))
types_law s (trees.GenericType p h a) i =
    ap (λ x. (judge p (on_one (λ u. type_rule (applied (written s h) u)) x) (judged s a).faults).typed) (types_law s a i.1)
    ∙ of_argument p (written s h) (written s a) (judged s a).faults (is_known (written s a)) refl
types_law s (trees.ArrayType p e) i =
    ap (λ x. (judge p (on_one array_rule x) (judged s e).faults).typed) (types_law s e i) ∙ of_array p (written s e) (judged s e).faults (is_known (written s e))
types_law s t i = absurd i
