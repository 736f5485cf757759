-- A node's type doesn't depend on whether it is in a loop, nor on the fields declared around it.
use Rattle.std.proofs.Common.{◌≡◌, ℕ, Bool, true, false, List, [], ◌∷◌, ◌++◌, Option, Some, None, refl, sym, ap, ◌∙◌}
use Rattle.std.specs.Prelude.{◌&&◌, ◌||◌, not, option_and_then, is_some, if◌then◌else◌}
use Rattle.kr_base.specs.declared.place.Place.{Place}
use Rattle.kr_ast.specs.declared.node.UnaryOperator.{UnaryOperator}
use Rattle.kr_ast.specs.declared.node.UnaryOperator.TheVariants as unaries
use Rattle.kr_ast.specs.declared.node.BinaryOperator.{BinaryOperator}
use Rattle.kr_ast.specs.Tree as trees
use Rattle.kr_ast.specs.Tree.{Tree}
use Rattle.kr_classes_table.specs.Types.{JavaType, ClassType, ArrayType, SetType, ListType, is_known}
use Rattle.kr_classes_table.specs.Rules.{Fault}
use Rattle.kr_classes_table.specs.Table.{Parameter, Method, applied, method_named, constructor_parameters, is_assignable}
use Rattle.kr_classes_table.specs.Constants.{value_at}
use Rattle.kr_types_meaning.specs.declared.operators.OperatorKind.{OperatorKind}
use Rattle.kr_types_meaning.specs.declared.operators.OperatorKind.TheVariants.{Equality}
use Rattle.kr_types_meaning.specs.Scopes.{Scope, Declaring, Locals, Fields, Constants, in_old, in_contract, Requiring, Ensuring, bind_local, bind_as, declaring, after, value, statement, in_loop, written, class_before, meant, method_meant, super_class, caught_type, in_signals}
use Rattle.kr_types_meaning.specs.Rules.{Typed, Value, Variable, Values, Untyped, Judgement, Fits, Breaks, fine, ask, takes, arguments_fit, type_rule, array_rule, element_rule, result_rule, arguments_rule, call_rule, static_rule, above_rule, super_rule, method_rule, object_call_rule, creation_fits, creation_rule, array_creation_rule, unary_rule, operator_rule, choice_rule, cast_rule, instance_rule, is_broken, written_rule, assignment_rule, compound_rule, step_rule, access_rule, old_rule, contract_rule, condition_rule, return_rule, jump_rule, declaration_rule, initial_fits, is_new, is_simple, parameter_rule, super_constructor_rule, implied_rule, kind_of, kind_rule, throwable, throw_rule, caught_rule, then_rule}
use Rattle.kr_types_meaning.specs.Typing.{Judged, judge, on_one, on_two, on_list, on_maybe, leaf, joined, field_of, method_of, operand, judged, type_in}
use Rattle.kr_types_meaning.specs.Running.{locals_only, local_type, elsewhere, running}
use Rattle.kr_laws_types.specs.Running.{AreSame, IsSameRunning}

abbrev typed_by : Judgement → Typed
typed_by (Fits t) = t
typed_by (Breaks r) = Untyped

judge_typed : (p : Place) (v : Judgement) (below : List Fault) → (judge p v below).typed ≡ typed_by v
judge_typed p (Fits t) below = refl
judge_typed p (Breaks r) below = refl

same_judge : (p : Place) (v w : Judgement) (x y : List Fault) → v ≡ w → (judge p v x).typed ≡ (judge p w y).typed
same_judge p v w x y e = judge_typed p v x ∙ (ap typed_by e ∙ sym (judge_typed p w y))

-- ---- rules that give no type

abbrev Bare : Judgement → Type 0
Bare v = typed_by v ≡ Untyped

ask_bare : (b : Bool) (r : ℕ) (v : Judgement) → Bare v → Bare (ask b r v)
ask_bare true r v h = h
ask_bare false r v h = refl

if_bare : (b : Bool) (v w : Judgement) → Bare v → Bare w → Bare (if b then v else w)
if_bare true v w h k = h
if_bare false v w h k = k

one_bare : (f : JavaType → Judgement) (x : Typed) → ((t : JavaType) → Bare (f t)) → Bare (on_one f x)
one_bare f (Value t) h = h t
one_bare f (Variable t) h = h t
one_bare f (Values ts) h = refl
one_bare f Untyped h = refl

list_bare : (f : List JavaType → Judgement) (x : Typed) → ((ts : List JavaType) → Bare (f ts)) → Bare (on_list f x)
list_bare f (Values ts) h = h ts
list_bare f (Value t) h = refl
list_bare f (Variable t) h = refl
list_bare f Untyped h = refl

maybe_bare : (f : Option JavaType → Judgement) (x : Typed) → ((t : Option JavaType) → Bare (f t)) → Bare (on_maybe f x)
maybe_bare f (Value t) h = h (Some t)
maybe_bare f (Variable t) h = h (Some t)
maybe_bare f (Values ts) h = h None
maybe_bare f Untyped h = refl

condition_bare : (t : JavaType) → Bare (condition_rule t)
condition_bare t = ask_bare (Rattle.kr_types_meaning.specs.Rules.is_boolean t) 28 fine refl

return_bare : (s : Scope) (t : Option JavaType) → Bare (return_rule s t)
return_bare s None = ask_bare (Rattle.kr_classes_table.specs.Types.is_void s.result || not (is_known s.result)) 30 fine refl
return_bare s (Some t) = ask_bare (takes s s.result t) 30 fine refl

declaration_bare : (s : Scope) (d : Declaring) (p : Place) (n : List ℕ) (t : Option JavaType) → Bare (declaration_rule s d p n t)
declaration_bare s Locals p n t = ask_bare (is_new s n (meant s n)) 4 (ask (initial_fits s t) 29 fine) (ask_bare (initial_fits s t) 29 fine refl)
declaration_bare s Fields p n t = ask_bare (initial_fits s t) 35 fine refl
declaration_bare s (Constants f) p n t =
    let last = ask (f && is_simple s.declared) 37 fine in
    let more = ask (is_some (value_at s.values p)) 36 last in
    if_bare (is_known s.declared) (ask (initial_fits s t) 35 more) fine (ask_bare (initial_fits s t) 35 more (ask_bare (is_some (value_at s.values p)) 36 last (ask_bare (f && is_simple s.declared) 37 fine refl))) refl

implied_bare : (s : Scope) → Bare (implied_rule s)
implied_bare s = ask_bare (Rattle.kr_types_meaning.specs.Rules.is_none_of (Rattle.kr_types_meaning.specs.Scopes.super_parameters s)) 34 fine refl

super_bare : (s : Scope) (ts : List JavaType) → Bare (super_constructor_rule s ts)
super_bare s ts = ask_bare (arguments_fit s ts (Rattle.kr_types_meaning.specs.Scopes.super_parameters s)) 34 fine refl

contract_bare : (s : Scope) (t : JavaType) → Bare (contract_rule s t)
contract_bare s t = ask_bare (Rattle.kr_types_meaning.specs.Rules.is_boolean t) 28 (ask (not s.is_static) 40 fine) (ask_bare (not s.is_static) 40 fine refl)

parameter_bare : (s : Scope) (n : List ℕ) → Bare (parameter_rule s n)
parameter_bare s n = ask_bare (is_new s n (meant s n)) 4 fine refl

throw_bare : (s : Scope) (t : JavaType) → Bare (throw_rule s t)
throw_bare s t = ask_bare (is_assignable s.table t (throwable s)) 41 fine refl

caught_bare : (s : Scope) (r : ℕ) (t : JavaType) → Bare (caught_rule s r t)
caught_bare s r t = ask_bare (not (is_known t) || is_assignable s.table t (throwable s)) r fine refl

then_bare : (v w : Judgement) → Bare w → Bare (then_rule v w)
then_bare (Breaks r) w h = refl
then_bare (Fits t) w h = h

-- two judgements of rules that give no type
both_bare : (p q : Place) (v w : Judgement) (x y : List Fault) → Bare v → Bare w → (judge p v x).typed ≡ (judge q w y).typed
both_bare p q v w x y h k = judge_typed p v x ∙ (h ∙ (sym k ∙ sym (judge_typed q w y)))

one_pair : (p : Place) (f g : JavaType → Judgement) (x y : Typed) (xs ys : List Fault) → ((t : JavaType) → Bare (f t)) → ((t : JavaType) → Bare (g t)) → (judge p (on_one f x) xs).typed ≡ (judge p (on_one g y) ys).typed
one_pair p f g x y xs ys h k = both_bare p p (on_one f x) (on_one g y) xs ys (one_bare f x h) (one_bare g y k)

maybe_pair : (p : Place) (f g : Option JavaType → Judgement) (x y : Typed) (xs ys : List Fault) → ((t : Option JavaType) → Bare (f t)) → ((t : Option JavaType) → Bare (g t)) → (judge p (on_maybe f x) xs).typed ≡ (judge p (on_maybe g y) ys).typed
maybe_pair p f g x y xs ys h k = both_bare p p (on_maybe f x) (on_maybe g y) xs ys (maybe_bare f x h) (maybe_bare g y k)

list_pair : (p : Place) (f g : List JavaType → Judgement) (x y : Typed) (xs ys : List Fault) → ((ts : List JavaType) → Bare (f ts)) → ((ts : List JavaType) → Bare (g ts)) → (judge p (on_list f x) xs).typed ≡ (judge p (on_list g y) ys).typed
list_pair p f g x y xs ys h k = both_bare p p (on_list f x) (on_list g y) xs ys (list_bare f x h) (list_bare g y k)

-- ---- scopes

bind_elsewhere : (b : Bool) (s : Scope) (n : List ℕ) → bind_as (locals_only s.declaring) n (elsewhere b s) ≡ elsewhere b (bind_as s.declaring n s)
bind_elsewhere b s n = go s.declaring refl
  where
    go : (d : Declaring) → s.declaring ≡ d → bind_as (locals_only d) n (elsewhere b s) ≡ elsewhere b (bind_as d n s)
    go Locals e = ap (λ (x : JavaType). bind_local n x (elsewhere b s)) (ap (λ (x : Declaring). local_type x s.declared) e)
    go Fields e = refl
    go (Constants f) e = refl

after_elsewhere : (b : Bool) (s : Scope) (t : Tree) → after (elsewhere b s) t ≡ elsewhere b (after s t)
after_elsewhere b s (trees.Cons a e) = ap (λ (x : Scope). after x e) (after_elsewhere b s a) ∙ after_elsewhere b (after s a) e
after_elsewhere b s (trees.Local p t ds) = after_elsewhere b (declaring Locals t s) ds
after_elsewhere b s (trees.Declarator p n e) = bind_elsewhere b s n
after_elsewhere b s (trees.Parameter p t n) = refl
after_elsewhere b s (trees.Signature p r ps cs) = ap (λ (x : Scope). record x { result = written s r }) (after_elsewhere b s ps)
after_elsewhere b s _ = refl

-- ---- rules that look at the scope

module _ (b : Bool) (s : Scope) where
  arguments_same : (ts : List JavaType) (ps : List Parameter) → arguments_fit (elsewhere b s) ts ps ≡ arguments_fit s ts ps
  arguments_same [] [] = refl
  arguments_same (t ∷ ts) (p ∷ ps) = ap (λ (x : Bool). takes s p.type t && x) (arguments_same ts ps)
  arguments_same [] (p ∷ ps) = refl
  arguments_same (t ∷ ts) [] = refl

  arguments_rule_same : (ts : List JavaType) (m : Method) → arguments_rule (elsewhere b s) ts m ≡ arguments_rule s ts m
  arguments_rule_same ts m = ap (λ (x : Bool). ask x 24 (result_rule s m)) (arguments_same ts m.parameters)

  call_same : (m : Option Method) (ts : List JavaType) → call_rule (elsewhere b s) m ts ≡ call_rule s m ts
  call_same None ts = refl
  call_same (Some m) ts = ap (λ (x : Judgement). ask (m.is_static || not s.is_static) 5 x) (arguments_rule_same ts m)

  static_same : (m : Option Method) (ts : List JavaType) → static_rule (elsewhere b s) m ts ≡ static_rule s m ts
  static_same None ts = refl
  static_same (Some m) ts = ap (λ (x : Judgement). ask m.is_static 24 x) (arguments_rule_same ts m)

  above_same : (m : Option Method) (ts : List JavaType) → above_rule (elsewhere b s) m ts ≡ above_rule s m ts
  above_same None ts = refl
  above_same (Some m) ts = ap (λ (x : Judgement). if m.is_static then Breaks 33 else x) (arguments_rule_same ts m)

  super_same : (n : List ℕ) (ts : List JavaType) → super_rule (elsewhere b s) n ts ≡ super_rule s n ts
  super_same n ts = ap (λ (x : Judgement). ask (not s.is_static) 5 x) (above_same (option_and_then (λ c. method_named s.table c n) (super_class s)) ts)

  method_same : (m : Option Method) (ts : List JavaType) → method_rule (elsewhere b s) m ts ≡ method_rule s m ts
  method_same None ts = refl
  method_same (Some m) ts = arguments_rule_same ts m

  collection_same : (is_list : Bool) (t : JavaType) (n : List ℕ) (ts : List JavaType) → Rattle.kr_types_meaning.specs.Rules.collection_rule (elsewhere b s) is_list t n ts ≡ Rattle.kr_types_meaning.specs.Rules.collection_rule s is_list t n ts
  collection_same is_list t n [] = refl
  collection_same is_list t n (x ∷ []) = refl
  collection_same is_list t n (x ∷ y ∷ xs) = refl

  object_call_same : (n : List ℕ) (t : JavaType) (ts : List JavaType) → object_call_rule (elsewhere b s) n t ts ≡ object_call_rule s n t ts
  object_call_same n (ClassType c) ts = method_same (method_named s.table c n) ts
  object_call_same n (SetType t) ts = collection_same false t n ts
  object_call_same n (ListType t) ts = collection_same true t n ts
  object_call_same n _ ts = refl

  access_same : (n : List ℕ) (t : JavaType) → access_rule (elsewhere b s) n t ≡ access_rule s n t
  access_same n (ClassType c) = refl
  access_same n (ArrayType t) = refl
  access_same n _ = refl

  fits_same : (t : JavaType) (ts : List JavaType) → creation_fits (elsewhere b s) t ts ≡ creation_fits s t ts
  fits_same (ClassType c) ts = arguments_same ts (constructor_parameters s.table c)
  fits_same (SetType t) ts = refl
  fits_same (ListType t) ts = refl
  fits_same _ ts = refl

  creation_same : (t : JavaType) (ts : List JavaType) → creation_rule (elsewhere b s) t ts ≡ creation_rule s t ts
  creation_same t ts = ap (λ (x : Bool). ask x 26 (ask (Rattle.kr_types_meaning.specs.Rules.is_code s.part) 39 (Fits (Value t)))) (fits_same t ts)

  kind_same : (o : OperatorKind) (t u : JavaType) → kind_rule (elsewhere b s) o t u ≡ kind_rule s o t u
  kind_same Equality t u = refl
  kind_same _ t u = refl

  operator_same : (o : BinaryOperator) (t u : JavaType) → operator_rule (elsewhere b s) o t u ≡ operator_rule s o t u
  operator_same o t u = kind_same (kind_of o) t u

  compound_same : (o : BinaryOperator) (x : Typed) (t u : JavaType) → compound_rule (elsewhere b s) o x t u ≡ compound_rule s o x t u
  compound_same o x t u = ap (λ (v : Judgement). ask (not (is_broken v)) 17 (written_rule s x t)) (operator_same o t u)

  -- ---- rules on the types of parts

  one_same : (p : Place) (f g : JavaType → Judgement) (x y : Judged) → ((t : JavaType) → f t ≡ g t) → x.typed ≡ y.typed → (judge p (on_one f x.typed) x.faults).typed ≡ (judge p (on_one g y.typed) y.faults).typed
  one_same p f g x y h e = same_judge p (on_one f x.typed) (on_one g y.typed) x.faults y.faults (go x.typed ∙ ap (λ (z : Typed). on_one g z) e)
    where
      go : (z : Typed) → on_one f z ≡ on_one g z
      go (Value t) = h t
      go (Variable t) = h t
      go (Values ts) = refl
      go Untyped = refl

  list_same : (p : Place) (f g : List JavaType → Judgement) (x y : Judged) → ((ts : List JavaType) → f ts ≡ g ts) → x.typed ≡ y.typed → (judge p (on_list f x.typed) x.faults).typed ≡ (judge p (on_list g y.typed) y.faults).typed
  list_same p f g x y h e = same_judge p (on_list f x.typed) (on_list g y.typed) x.faults y.faults (go x.typed ∙ ap (λ (z : Typed). on_list g z) e)
    where
      go : (z : Typed) → on_list f z ≡ on_list g z
      go (Values ts) = h ts
      go (Value t) = refl
      go (Variable t) = refl
      go Untyped = refl

  on_one_same : (f g : JavaType → Judgement) (x : Typed) → ((t : JavaType) → f t ≡ g t) → on_one f x ≡ on_one g x
  on_one_same f g (Value t) h = h t
  on_one_same f g (Variable t) h = h t
  on_one_same f g (Values ts) h = refl
  on_one_same f g Untyped h = refl

  on_list_same : (f g : List JavaType → Judgement) (x : Typed) → ((ts : List JavaType) → f ts ≡ g ts) → on_list f x ≡ on_list g x
  on_list_same f g (Values ts) h = h ts
  on_list_same f g (Value t) h = refl
  on_list_same f g (Variable t) h = refl
  on_list_same f g Untyped h = refl

  two_same : (p : Place) (f g : JavaType → JavaType → Judgement) (x y u v : Judged) (xs ys : List Fault) → ((t r : JavaType) → f t r ≡ g t r) → x.typed ≡ y.typed → u.typed ≡ v.typed → (judge p (on_two f x.typed u.typed) xs).typed ≡ (judge p (on_two g y.typed v.typed) ys).typed
  two_same p f g x y u v xs ys h e k =
      same_judge p (on_two f x.typed u.typed) (on_two g y.typed v.typed) xs ys
      (on_one_same (λ a. on_one (f a) u.typed) (λ a. on_one (g a) u.typed) x.typed (λ a. on_one_same (f a) (g a) u.typed (λ r. h a r)) ∙ (ap (λ (z : Typed). on_two g z u.typed) e ∙ ap (λ (z : Typed). on_two g y.typed z) k))

  one_and_list_same : (p : Place) (f g : JavaType → List JavaType → Judgement) (x y u v : Judged) (xs ys : List Fault) → ((t : JavaType) (ts : List JavaType) → f t ts ≡ g t ts) → x.typed ≡ y.typed → u.typed ≡ v.typed → (judge p (on_one (λ a. on_list (f a) u.typed) x.typed) xs).typed ≡ (judge p (on_one (λ a. on_list (g a) v.typed) y.typed) ys).typed
  one_and_list_same p f g x y u v xs ys h e k =
      same_judge p (on_one (λ a. on_list (f a) u.typed) x.typed) (on_one (λ a. on_list (g a) v.typed) y.typed) xs ys
      (on_one_same (λ a. on_list (f a) u.typed) (λ a. on_list (g a) u.typed) x.typed (λ a. on_list_same (f a) (g a) u.typed (λ ts. h a ts)) ∙ (ap (λ (z : Typed). on_one (λ a. on_list (g a) z) x.typed) k ∙ ap (λ (z : Typed). on_one (λ a. on_list (g a) v.typed) z) e))

  class_same : (e : Tree) → class_before (elsewhere b s) e ≡ class_before s e
  class_same (trees.Variable p n) = refl
  class_same _ = refl

  accessed : (p : Place) (n : List ℕ) (k : Option ℕ) (x y : Judged) → x.typed ≡ y.typed → (field_of (elsewhere b s) p n k x).typed ≡ (field_of s p n k y).typed
  accessed p n (Some k) x y e = refl
  accessed p n None x y e = one_same p (access_rule (elsewhere b s) n) (access_rule s n) x y (access_same n) e

  called : (p : Place) (n : List ℕ) (k : Option ℕ) (x y xs ys : Judged) → x.typed ≡ y.typed → xs.typed ≡ ys.typed → (method_of (elsewhere b s) p n k x xs).typed ≡ (method_of s p n k y ys).typed
  called p n (Some k) x y xs ys e f = list_same p (static_rule (elsewhere b s) (method_named s.table k n)) (static_rule s (method_named s.table k n)) xs ys (static_same (method_named s.table k n)) f
  called p n None x y xs ys e f = one_and_list_same p (object_call_rule (elsewhere b s) n) (object_call_rule s n) x y xs ys _ _ (object_call_same n) e f

operand_same : (b : Bool) (o : UnaryOperator) (s : Scope) → operand o (elsewhere b s) ≡ elsewhere b (operand o s)
operand_same b unaries.Minus s = refl
operand_same b unaries.Plus s = refl
operand_same b unaries.Complement s = refl
operand_same b unaries.Not s = refl

typed_same : (b : Bool) (s : Scope) (t : Tree) → (judged (elsewhere b s) t).typed ≡ (judged s t).typed
unfolding judged
typed_same b s trees.Nil = refl
typed_same b s (trees.Cons a e) =
    ap (λ (x : Scope). joined (judged (elsewhere b s) a).typed (judged x e).typed) (after_elsewhere b s a) ∙ (ap (λ (x : Typed). joined (judged (elsewhere b s) a).typed x) (typed_same b (after s a) e) ∙ ap (λ (x : Typed). joined x (judged (after s a) e).typed) (typed_same b s a))
typed_same b s (trees.PrimitiveType p k) = refl
typed_same b s (trees.NamedType p n) = refl
typed_same b s (trees.QualifiedType p o n) = refl
typed_same b s (trees.GenericType p h a) = one_same b s p (λ t. type_rule (applied (written s h) t)) (λ t. type_rule (applied (written s h) t)) (judged (elsewhere b s) a) (judged s a) (λ t. refl) (typed_same b s a)
typed_same b s (trees.DiamondType p h) = refl
typed_same b s (trees.ArrayType p e) = one_same b s p array_rule array_rule (judged (elsewhere b s) e) (judged s e) (λ t. refl) (typed_same b s e)
typed_same b s (trees.Number p n) = refl
typed_same b s (trees.LongNumber p n) = refl
typed_same b s (trees.Truth p x) = refl
typed_same b s (trees.Null p) = refl
typed_same b s (trees.This p) = refl
typed_same b s (trees.Variable p n) = variable (meant s n)
  where
    variable : (m : Rattle.kr_types_meaning.specs.Scopes.Meant) → (leaf p (Rattle.kr_types_meaning.specs.Rules.name_rule (elsewhere b s) m)).typed ≡ (leaf p (Rattle.kr_types_meaning.specs.Rules.name_rule s m)).typed
    variable (Rattle.kr_types_meaning.specs.Scopes.LocalName k t) = refl
    variable (Rattle.kr_types_meaning.specs.Scopes.FieldName f) = refl
    variable Rattle.kr_types_meaning.specs.Scopes.NoName = refl
typed_same b s (trees.FieldAccess p e n) =
    ap (λ (c : Option ℕ). (field_of (elsewhere b s) p n c (judged (value (elsewhere b s)) e)).typed) (class_same b s e) ∙ accessed b s p n (class_before s e) (judged (value (elsewhere b s)) e) (judged (value s) e) (typed_same b (value s) e)
typed_same b s (trees.ArrayAccess p a i) = two_same b s p element_rule element_rule (judged (value (elsewhere b s)) a) (judged (value s) a) (judged (value (elsewhere b s)) i) (judged (value s) i) ((judged (value (elsewhere b s)) a).faults ++ (judged (value (elsewhere b s)) i).faults) ((judged (value s) a).faults ++ (judged (value s) i).faults) (λ t r. refl) (typed_same b (value s) a) (typed_same b (value s) i)
typed_same b s (trees.Call p n es) = list_same b s p (call_rule (elsewhere b s) (method_meant s n)) (call_rule s (method_meant s n)) (judged (value (elsewhere b s)) es) (judged (value s) es) (call_same b s (method_meant s n)) (typed_same b (value s) es)
typed_same b s (trees.MethodCall p e n es) =
    ap (λ (c : Option ℕ). (method_of (elsewhere b s) p n c (judged (value (elsewhere b s)) e) (judged (value (elsewhere b s)) es)).typed) (class_same b s e)
    ∙ called b s p n (class_before s e) (judged (value (elsewhere b s)) e) (judged (value s) e) (judged (value (elsewhere b s)) es) (judged (value s) es) (typed_same b (value s) e) (typed_same b (value s) es)
typed_same b s (trees.SuperCall p n es) = list_same b s p (super_rule (elsewhere b s) n) (super_rule s n) (judged (value (elsewhere b s)) es) (judged (value s) es) (super_same b s n) (typed_same b (value s) es)
typed_same b s (trees.ObjectCreation p t es) = one_and_list_same b s p (creation_rule (elsewhere b s)) (creation_rule s) (judged (elsewhere b s) t) (judged s t) (judged (value (elsewhere b s)) es) (judged (value s) es) _ _ (creation_same b s) (typed_same b s t) (typed_same b (value s) es)
typed_same b s (trees.ArrayCreation p t e) = two_same b s p (array_creation_rule (elsewhere b s)) (array_creation_rule s) (judged (elsewhere b s) t) (judged s t) (judged (value (elsewhere b s)) e) (judged (value s) e) _ _ (λ t r. refl) (typed_same b s t) (typed_same b (value s) e)
typed_same b s (trees.Unary p o e) =
    one_same b s p (unary_rule o) (unary_rule o) (judged (operand o (elsewhere b s)) e) (judged (operand o s) e) (λ t. refl) (ap (λ (x : Scope). (judged x e).typed) (operand_same b o s) ∙ typed_same b (operand o s) e)
typed_same b s (trees.Step p o e) =
    let h = typed_same b (value s) e in
    one_same b s p (step_rule (elsewhere b s) (judged (value (elsewhere b s)) e).typed) (step_rule s (judged (value s) e).typed) (judged (value (elsewhere b s)) e) (judged (value s) e) (λ t. ap (λ (x : Typed). step_rule s x t) h) h
typed_same b s (trees.Binary p o a e) =
    two_same b s p (operator_rule (elsewhere b s) o) (operator_rule s o) (judged (value (elsewhere b s)) a) (judged (value s) a) (judged (value (elsewhere b s)) e) (judged (value s) e) _ _ (operator_same b s o) (typed_same b (value s) a) (typed_same b (value s) e)
typed_same b s (trees.InstanceOf p e t) = two_same b s p (instance_rule (elsewhere b s)) (instance_rule s) (judged (value (elsewhere b s)) e) (judged (value s) e) (judged (elsewhere b s) t) (judged s t) _ _ (λ t r. refl) (typed_same b (value s) e) (typed_same b s t)
typed_same b s (trees.Conditional p c a e) =
    let x = typed_same b (value s) c in
    let y = typed_same b (value s) a in
    let z = typed_same b (value s) e in
    same_judge p
    (on_one (λ t. on_two (choice_rule (elsewhere b s) t) (judged (value (elsewhere b s)) a).typed (judged (value (elsewhere b s)) e).typed) (judged (value (elsewhere b s)) c).typed)
    (on_one (λ t. on_two (choice_rule s t) (judged (value s) a).typed (judged (value s) e).typed) (judged (value s) c).typed) _ _
    (ap (λ (q : Typed). on_one (λ t. on_two (choice_rule s t) (judged (value (elsewhere b s)) a).typed (judged (value (elsewhere b s)) e).typed) q) x
    ∙ (ap (λ (q : Typed). on_one (λ t. on_two (choice_rule s t) q (judged (value (elsewhere b s)) e).typed) (judged (value s) c).typed) y
    ∙ ap (λ (q : Typed). on_one (λ t. on_two (choice_rule s t) (judged (value s) a).typed q) (judged (value s) c).typed) z))
typed_same b s (trees.Cast p t e) = two_same b s p (cast_rule (elsewhere b s)) (cast_rule s) (judged (elsewhere b s) t) (judged s t) (judged (value (elsewhere b s)) e) (judged (value s) e) _ _ (λ t r. refl) (typed_same b s t) (typed_same b (value s) e)
typed_same b s (trees.Assignment p a e) =
    let h = typed_same b (value s) a in
    two_same b s p (assignment_rule (elsewhere b s) (judged (value (elsewhere b s)) a).typed) (assignment_rule s (judged (value s) a).typed) (judged (value (elsewhere b s)) a) (judged (value s) a) (judged (value (elsewhere b s)) e) (judged (value s) e) _ _ (λ t r. ap (λ (x : Typed). assignment_rule s x t r) h) h (typed_same b (value s) e)
typed_same b s (trees.CompoundAssignment p o a e) =
    let h = typed_same b (value s) a in
    two_same b s p (compound_rule (elsewhere b s) o (judged (value (elsewhere b s)) a).typed) (compound_rule s o (judged (value s) a).typed) (judged (value (elsewhere b s)) a) (judged (value s) a) (judged (value (elsewhere b s)) e) (judged (value s) e) _ _
    (λ t r. compound_same b s o (judged (value (elsewhere b s)) a).typed t r ∙ ap (λ (x : Typed). compound_rule s o x t r) h) h (typed_same b (value s) e)
typed_same b s (trees.Result p) = refl
typed_same b s (trees.Old p e) = one_same b s p (old_rule (elsewhere b s)) (old_rule s) (judged (in_old (elsewhere b s)) e) (judged (in_old s) e) (λ t. refl) (typed_same b (in_old s) e)
typed_same b s (trees.Empty p) = refl
typed_same b s (trees.Block p x) = refl
typed_same b s (trees.Local p t ds) = refl
typed_same b s (trees.Declarator p n e) =
    maybe_pair p (declaration_rule (elsewhere b s) (locals_only s.declaring) p n) (declaration_rule s s.declaring p n) (judged (bind_as (locals_only s.declaring) n (elsewhere b s)) e).typed (judged (bind_as s.declaring n s) e).typed (judged (bind_as (locals_only s.declaring) n (elsewhere b s)) e).faults (judged (bind_as s.declaring n s) e).faults (declaration_bare (elsewhere b s) (locals_only s.declaring) p n) (declaration_bare s s.declaring p n)
typed_same b s (trees.ExpressionStatement p e) = refl
typed_same b s (trees.Return p e) = maybe_pair p (return_rule (elsewhere b s)) (return_rule s) (judged (elsewhere b s) e).typed (judged s e).typed (judged (elsewhere b s) e).faults (judged s e).faults (return_bare (elsewhere b s)) (return_bare s)
typed_same b s (trees.Break p) = both_bare p p (jump_rule (elsewhere b s)) (jump_rule s) [] [] (ask_bare b 31 fine refl) (ask_bare s.is_in_loop 31 fine refl)
typed_same b s (trees.Continue p) = both_bare p p (jump_rule (elsewhere b s)) (jump_rule s) [] [] (ask_bare b 31 fine refl) (ask_bare s.is_in_loop 31 fine refl)
typed_same b s (trees.IfThen p c a) = one_pair p condition_rule condition_rule (judged (elsewhere b s) c).typed (judged s c).typed ((judged (elsewhere b s) c).faults ++ (judged (elsewhere b s) a).faults) ((judged s c).faults ++ (judged s a).faults) condition_bare condition_bare
typed_same b s (trees.IfElse p c a e) = one_pair p condition_rule condition_rule (judged (elsewhere b s) c).typed (judged s c).typed ((judged (elsewhere b s) c).faults ++ ((judged (elsewhere b s) a).faults ++ (judged (elsewhere b s) e).faults)) ((judged s c).faults ++ ((judged s a).faults ++ (judged s e).faults)) condition_bare condition_bare
typed_same b s (trees.While p c a) = one_pair p condition_rule condition_rule (judged (elsewhere b s) c).typed (judged s c).typed ((judged (elsewhere b s) c).faults ++ (judged (in_loop (elsewhere b s)) a).faults) ((judged s c).faults ++ (judged (in_loop s) a).faults) condition_bare condition_bare
typed_same b s (trees.Do p a c) = one_pair p condition_rule condition_rule (judged (elsewhere b s) c).typed (judged s c).typed ((judged (elsewhere b s) c).faults ++ (judged (in_loop (elsewhere b s)) a).faults) ((judged s c).faults ++ (judged (in_loop s) a).faults) condition_bare condition_bare
typed_same b s (trees.For p i c u a) =
    one_pair p condition_rule condition_rule (judged (after (elsewhere b s) i) c).typed (judged (after s i) c).typed
    ((judged (after (elsewhere b s) i) c).faults ++ ((judged (elsewhere b s) i).faults ++ (judged (statement (after (elsewhere b s) i)) u).faults ++ (judged (in_loop (after (elsewhere b s) i)) a).faults))
    ((judged (after s i) c).faults ++ ((judged s i).faults ++ (judged (statement (after s i)) u).faults ++ (judged (in_loop (after s i)) a).faults)) condition_bare condition_bare
typed_same b s (trees.Throw p e) = one_pair p (throw_rule (elsewhere b s)) (throw_rule s) (judged (elsewhere b s) e).typed (judged s e).typed (judged (elsewhere b s) e).faults (judged s e).faults (throw_bare (elsewhere b s)) (throw_bare s)
typed_same b s (trees.Try p x cs) = refl
typed_same b s (trees.Catch p d x) = both_bare p p (caught_rule (elsewhere b s) 42 (caught_type (elsewhere b s) d)) (caught_rule s 42 (caught_type s d)) _ _ (caught_bare (elsewhere b s) 42 (caught_type (elsewhere b s) d)) (caught_bare s 42 (caught_type s d))
typed_same b s (trees.ConstructorCall p es) = list_pair p (super_constructor_rule (elsewhere b s)) (super_constructor_rule s) (judged (elsewhere b s) es).typed (judged s es).typed (judged (elsewhere b s) es).faults (judged s es).faults (super_bare (elsewhere b s)) (super_bare s)
typed_same b s (trees.Class p n e ms) = refl
typed_same b s (trees.Field p st fi t ds) = refl
typed_same b s (trees.Method p st n g x) = refl
typed_same b s (trees.Signature p r ps cs) = refl
typed_same b s (trees.Parameter p t n) = both_bare p p (parameter_rule (elsewhere b s) n) (parameter_rule s n) (judged (elsewhere b s) t).faults (judged s t).faults (parameter_bare (elsewhere b s) n) (parameter_bare s n)
typed_same b s (trees.Constructor p ps call x) =
    maybe_pair p (λ t. implied_rule (elsewhere b s)) (λ t. implied_rule s) (judged (after (elsewhere b s) ps) call).typed (judged (after s ps) call).typed
    ((judged (elsewhere b s) ps).faults ++ (judged (after (elsewhere b s) ps) call).faults ++ (judged (after (elsewhere b s) ps) x).faults) ((judged s ps).faults ++ (judged (after s ps) call).faults ++ (judged (after s ps) x).faults) (λ t. implied_bare (elsewhere b s)) (λ t. implied_bare s)
typed_same b s (trees.Requires p e) = one_pair p (contract_rule (elsewhere b s)) (contract_rule s) (judged (in_contract Requiring (elsewhere b s)) e).typed (judged (in_contract Requiring s) e).typed (judged (in_contract Requiring (elsewhere b s)) e).faults (judged (in_contract Requiring s) e).faults (contract_bare (elsewhere b s)) (contract_bare s)
typed_same b s (trees.Ensures p e) = one_pair p (contract_rule (elsewhere b s)) (contract_rule s) (judged (in_contract Ensuring (elsewhere b s)) e).typed (judged (in_contract Ensuring s) e).typed (judged (in_contract Ensuring (elsewhere b s)) e).faults (judged (in_contract Ensuring s) e).faults (contract_bare (elsewhere b s)) (contract_bare s)
typed_same b s (trees.Signals p d e) =
    one_pair p (λ t. then_rule (contract_rule (elsewhere b s) t) (caught_rule (elsewhere b s) 43 (caught_type (elsewhere b s) d))) (λ t. then_rule (contract_rule s t) (caught_rule s 43 (caught_type s d)))
    (judged (in_signals d (elsewhere b s)) e).typed (judged (in_signals d s) e).typed ((judged (elsewhere b s) d).faults ++ (judged (in_signals d (elsewhere b s)) e).faults) ((judged s d).faults ++ (judged (in_signals d s) e).faults)
    (λ t. then_bare (contract_rule (elsewhere b s) t) (caught_rule (elsewhere b s) 43 (caught_type (elsewhere b s) d)) (caught_bare (elsewhere b s) 43 (caught_type (elsewhere b s) d)))
    (λ t. then_bare (contract_rule s t) (caught_rule s 43 (caught_type s d)) (caught_bare s 43 (caught_type s d)))

bind_running : (s : Scope) (n : List ℕ) → bind_as (locals_only s.declaring) n (running s) ≡ running (bind_as s.declaring n s)
bind_running s n = go s.declaring refl
  where
    go : (d : Declaring) → s.declaring ≡ d → bind_as (locals_only d) n (running s) ≡ running (bind_as d n s)
    go Locals e = ap (λ (x : JavaType). bind_local n x (running s)) (ap (λ (x : Declaring). local_type x s.declared) e)
    go Fields e = refl
    go (Constants f) e = refl

after_running : (s : Scope) (t : Tree) → after (running s) t ≡ running (after s t)
after_running s (trees.Cons a e) = ap (λ (x : Scope). after x e) (after_running s a) ∙ after_running (after s a) e
after_running s (trees.Local p t ds) = after_running (declaring Locals t s) ds
after_running s (trees.Declarator p n e) = bind_running s n
after_running s (trees.Parameter p t n) = refl
after_running s (trees.Signature p r ps cs) = ap (λ (x : Scope). record x { result = written s r }) (after_running s ps)
after_running s _ = refl

pub are_same : (b : Bool) (s : Scope) (t : Tree) → AreSame b s t
are_same b s t = record { typed = typed_same b s t; type = ap type_in (typed_same b (value s) t); scope = after_elsewhere b s t }

-- an operand has one type wherever code runs
pub operand_running : (s : Scope) (o : UnaryOperator) (e : Tree) → type_in (judged (operand o (running s)) e).typed ≡ type_in (judged (operand o s) e).typed
operand_running s unaries.Minus e = ap type_in (typed_same false (operand unaries.Minus s) e)
operand_running s unaries.Plus e = ap type_in (typed_same false (value s) e)
operand_running s unaries.Complement e = ap type_in (typed_same false (value s) e)
operand_running s unaries.Not e = ap type_in (typed_same false (value s) e)

pub running_same : (s : Scope) (t : Tree) → IsSameRunning s t
running_same s t = record { type = ap type_in (typed_same false (value s) t); scope = after_running s t }
