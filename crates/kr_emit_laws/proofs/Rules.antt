-- Rules that hold of a node hold of it in the larger table.
use Rattle.std.proofs.Common.{◌≡◌, refl, sym, ap, ◌∙◌, subst, ℕ, Bool, true, false, not, ◌&&◌, ◌||◌, List, [], ◌∷◌, Option, Some, None}
use Rattle.std.specs.Prelude.{bytes_eq, codes, flat_map, option_and_then, option_to_list, is_some, if◌then◌else◌}
use Rattle.kr_base.specs.declared.place.Place.{Place}
use Rattle.kr_ast.specs.Tree.{Tree}
use Rattle.kr_ast.specs.declared.node.BinaryOperator.{BinaryOperator}
use Rattle.kr_classes_table.specs.Types.{JavaType, BooleanType, NullType, ClassType, ArrayType, SetType, ListType, InferredType, UnknownType, AppliedType, is_known, is_element, is_reference, is_collection}
use Rattle.kr_classes_table.specs.Table.{Table, Parameter, Method, applied, class_or, type_named, super_of, is_subtype, is_widened, is_assignable, are_related, field_named, method_named, constructor_parameters}
use Rattle.kr_classes_table.specs.Constants.{constant_only, or_else, outer_class, field_meant, value_at}
use Rattle.kr_types_meaning.specs.declared.operators.OperatorKind.{OperatorKind}
use Rattle.kr_types_meaning.specs.declared.operators.OperatorKind.TheVariants.{Arithmetic, Shift, Comparison, Equality, Bitwise, Logical}
use Rattle.kr_types_meaning.specs.Scopes.{Scope, Declaring, Locals, Fields, Constants, Meant, LocalName, FieldName, NoName, meant, meant_by, static_only, method_meant, super_parameters}
use Rattle.kr_types_meaning.specs.Rules.{Typed, Value, Judgement, Fits, Breaks, ask, fine, takes, is_boolean, related_references, arguments_fit, is_code, is_new, is_simple, is_broken, type_rule, diamond_rule, name_rule, kind_of, kind_rule, operator_rule, boolean_if, both_boolean, choice_rule, cast_rule, instance_rule, written_rule, assignment_rule, compound_rule, access_rule, field_rule, constant_rule, result_rule, arguments_rule, call_rule, static_rule, above_rule, super_rule, member_call_rule, collection_rule, method_rule, object_call_rule, creation_fits, creation_rule, return_rule, initial_fits, declaration_rule, parameter_rule, super_constructor_rule, implied_rule, throwable, throw_rule, caught_rule, then_rule}
use Rattle.kr_types_meaning.specs.Promotion.{are_numbers}
use Rattle.kr_laws_never_stuck.proofs.Declared.{names_equal}
use Rattle.kr_emit_laws.specs.Larger.{IsLarger}
use Rattle.kr_emit_laws.proofs.TypingNames.{IsFree, known_same, head_same}
use Rattle.kr_emit_laws.proofs.TypingLines.{each_same}

-- a scope in a table
abbrev pub at : Table → Scope → Scope
at t s = record s { table = t }

-- the second judgement is the first one where that gives a type
pub record Keeps (v w : Judgement) : Type 0 where
  pub kept : (x : Typed) → v ≡ Fits x → w ≡ Fits x

pub equal : (v w : Judgement) → w ≡ v → Keeps v w
equal v w e = record { kept = λ x q. e ∙ q }

pub broken : (r : ℕ) (w : Judgement) → Keeps (Breaks r) w
broken r w = record { kept = λ x q. absurd (cc (q)) }

pub asked : (b : Bool) (r : ℕ) (v w : Judgement) → Keeps v w → Keeps (ask b r v) (ask b r w)
asked true r v w h = h
asked false r v w h = broken r (Breaks r)

pub then_keeps : (v w x : Judgement) → Keeps w x → Keeps (then_rule v w) (then_rule v x)
then_keeps (Fits y) w x k = k
then_keeps (Breaks r) w x k = broken r (Breaks r)

-- ---- types

pub type_keeps : (a b : JavaType) → (is_known a ≡ true → b ≡ a) → Keeps (type_rule a) (type_rule b)
type_keeps a b h = go (is_known a) refl
  where
    go : (x : Bool) → is_known a ≡ x → Keeps (ask x 1 (Fits (Value a))) (type_rule b)
    go true q = let e = h q in equal (Fits (Value a)) (type_rule b) (ap type_rule e ∙ ap (λ x. ask x 1 (Fits (Value a))) q)
    go false q = broken 1 (type_rule b)

module _ (t u : Table) (w : List ℕ) (free : IsFree w) (g : IsLarger t u w) where
  pub diamond_keeps : (h : Tree) → Keeps (diamond_rule (applied (type_named t.headings h) InferredType)) (diamond_rule (applied (type_named u.headings h) InferredType))
  diamond_keeps h = go (type_named t.headings h) refl
    where
      found : (n : List ℕ) → bytes_eq w n ≡ false → type_named t.headings h ≡ UnknownType [] n → Keeps (diamond_rule (applied (UnknownType [] n) InferredType)) (diamond_rule (applied (type_named u.headings h) InferredType))
      found n f q = equal _ _ (ap (λ z. diamond_rule (applied z InferredType)) (head_same t.headings u.headings w free g.names h n f q))

      named : (n : List ℕ) → type_named t.headings h ≡ UnknownType [] n → (b c : Bool) → bytes_eq n (codes "HashSet") ≡ b → bytes_eq n (codes "LinkedList") ≡ c → Keeps (diamond_rule (applied (UnknownType [] n) InferredType)) (diamond_rule (applied (type_named u.headings h) InferredType))
      named n q true c e f = found n (ap (bytes_eq w) (names_equal n (codes "HashSet") e) ∙ free.set) q
      named n q false true e f = found n (ap (bytes_eq w) (names_equal n (codes "LinkedList") f) ∙ free.list) q
      named n q false false e f =
          subst (λ v. Keeps v (diamond_rule (applied (type_named u.headings h) InferredType)))
          (sym (ap (λ z. diamond_rule (if z then SetType InferredType else if bytes_eq n (codes "LinkedList") then ListType InferredType else AppliedType (UnknownType [] n) InferredType)) e
          ∙ ap (λ z. diamond_rule (if z then ListType InferredType else AppliedType (UnknownType [] n) InferredType)) f))
          (broken 1 (diamond_rule (applied (type_named u.headings h) InferredType)))

      go : (x : JavaType) → type_named t.headings h ≡ x → Keeps (diamond_rule (applied x InferredType)) (diamond_rule (applied (type_named u.headings h) InferredType))
      go (ClassType c) q = equal _ _ (ap (λ z. diamond_rule (applied z InferredType)) (known_same t.headings u.headings w free g.names h (ap is_known q) ∙ q))
      go (UnknownType [] n) q = named n q (bytes_eq n (codes "HashSet")) (bytes_eq n (codes "LinkedList")) refl refl
      go (UnknownType (o ∷ os) n) q = broken 1 _
      go x q = broken 1 _

  -- ---- subtypes

  subtype_same : (a b : JavaType) → is_subtype u a b ≡ is_subtype t a b
  subtype_same NullType b = refl
  subtype_same (ClassType c) (ClassType d) = g.below c d
  subtype_same (SetType InferredType) (SetType b) = refl
  subtype_same (ListType InferredType) (ListType b) = refl
  subtype_same a b = refl

  pub assignable_same : (a b : JavaType) → is_assignable u a b ≡ is_assignable t a b
  assignable_same a b = ap (λ z. is_widened a b || z) (subtype_same a b)

  pub related_same : (a b : JavaType) → are_related u a b ≡ are_related t a b
  related_same a b = ap (λ z. z || is_assignable u b a) (assignable_same a b) ∙ ap (λ z. is_assignable t a b || z) (assignable_same b a)

  module _ (s : Scope) where
    takes_same : (to from : JavaType) → takes (at u s) to from ≡ takes (at t s) to from
    takes_same to from = ap (λ z. not (is_known to) || z) (assignable_same from to)

    -- ---- what is thrown

    throwable_same : throwable (at u s) ≡ throwable (at t s)
    throwable_same = ap (λ z. class_or z (UnknownType [] (codes "Throwable"))) (g.names.other (codes "Throwable") free.throwable)

    thrown_same : (a : JavaType) → is_assignable u a (throwable (at u s)) ≡ is_assignable t a (throwable (at t s))
    thrown_same a = ap (is_assignable u a) throwable_same ∙ assignable_same a (throwable (at t s))

    pub throw_keeps : (a : JavaType) → Keeps (throw_rule (at t s) a) (throw_rule (at u s) a)
    throw_keeps a = equal _ _ (ap (λ z. ask z 41 fine) (thrown_same a))

    pub caught_keeps : (r : ℕ) (a : JavaType) → Keeps (caught_rule (at t s) r a) (caught_rule (at u s) r a)
    caught_keeps r a = equal _ _ (ap (λ z. ask (not (is_known a) || z) r fine) (thrown_same a))

    references_same : (a b : JavaType) → related_references (at u s) a b ≡ related_references (at t s) a b
    references_same a b = ap (λ z. is_reference a && is_reference b && z) (related_same a b)

    fit_same : (ts : List JavaType) (ps : List Parameter) → arguments_fit (at u s) ts ps ≡ arguments_fit (at t s) ts ps
    fit_same [] [] = refl
    fit_same (a ∷ more) (p ∷ ps) = ap (λ z. z && arguments_fit (at u s) more ps) (takes_same p.type a) ∙ ap (λ z. takes (at t s) p.type a && z) (fit_same more ps)
    fit_same [] (p ∷ ps) = refl
    fit_same (a ∷ more) [] = refl

    -- ---- names

    outer_constants : (n : List ℕ) (x : Option ℕ) → option_and_then (λ o. option_and_then constant_only (field_named u o n)) x ≡ option_and_then (λ o. option_and_then constant_only (field_named t o n)) x
    outer_constants n None = refl
    outer_constants n (Some o) = ap (option_and_then constant_only) (g.fields o n)

    pub field_meant_same : (c : ℕ) (n : List ℕ) → field_meant u c n ≡ field_meant t c n
    field_meant_same c n =
        ap (λ z. or_else z (option_and_then (λ o. option_and_then constant_only (field_named u o n)) (outer_class u c))) (g.fields c n)
        ∙ (ap (λ z. or_else (field_named t c n) (option_and_then (λ o. option_and_then constant_only (field_named u o n)) z)) (g.outer c)
        ∙ ap (λ z. or_else (field_named t c n) z) (outer_constants n (outer_class t c)))

    pub meant_same : (n : List ℕ) → meant (at u s) n ≡ meant (at t s) n
    meant_same n = ap (λ z. meant_by s.locals z n) (field_meant_same s.class n)

    name_scope : (m : Meant) → name_rule (at u s) m ≡ name_rule (at t s) m
    name_scope (LocalName k v) = refl
    name_scope (FieldName f) = refl
    name_scope NoName = refl

    pub name_keeps : (n : List ℕ) → Keeps (name_rule (at t s) (meant (at t s) n)) (name_rule (at u s) (meant (at u s) n))
    name_keeps n = equal _ _ (ap (name_rule (at u s)) (meant_same n) ∙ name_scope (meant (at t s) n))

    -- ---- operators

    kind_same : (k : OperatorKind) (a b : JavaType) → kind_rule (at u s) k a b ≡ kind_rule (at t s) k a b
    kind_same Arithmetic a b = refl
    kind_same Shift a b = refl
    kind_same Comparison a b = refl
    kind_same Equality a b = ap (λ z. boolean_if (are_numbers a b || both_boolean a b || z) 10) (references_same a b)
    kind_same Bitwise a b = refl
    kind_same Logical a b = refl

    pub operator_same : (o : BinaryOperator) (a b : JavaType) → operator_rule (at u s) o a b ≡ operator_rule (at t s) o a b
    operator_same o a b = kind_same (kind_of o) a b

    pub operator_keeps : (o : BinaryOperator) (a b : JavaType) → Keeps (operator_rule (at t s) o a b) (operator_rule (at u s) o a b)
    operator_keeps o a b = equal _ _ (operator_same o a b)

    pub choice_keeps : (c a b : JavaType) → Keeps (choice_rule (at t s) c a b) (choice_rule (at u s) c a b)
    choice_keeps c a b = equal _ _
        (ap (λ z. ask (is_boolean c && z) 15 (Fits (Value (if is_assignable u a b then b else a)))) (related_same a b)
        ∙ ap (λ z. ask (is_boolean c && are_related t a b) 15 (Fits (Value (if z then b else a)))) (assignable_same a b))

    pub cast_keeps : (to from : JavaType) → Keeps (cast_rule (at t s) to from) (cast_rule (at u s) to from)
    cast_keeps to from = equal _ _ (ap (λ z. ask (are_numbers to from || both_boolean to from || (z && not (is_collection to) && not (is_collection from))) 20 (Fits (Value to))) (references_same from to))

    pub instance_keeps : (from to : JavaType) → Keeps (instance_rule (at t s) from to) (instance_rule (at u s) from to)
    instance_keeps from to = equal _ _ (ap (λ z. ask (is_element to && z) 21 (Fits (Value BooleanType))) (references_same from to))

    pub assignment_keeps : (x : Typed) (to from : JavaType) → Keeps (assignment_rule (at t s) x to from) (assignment_rule (at u s) x to from)
    assignment_keeps x to from = equal _ _ (ap (λ z. ask z 16 (written_rule (at t s) x to)) (assignable_same from to))

    pub compound_keeps : (o : BinaryOperator) (x : Typed) (to from : JavaType) → Keeps (compound_rule (at t s) o x to from) (compound_rule (at u s) o x to from)
    compound_keeps o x to from = equal _ _ (ap (λ z. ask (not (is_broken z)) 17 (written_rule (at t s) x to)) (operator_same o to from))

    -- ---- members

    pub access_keeps : (n : List ℕ) (a : JavaType) → Keeps (access_rule (at t s) n a) (access_rule (at u s) n a)
    access_keeps n (ClassType c) = equal _ _ (ap field_rule (g.fields c n))
    access_keeps n (ArrayType a) = equal _ _ refl
    access_keeps n a = equal _ _ refl

    pub constant_keeps : (c : ℕ) (n : List ℕ) → Keeps (constant_rule (field_named t c n)) (constant_rule (field_named u c n))
    constant_keeps c n = equal _ _ (ap constant_rule (g.fields c n))

    arguments_same : (ts : List JavaType) (m : Method) → arguments_rule (at u s) ts m ≡ arguments_rule (at t s) ts m
    arguments_same ts m = ap (λ z. ask z 24 (result_rule (at t s) m)) (fit_same ts m.parameters)

    outer_methods : (n : List ℕ) (m : Method) (x : Option ℕ) → option_and_then (λ o. option_and_then static_only (method_named t o n)) x ≡ Some m → option_and_then (λ o. option_and_then static_only (method_named u o n)) x ≡ Some m
    outer_methods n m None e = absurd (cc (e))
    outer_methods n m (Some o) e = go (method_named t o n) refl e
      where
        go : (x : Option Method) → method_named t o n ≡ x → option_and_then static_only x ≡ Some m → option_and_then static_only (method_named u o n) ≡ Some m
        go None q e = absurd (cc (e))
        go (Some k) q e = ap (option_and_then static_only) (g.methods o n k q) ∙ e

    pub method_kept : (n : List ℕ) (m : Method) → method_meant (at t s) n ≡ Some m → method_meant (at u s) n ≡ Some m
    method_kept n m e = go (method_named t s.class n) refl e
      where
        inner : (x : Option ℕ) → outer_class t s.class ≡ x → method_named t s.class n ≡ None → option_and_then (λ o. option_and_then static_only (method_named t o n)) x ≡ Some m
            → or_else (method_named u s.class n) (option_and_then (λ o. option_and_then static_only (method_named u o n)) (outer_class u s.class)) ≡ Some m
        inner None p q e = absurd (cc (e))
        inner (Some o) p q e =
            ap (λ z. or_else z (option_and_then (λ o. option_and_then static_only (method_named u o n)) (outer_class u s.class))) (g.inner s.class o n p q)
            ∙ (ap (option_and_then (λ o. option_and_then static_only (method_named u o n))) (g.outer s.class ∙ p) ∙ outer_methods n m (Some o) e)

        go : (x : Option Method) → method_named t s.class n ≡ x → or_else x (option_and_then (λ o. option_and_then static_only (method_named t o n)) (outer_class t s.class)) ≡ Some m
            → or_else (method_named u s.class n) (option_and_then (λ o. option_and_then static_only (method_named u o n)) (outer_class u s.class)) ≡ Some m
        go (Some k) q e = ap (λ z. or_else z (option_and_then (λ o. option_and_then static_only (method_named u o n)) (outer_class u s.class))) (g.methods s.class n k q) ∙ e
        go None q e = inner (outer_class t s.class) refl q e

    call_same : (x : Option Method) (ts : List JavaType) → call_rule (at u s) x ts ≡ call_rule (at t s) x ts
    call_same None ts = refl
    call_same (Some m) ts = ap (λ z. ask (m.is_static || not s.is_static) 5 z) (arguments_same ts m)

    static_same : (x : Option Method) (ts : List JavaType) → static_rule (at u s) x ts ≡ static_rule (at t s) x ts
    static_same None ts = refl
    static_same (Some m) ts = ap (λ z. ask m.is_static 24 z) (arguments_same ts m)

    above_same : (x : Option Method) (ts : List JavaType) → above_rule (at u s) x ts ≡ above_rule (at t s) x ts
    above_same None ts = refl
    above_same (Some m) ts = ap (λ z. if m.is_static then Breaks 33 else z) (arguments_same ts m)

    method_same : (x : Option Method) (ts : List JavaType) → method_rule (at u s) x ts ≡ method_rule (at t s) x ts
    method_same None ts = refl
    method_same (Some m) ts = arguments_same ts m

    -- a rule that is broken where there is no method
    found : (rule other : Option Method → Judgement) (r : ℕ) (x y : Option Method) → rule None ≡ Breaks r → ((z : Option Method) → other z ≡ rule z) → ((m : Method) → x ≡ Some m → y ≡ Some m) → Keeps (rule x) (other y)
    found rule other r None y b e h = subst (λ v. Keeps v (other y)) (sym b) (broken r (other y))
    found rule other r (Some m) y b e h = equal _ _ (ap other (h m refl) ∙ e (Some m))

    pub call_keeps : (n : List ℕ) (ts : List JavaType) → Keeps (call_rule (at t s) (method_meant (at t s) n) ts) (call_rule (at u s) (method_meant (at u s) n) ts)
    call_keeps n ts = found (λ x. call_rule (at t s) x ts) (λ x. call_rule (at u s) x ts) 24 (method_meant (at t s) n) (method_meant (at u s) n) refl (λ x. call_same x ts) (method_kept n)

    pub static_keeps : (c : ℕ) (n : List ℕ) (ts : List JavaType) → Keeps (static_rule (at t s) (method_named t c n) ts) (static_rule (at u s) (method_named u c n) ts)
    static_keeps c n ts = found (λ x. static_rule (at t s) x ts) (λ x. static_rule (at u s) x ts) 24 (method_named t c n) (method_named u c n) refl (λ x. static_same x ts) (g.methods c n)

    method_keeps : (c : ℕ) (n : List ℕ) (ts : List JavaType) → Keeps (method_rule (at t s) (method_named t c n) ts) (method_rule (at u s) (method_named u c n) ts)
    method_keeps c n ts = found (λ x. method_rule (at t s) x ts) (λ x. method_rule (at u s) x ts) 24 (method_named t c n) (method_named u c n) refl (λ x. method_same x ts) (g.methods c n)

    above_kept : (n : List ℕ) (m : Method) (x : Option ℕ) → option_and_then (λ c. method_named t c n) x ≡ Some m → option_and_then (λ c. method_named u c n) x ≡ Some m
    above_kept n m None e = absurd (cc (e))
    above_kept n m (Some c) e = g.methods c n m e

    pub super_keeps : (n : List ℕ) (ts : List JavaType) → Keeps (super_rule (at t s) n ts) (super_rule (at u s) n ts)
    super_keeps n ts =
        asked (not s.is_static) 5 (above_rule (at t s) (option_and_then (λ c. method_named t c n) (super_of t s.class)) ts) (above_rule (at u s) (option_and_then (λ c. method_named u c n) (super_of u s.class)) ts)
        (found (λ x. above_rule (at t s) x ts) (λ x. above_rule (at u s) x ts) 33 (option_and_then (λ c. method_named t c n) (super_of t s.class)) (option_and_then (λ c. method_named u c n) (super_of u s.class)) refl (λ x. above_same x ts)
        (λ m e. ap (option_and_then (λ c. method_named u c n)) (g.super s.class) ∙ above_kept n m (super_of t s.class) e))

    member_same : (a : JavaType) (n : List ℕ) (x : JavaType) → member_call_rule (at u s) a n x ≡ member_call_rule (at t s) a n x
    member_same a n x =
        ap (λ z. if bytes_eq n (codes "add") then ask z 25 (Fits (Value BooleanType)) else ask ((bytes_eq n (codes "contains") || bytes_eq n (codes "remove")) && is_reference x && not (is_collection x)) 25 (Fits (Value BooleanType)))
        (assignable_same x a)

    collection_same : (b : Bool) (a : JavaType) (n : List ℕ) (ts : List JavaType) → collection_rule (at u s) b a n ts ≡ collection_rule (at t s) b a n ts
    collection_same b a n [] = refl
    collection_same b a n (x ∷ []) = member_same a n x
    collection_same b a n (x ∷ y ∷ xs) = refl

    pub object_call_keeps : (n : List ℕ) (a : JavaType) (ts : List JavaType) → Keeps (object_call_rule (at t s) n a ts) (object_call_rule (at u s) n a ts)
    object_call_keeps n (ClassType c) ts = method_keeps c n ts
    object_call_keeps n (SetType a) ts = equal _ _ (collection_same false a n ts)
    object_call_keeps n (ListType a) ts = equal _ _ (collection_same true a n ts)
    object_call_keeps n a ts = equal _ _ refl

    pub parameters_same : (c : ℕ) → constructor_parameters u c ≡ constructor_parameters t c
    parameters_same c = ap (flat_map (λ k. k.parameters)) (g.constructors c)

    creation_same : (a : JavaType) (ts : List JavaType) → creation_fits (at u s) a ts ≡ creation_fits (at t s) a ts
    creation_same (ClassType c) ts = ap (arguments_fit (at u s) ts) (parameters_same c) ∙ fit_same ts (constructor_parameters t c)
    creation_same (SetType a) ts = refl
    creation_same (ListType a) ts = refl
    creation_same a ts = refl

    pub creation_keeps : (a : JavaType) (ts : List JavaType) → Keeps (creation_rule (at t s) a ts) (creation_rule (at u s) a ts)
    creation_keeps a ts = equal _ _ (ap (λ z. ask z 26 (ask (is_code s.part) 39 (Fits (Value a)))) (creation_same a ts))

    -- ---- statements and declarations

    pub return_keeps : (o : Option JavaType) → Keeps (return_rule (at t s) o) (return_rule (at u s) o)
    return_keeps None = equal _ _ refl
    return_keeps (Some a) = equal _ _ (ap (λ z. ask z 30 fine) (takes_same s.result a))

    initial_same : (o : Option JavaType) → initial_fits (at u s) o ≡ initial_fits (at t s) o
    initial_same None = refl
    initial_same (Some a) = takes_same s.declared a

    new_same : (n : List ℕ) (m : Meant) → is_new (at u s) n m ≡ is_new (at t s) n m
    new_same n (LocalName k a) = refl
    new_same n (FieldName f) = refl
    new_same n NoName = refl

    pub new_name : (n : List ℕ) → is_new (at u s) n (meant (at u s) n) ≡ is_new (at t s) n (meant (at t s) n)
    new_name n = ap (is_new (at u s) n) (meant_same n) ∙ new_same n (meant (at t s) n)

    pub declaration_keeps : (what : Declaring) (p : Place) (n : List ℕ) (o : Option JavaType) → Keeps (declaration_rule (at t s) what p n o) (declaration_rule (at u s) what p n o)
    declaration_keeps Locals p n o = equal _ _ (ap (λ z. ask z 4 (ask (initial_fits (at u s) o) 29 fine)) (new_name n) ∙ ap (λ z. ask (is_new (at t s) n (meant (at t s) n)) 4 (ask z 29 fine)) (initial_same o))
    declaration_keeps Fields p n o = equal _ _ (ap (λ z. ask z 35 fine) (initial_same o))
    declaration_keeps (Constants final) p n o = equal _ _ (ap (λ z. if is_known s.declared then ask z 35 (ask (is_some (value_at s.values p)) 36 (ask (final && is_simple s.declared) 37 fine)) else fine) (initial_same o))

    pub parameter_keeps : (n : List ℕ) → Keeps (parameter_rule (at t s) n) (parameter_rule (at u s) n)
    parameter_keeps n = equal _ _ (ap (λ z. ask z 4 fine) (new_name n))

    super_parameters_same : super_parameters (at u s) ≡ super_parameters (at t s)
    super_parameters_same =
        ap (λ z. flat_map (constructor_parameters u) (option_to_list z)) (g.super s.class) ∙ each_same (constructor_parameters u) (constructor_parameters t) (option_to_list (super_of t s.class)) parameters_same

    pub super_constructor_keeps : (ts : List JavaType) → Keeps (super_constructor_rule (at t s) ts) (super_constructor_rule (at u s) ts)
    super_constructor_keeps ts = equal _ _ (ap (λ z. ask z 34 fine) (ap (arguments_fit (at u s) ts) super_parameters_same ∙ fit_same ts (super_parameters (at t s))))

    pub implied_keeps : Keeps (implied_rule (at t s)) (implied_rule (at u s))
    implied_keeps = equal _ _ (ap (λ z. ask (Rattle.kr_types_meaning.specs.Rules.is_none_of z) 34 fine) super_parameters_same)
