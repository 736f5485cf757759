-- Calls and creations as expressions, and every expression.
use Rattle.std.proofs.Common.{◌≡◌, ℕ, ◌⊎◌, inl, inr, Bool, true, false, List, [], ◌∷◌, ◌++◌, Option, Some, None, refl, sym, ap, ◌∙◌, subst}
use Rattle.std.specs.Prelude.{◌||◌, not, if◌then◌else◌, option_and_then}
use Rattle.std.proofs.lemmas.Bool.{or_cases}
use Rattle.kr_base.specs.declared.place.Place.{Place}
use Rattle.kr_ast.specs.Tree as trees
use Rattle.kr_ast.specs.Tree.{Tree}
use Rattle.kr_value.specs.declared.value.Value.{Value}
use Rattle.kr_value.specs.declared.value.Value.TheVariants.{Null, Ref as Reference}
use Rattle.kr_value.specs.declared.object.Class.TheVariants.{Set, List as ListClass}
use Rattle.kr_classes_table.specs.Types.{JavaType, ClassType, ArrayType, SetType, ListType, InferredType, AppliedType, is_void, is_element}
use Rattle.kr_classes_table.specs.Table.{Table, Method, applied, items, ancestors, super_of, constructor_parameters, method_named, is_below, is_assignable}
use Rattle.kr_types_meaning.specs.Scopes.{Scope, value, written, class_before, static_only, method_meant, super_class}
use Rattle.kr_types_meaning.specs.Rules as rules
use Rattle.kr_types_meaning.specs.Rules.{Typed, Values, Untyped, Judgement, Fits, Breaks, ask, gives, arguments_fit, is_none_of, is_statement, result_rule, arguments_rule, call_rule, static_rule, above_rule, super_rule, method_rule, object_call_rule, collection_rule, creation_fits, creation_rule, diamond_rule}
use Rattle.kr_types_meaning.specs.Typing.{judge, on_one, on_list, method_of, judged, type_in}
use Rattle.kr_mean.specs.Program.{Program, overriding}
use Rattle.kr_mean.specs.Steps.{Run, ◌>>=◌, get_this, class_of, make}
use Rattle.kr_mean.specs.Meaning.{Parts, values_of, run_method, own_call, called, method_call, method_of_type, typed_method, create, value_of}
use Rattle.kr_laws_safety.specs.Fits.{IsOf, AreOf}
use Rattle.kr_laws_safety.specs.Triples.{Fixed, IsThis, Safe, type_of_old}
use Rattle.kr_laws_safety.specs.Steps.{Collection, Sets, Lists, type_with}
use Rattle.kr_laws_safety.proofs.Heaps.{value_more, values_more}
use Rattle.kr_laws_safety.proofs.Vectors.{type_same}
use Rattle.kr_laws_safety.proofs.Steps.{safe_map, safe_make}
use Rattle.kr_laws_types.specs.Types.{is_value_type}
use Rattle.kr_laws_types.specs.Shapes.{Expression, Expressions}
use Rattle.kr_laws_types.specs.DerivedExpressions.{IsCreated}
use Rattle.kr_laws_types.specs.Expressions.{plain}
use Rattle.kr_laws_types.proofs.Given.{AreValues}
use Rattle.kr_laws_types.proofs.Expressions.{AllGood, good}
use Rattle.kr_laws_safety.specs.Typed.{AreAllVariables, types_in, IsTypedProgram}
use Rattle.kr_laws_safety.specs.Claims.{this_of, types_of, is_target, GivesAs, IsScope, Coded, ValuesSafe, PartsSafe}
use Rattle.kr_laws_safety.proofs.Targets.{not_true, widened}
use Rattle.kr_laws_safety.proofs.Glue.{Ruled, ruled, ruled_as, ruled_ask, same_types, ruled_value, ruled_gives, on_type, safe_next, safe_as, safe_as_result, settled, settle, typed_at, has_variables}
use Rattle.kr_laws_safety.proofs.Scoping.{method_found, class_plain, type_plain}
use Rattle.kr_laws_safety.proofs.Classes.{safe_class}
use Rattle.kr_laws_safety.proofs.Operands.{written_is, Goal, part_as, number, long_number, truth, null, safe_here, this_object, variable, field_access, array_access, unary, operation}
use Rattle.kr_laws_safety.proofs.Tests.{conversion, test, choice, array_made, result, before}
use Rattle.kr_laws_safety.proofs.Writes.{assignment, compound_assignment, step}
use Rattle.kr_laws_safety.proofs.Calls.{ruled_list, Fit, variables_used, arguments_are, Given, arguments, method_run, static_run, overridden_run, chosen_run}
use Rattle.kr_laws_safety.proofs.Creations.{taken_variables, object_created}
use Rattle.kr_laws_safety.proofs.Members.{is_list, members, collection_call}
use Rattle.kr_laws_types.proofs.Typed.{fits_same, front_none, back_none, below_none}

-- a part whose type the rule needs has one
pub ruled_part : (f : JavaType → Judgement) (x : Typed) (t : JavaType) → Ruled (on_one f x) t → (a : JavaType) × (type_in x ≡ Some a) × Ruled (f a) t
ruled_part f (rules.Value a) t r = (a, refl, r)
ruled_part f (rules.Variable a) t r = (a, refl, r)
ruled_part f (Values ts) t r = absurd (cc (r.2, ap type_in (fits_same Untyped r.0 r.1)))
ruled_part f Untyped t r = absurd (cc (r.2, ap type_in (fits_same Untyped r.0 r.1)))

-- the type after `new`
diamond_is : (p : Place) (h a : JavaType) → type_in (judge p (diamond_rule h) []).typed ≡ Some a → a ≡ h
diamond_is p (SetType t) a e = same_types (Some (SetType t)) a (SetType t) e refl
diamond_is p (ListType t) a e = same_types (Some (ListType t)) a (ListType t) e refl
diamond_is p (AppliedType (ClassType c) t) a e = same_types (Some (AppliedType (ClassType c) t)) a (AppliedType (ClassType c) t) e refl
diamond_is p (AppliedType _ t) a e = absurd (cc (e))
diamond_is p _ a e = absurd (cc (e))

made_is : (s : Scope) (t : Tree) (a : JavaType) → IsCreated t → type_in (judged s t).typed ≡ Some a → a ≡ written s t
unfolding judged
made_is s (trees.DiamondType p h) a i e = diamond_is p (applied (written s h) InferredType) a e
made_is s (trees.PrimitiveType p k) a i e = written_is s (trees.PrimitiveType p k) a i e
made_is s (trees.NamedType p n) a i e = written_is s (trees.NamedType p n) a i e
made_is s (trees.QualifiedType p o n) a i e = written_is s (trees.QualifiedType p o n) a i e
made_is s (trees.GenericType p h b) a i e = written_is s (trees.GenericType p h b) a i e
made_is s (trees.ArrayType p b) a i e = written_is s (trees.ArrayType p b) a i e
made_is s _ a i e = absurd i

module _ (program : Program) (fixed : Fixed) (facts : IsTypedProgram program) (p : Parts) (q : PartsSafe program fixed p) where
  -- ---- the rules of calls

  result_ruled : (s : Scope) (m : Method) (ts : List JavaType) (t : JavaType) → Ruled (arguments_rule s ts m) t → (arguments_fit s ts m.parameters ≡ true) × (m.result ≡ t)
  result_ruled s m ts t r =
      let a = ruled_ask (arguments_fit s ts m.parameters) 24 (result_rule s m) t r in
      (a.0, ruled_gives m.result t (ruled_ask (not (is_void m.result) || is_statement s.role) 32 (gives m.result) t a.1).1)

  -- arguments for a method's parameters
  given : (s : Scope) (es : Tree) (m : Method) (ts : List JavaType) → IsScope program fixed s → Coded program fixed Expressions s es → (judged (value s) es).faults ≡ [] → (judged (value s) es).typed ≡ Values ts → s.table ≡ program.table → AreAllVariables (types_in m.parameters) → arguments_fit s ts m.parameters ≡ true → (types : List JavaType)
      → Given program fixed facts p q s types (types_in m.parameters) (values_of p (plain s) (items es))
  given s es m ts k h f e table v fit types = arguments program fixed facts p q (value s) es k h f ts (types_in m.parameters) e (subst (λ (z : Table). Fit z ts (types_in m.parameters)) table (arguments_are s ts m.parameters v fit)) (variables_used (types_in m.parameters) v) types

  -- the type of a result as what it is used as
  as_used : (types : List JavaType) (this : Option ℕ) (ls : List JavaType) (m : Run Value) (r t u : JavaType) → r ≡ t → is_assignable program.table t u ≡ true → Safe program fixed types this ls m (GivesAs program ls r) → Safe program fixed types this ls m (GivesAs program ls u)
  as_used types this ls m r t u e a s = safe_as_result program fixed facts.below types this ls m r u (subst (λ (n : JavaType). is_assignable program.table n u ≡ true) (sym e) a) s

  -- ---- calls without an object

  pub own : (s : Scope) (pl : Place) (n : List ℕ) (es : Tree) → IsScope program fixed (settled program fixed s) → Coded program fixed Expressions (settled program fixed s) es → (judged (settled program fixed s) (trees.Call pl n es)).faults ≡ [] → Goal program fixed facts p q (settled program fixed s) (trees.Call pl n es)
  unfolding judged
  own s pl n es k h f types t u r g a =
      let S = settled program fixed s in
      let je = judged (value S) es in
      let list = ruled_list (call_rule S (method_meant S n)) je.typed t (ruled pl (on_list (call_rule S (method_meant S n)) je.typed) je.faults t f r) in
      go (method_meant S n) refl list.0 list.1 (below_none pl (on_list (call_rule S (method_meant S n)) je.typed) je.faults f) list.2
    where
      go : (x : Option Method) → method_meant (settled program fixed s) n ≡ x → (ts : List JavaType) → (judged (value (settled program fixed s)) es).typed ≡ Values ts → (judged (value (settled program fixed s)) es).faults ≡ [] → Ruled (call_rule (settled program fixed s) x ts) t
          → Safe program fixed types (this_of s) (types_of s.locals) (values_of p (plain (settled program fixed s)) (items es) >>= (λ vs. own_call program p vs x)) (GivesAs program (types_of s.locals) u)
      go None e ts j b r = absurd (cc (r.1))
      go (Some m) e ts j b r =
          let d = method_found (settled program fixed s) n m e in
          let is = facts.methods d.0 n m d.1 in
          let asked = ruled_ask (m.is_static || not s.is_static) 5 (arguments_rule (settled program fixed s) ts m) t r in
          let fit = result_ruled (settled program fixed s) m ts t asked.1 in
          safe_next program fixed types (this_of s) (types_of s.locals) (values_of p (plain (settled program fixed s)) (items es)) _ _ _ (given (settled program fixed s) es m ts k h b j refl is.0.parameters fit.0 types)
          (λ more vs x i. as_used more (this_of s) (types_of s.locals) _ m.result t u fit.1 a (run m.is_static refl (or_cases m.is_static (not s.is_static) asked.0) more vs i))
        where
          run : (b : Bool) → m.is_static ≡ b → (m.is_static ≡ true) ⊎ (not s.is_static ≡ true) → (more : List JavaType) (vs : List Value) → AreOf program.table more (types_in m.parameters) vs
              → Safe program fixed more (this_of s) (types_of s.locals) (if b then run_method program p Null vs (Some m) else (get_this >>= (λ o. class_of o >>= (λ class. run_method program p o vs (overriding program m class))))) (GivesAs program (types_of s.locals) m.result)
          run true b c more vs i = let d = method_found (settled program fixed s) n m e in static_run program fixed facts p q more (this_of s) (types_of s.locals) m vs (facts.methods d.0 n m d.1).0 b i
          run false b (inl c) more vs i = absurd (cc (b, c))
          run false b (inr c) more vs i =
              let d = method_found (settled program fixed s) n m e in
              let here = subst (λ (z : ℕ). method_named program.table z n ≡ Some m) (d.2 b) d.1 in
              safe_next program fixed more (this_of s) (types_of s.locals) get_this _ _ _ (safe_here program fixed facts p q s more (not_true s.is_static c))
              (λ others o x j. safe_next program fixed others (this_of s) (types_of s.locals) (class_of o) _ _ _ (safe_class program fixed others (this_of s) (types_of s.locals) (ClassType s.class) o refl j)
              (λ last class y seen. overridden_run program fixed facts p q last (this_of s) (types_of s.locals) s.class n m o vs class here b seen (values_more program.table others last (types_in m.parameters) vs y (values_more program.table more others (types_in m.parameters) vs x i))))

  -- ---- calls of the superclass's methods

  -- `this` is an object
  safe_self : (s : Scope) (types : List JavaType) → s.is_static ≡ false → Safe program fixed types (this_of s) (types_of s.locals) get_this (λ more after v. (after ≡ types_of s.locals) × IsThis program.table more (Some s.class) v)
  safe_self s types e = subst (λ (b : Bool). Safe program fixed types (if b then None else Some s.class) (types_of s.locals) get_this (λ more after v. (after ≡ types_of s.locals) × IsThis program.table more (Some s.class) v)) (sym e) (Rattle.kr_laws_safety.proofs.Steps.safe_this program fixed types s.class (types_of s.locals))

  above_is : (c d : ℕ) → super_of program.table c ≡ Some d → is_below program.table c d ≡ true
  above_is c d e = go (ancestors program.table c) (facts.classes c).line.0
    where
      itself : (x y : ℕ) → x ≡ y → (Rattle.std.specs.Prelude.nat_eq x y) ≡ true
      itself x y e = Rattle.std.proofs.lemmas.Bool.eq-eqb x y e

      second : (b c : Bool) → c ≡ true → (b || c) ≡ true
      second true c e = refl
      second false c e = e

      first : (b c : Bool) → b ≡ true → (b || c) ≡ true
      first true c e = refl
      first false c e = absurd (cc (e))

      inside : (x : ℕ) → Some d ≡ Some x → d ≡ x
      inside x e = ap (λ (o : Option ℕ). elim o as (λ y. ℕ) [ Some z ↦ z | None ↦ d ]) e

      go : (ds : List ℕ) → super_of program.table c ≡ Rattle.kr_laws_safety.specs.Typed.first_class ds → Rattle.kr_classes_table.specs.Table.is_among d (c ∷ ds) ≡ true
      go [] l = absurd (cc (e, l))
      go (x ∷ ds) l = second (Rattle.std.specs.Prelude.nat_eq d c) _ (first (Rattle.std.specs.Prelude.nat_eq d x) (Rattle.kr_classes_table.specs.Table.is_among d ds) (itself d x (inside x (sym e ∙ l))))

  pub above : (s : Scope) (pl : Place) (n : List ℕ) (es : Tree) → IsScope program fixed (settled program fixed s) → Coded program fixed Expressions (settled program fixed s) es → (judged (settled program fixed s) (trees.SuperCall pl n es)).faults ≡ [] → Goal program fixed facts p q (settled program fixed s) (trees.SuperCall pl n es)
  unfolding judged
  above s pl n es k h f types t u r g a =
      let S = settled program fixed s in
      let je = judged (value S) es in
      let list = ruled_list (super_rule S n) je.typed t (ruled pl (on_list (super_rule S n) je.typed) je.faults t f r) in
      let asked = ruled_ask (not s.is_static) 5 (above_rule S (option_and_then (λ c. method_named program.table c n) (super_class S)) list.0) t list.2 in
      go (super_of program.table s.class) refl list.0 list.1 (below_none pl (on_list (super_rule S n) je.typed) je.faults f) (not_true s.is_static asked.0) asked.1
    where
      Super : Option Method → Type 0
      Super x = Safe program fixed types (this_of s) (types_of s.locals) (get_this >>= (λ o. values_of p (plain (settled program fixed s)) (items es) >>= (λ vs. run_method program p o vs x))) (GivesAs program (types_of s.locals) u)

      run : (d : ℕ) → super_of program.table s.class ≡ Some d → (x : Option Method) → method_named program.table d n ≡ x → (ts : List JavaType) → (judged (value (settled program fixed s)) es).typed ≡ Values ts → (judged (value (settled program fixed s)) es).faults ≡ [] → s.is_static ≡ false → Ruled (above_rule (settled program fixed s) x ts) t → Super x
      run d up None e ts j b static r = absurd (cc (r.1))
      run d up (Some m) e ts j b static r =
          let is = facts.methods d n m e in
          let instance = by m.is_static refl r in
          let fit = result_ruled (settled program fixed s) m ts t instance.1 in
          let below = facts.below s.class d m.class (above_is s.class d up) is.1 in
          safe_next program fixed types (this_of s) (types_of s.locals) get_this _ _ _ (safe_self s types static)
          (λ more o x i. safe_next program fixed more (this_of s) (types_of s.locals) (values_of p (plain (settled program fixed s)) (items es)) _ _ _ (given (settled program fixed s) es m ts k h b j refl is.0.parameters fit.0 more)
          (λ others vs y l. as_used others (this_of s) (types_of s.locals) _ m.result t u fit.1 a
          (method_run program fixed facts p q others (this_of s) (types_of s.locals) m o vs is.0
          (subst (λ (z : Bool). IsThis program.table others (if z then None else Some m.class) o) (sym instance.0)
          (i.0, i.1, widened program.table facts.below others (ClassType s.class) (ClassType m.class) (Reference i.0) below (value_more program.table more others (ClassType s.class) (Reference i.0) y i.2))) l)))
        where
          by : (b : Bool) → m.is_static ≡ b → Ruled (if b then Breaks 33 else arguments_rule (settled program fixed s) ts m) t → (m.is_static ≡ false) × Ruled (arguments_rule (settled program fixed s) ts m) t
          by true b r = absurd (cc (r.1))
          by false b r = (b, r)

      go : (c : Option ℕ) → super_of program.table s.class ≡ c → (ts : List JavaType) → (judged (value (settled program fixed s)) es).typed ≡ Values ts → (judged (value (settled program fixed s)) es).faults ≡ [] → s.is_static ≡ false → Ruled (above_rule (settled program fixed s) (option_and_then (λ c. method_named program.table c n) c) ts) t
          → Super (option_and_then (λ d. method_named program.table d n) (super_of program.table s.class))
      go None e ts j b static r = absurd (cc (r.1))
      go (Some d) e ts j b static r = subst (λ (c : Option ℕ). Super (option_and_then (λ d. method_named program.table d n) c)) (sym e) (run d e (method_named program.table d n) refl ts j b static r)

  -- ---- calls on an object, or after a class's name

  abbrev Called : Scope → Tree → List ℕ → Tree → List JavaType → JavaType → Option ℕ → Type 0
  Called s e n es types u c = Safe program fixed types (this_of s) (types_of s.locals) (method_call program p (plain (settled program fixed s)) e n (items es) c) (GivesAs program (types_of s.locals) u)

  behind_class : (s : Scope) (pl : Place) (e : Tree) (n : List ℕ) (es : Tree) (types : List JavaType) (t u : JavaType) (c : ℕ) → IsScope program fixed (settled program fixed s) → Coded program fixed Expressions (settled program fixed s) es → is_assignable program.table t u ≡ true
      → (judged (value (settled program fixed s)) es).faults ≡ [] → Ruled (on_list (static_rule (settled program fixed s) (method_named program.table c n)) (judged (value (settled program fixed s)) es).typed) t → Called s e n es types u (Some c)
  behind_class s pl e n es types t u c k h a b r = let list = ruled_list (static_rule (settled program fixed s) (method_named program.table c n)) (judged (value (settled program fixed s)) es).typed t r in go (method_named program.table c n) refl list.0 list.1 list.2
    where
      go : (x : Option Method) → method_named program.table c n ≡ x → (ts : List JavaType) → (judged (value (settled program fixed s)) es).typed ≡ Values ts → Ruled (static_rule (settled program fixed s) x ts) t
          → Safe program fixed types (this_of s) (types_of s.locals) (values_of p (plain (settled program fixed s)) (items es) >>= (λ vs. run_method program p Null vs (option_and_then static_only x))) (GivesAs program (types_of s.locals) u)
      go None e ts j r = absurd (cc (r.1))
      go (Some m) e ts j r =
          let is = facts.methods c n m e in
          let asked = ruled_ask m.is_static 24 (arguments_rule (settled program fixed s) ts m) t r in
          let fit = result_ruled (settled program fixed s) m ts t asked.1 in
          safe_next program fixed types (this_of s) (types_of s.locals) (values_of p (plain (settled program fixed s)) (items es)) _ _ _ (given (settled program fixed s) es m ts k h b j refl is.0.parameters fit.0 types)
          (λ more vs x i. as_used more (this_of s) (types_of s.locals) _ m.result t u fit.1 a
          (subst (λ (z : Bool). Safe program fixed more (this_of s) (types_of s.locals) (run_method program p Null vs (if z then Some m else None)) (GivesAs program (types_of s.locals) m.result)) (sym asked.0) (static_run program fixed facts p q more (this_of s) (types_of s.locals) m vs is.0 asked.0 i)))

  -- the types of arguments are those of values
  values_typed : (s : Scope) (es : Tree) (ts : List JavaType) → IsScope program fixed s → Coded program fixed Expressions s es → (judged (value s) es).typed ≡ Values ts → AreValues ts
  values_typed s es ts k h e = subst (λ (z : Typed). AllGood z) e (good program.arrays (type_of_old fixed.olds) Expressions (value s) es (subst Rattle.kr_laws_types.specs.Types.HasVariables (sym k.0) (has_variables program fixed facts), k.2, k.3) h refl)

  -- of an object of a class
  on_class : (s : Scope) (e : Tree) (n : List ℕ) (es : Tree) (types : List JavaType) (t u : JavaType) (c : ℕ) → IsScope program fixed (settled program fixed s) → Coded program fixed (Expression false) (settled program fixed s) e → Coded program fixed Expressions (settled program fixed s) es → is_assignable program.table t u ≡ true
      → (judged (value (settled program fixed s)) e).faults ≡ [] → (judged (value (settled program fixed s)) es).faults ≡ [] → type_in (judged (value (settled program fixed s)) e).typed ≡ Some (ClassType c) → (ts : List JavaType) → (judged (value (settled program fixed s)) es).typed ≡ Values ts
      → Ruled (method_rule (settled program fixed s) (method_named program.table c n) ts) t → Called s e n es types u None
  on_class s e n es types t u c k h l a fe fl known ts j r = go (method_named program.table c n) refl r
    where
      go : (x : Option Method) → method_named program.table c n ≡ x → Ruled (method_rule (settled program fixed s) x ts) t → Called s e n es types u None
      go None y r = absurd (cc (r.1))
      go (Some m) y r =
          let is = facts.methods c n m y in
          let fit = result_ruled (settled program fixed s) m ts t r in
          let found : typed_method (plain (settled program fixed s)) e n ≡ Some m = ap (λ (z : Option JavaType). method_of_type program.table n z) (type_plain (settled program fixed s) e ∙ known) ∙ y in
          safe_next program fixed types (this_of s) (types_of s.locals) (p.value (plain (settled program fixed s)) e) _ _ _ (part_as program fixed facts p q (value (settled program fixed s)) e k h fe types (ClassType c) known refl refl)
          (λ more o x i. safe_next program fixed more (this_of s) (types_of s.locals) (values_of p (plain (settled program fixed s)) (items es)) _ _ _ (given (settled program fixed s) es m ts k l fl j refl is.0.parameters fit.0 more)
          (λ others vs z w. subst (λ (d : Option Method). Safe program fixed others (this_of s) (types_of s.locals) (called program p n o vs d) (GivesAs program (types_of s.locals) u)) (sym found)
          (as_used others (this_of s) (types_of s.locals) _ m.result t u fit.1 a (chosen_run program fixed facts p q others (this_of s) (types_of s.locals) c n m o vs y (value_more program.table more others (ClassType c) o z i) w))))

  -- of a collection
  on_collection : (s : Scope) (c : Collection) (e : Tree) (n : List ℕ) (es : Tree) (types : List JavaType) (t u w : JavaType) → IsScope program fixed (settled program fixed s) → Coded program fixed (Expression false) (settled program fixed s) e → Coded program fixed Expressions (settled program fixed s) es → is_assignable program.table t u ≡ true
      → (judged (value (settled program fixed s)) e).faults ≡ [] → (judged (value (settled program fixed s)) es).faults ≡ [] → type_in (judged (value (settled program fixed s)) e).typed ≡ Some (type_with c w) → is_value_type (type_with c w) ≡ true → method_of_type program.table n (Some (type_with c w)) ≡ None
      → (ts : List JavaType) → (judged (value (settled program fixed s)) es).typed ≡ Values ts → Ruled (collection_rule (settled program fixed s) (is_list c) w n ts) t → Called s e n es types u None
  on_collection s c e n es types t u w k h l a fe fl known kind absent ts j r =
      let m = members program c w kind in
      let call = collection_call program fixed s c w t n ts m (values_typed (settled program fixed s) es ts k l j) kind r in
      let found : typed_method (plain (settled program fixed s)) e n ≡ None = ap (λ (z : Option JavaType). method_of_type program.table n z) (type_plain (settled program fixed s) e ∙ known) ∙ absent in
      safe_next program fixed types (this_of s) (types_of s.locals) (p.value (plain (settled program fixed s)) e) _ (λ more v. is_void (type_with c m.of) ≡ false → IsOf program.table more (type_with c m.of) v) _ (q.value (value (settled program fixed s)) e k h fe types (type_with c w) (type_with c m.of) known m.target m.fits)
      (λ more o x i. safe_next program fixed more (this_of s) (types_of s.locals) (values_of p (plain (settled program fixed s)) (items es)) _ _ _ (arguments program fixed facts p q (value (settled program fixed s)) es k l fl ts call.takes j call.fit call.used_as more)
      (λ others vs z y. subst (λ (d : Option Method). Safe program fixed others (this_of s) (types_of s.locals) (called program p n o vs d) (GivesAs program (types_of s.locals) u)) (sym found)
      (safe_as program fixed facts.below others (this_of s) (types_of s.locals) _ t u a (call.safe others (this_of s) (types_of s.locals) o vs (value_more program.table more others (type_with c m.of) o z (i m.given)) y))))

  pub through : (s : Scope) (pl : Place) (e : Tree) (n : List ℕ) (es : Tree) → IsScope program fixed (settled program fixed s) → Coded program fixed (Expression false) (settled program fixed s) e → Coded program fixed Expressions (settled program fixed s) es → (judged (settled program fixed s) (trees.MethodCall pl e n es)).faults ≡ []
      → Goal program fixed facts p q (settled program fixed s) (trees.MethodCall pl e n es)
  unfolding judged
  through s pl e n es k h l f types t u r g a = subst (λ (c : Option ℕ). Called s e n es types u c) (sym (class_plain (settled program fixed s) e)) (go (class_before (settled program fixed s) e) f r)
    where
      object : (c : JavaType) → type_in (judged (value (settled program fixed s)) e).typed ≡ Some c → is_value_type c ≡ true → (judged (value (settled program fixed s)) e).faults ≡ [] → (judged (value (settled program fixed s)) es).faults ≡ [] → (ts : List JavaType) → (judged (value (settled program fixed s)) es).typed ≡ Values ts
          → Ruled (object_call_rule (settled program fixed s) n c ts) t → Called s e n es types u None
      object (ClassType c) known kind fe fl ts j r = on_class s e n es types t u c k h l a fe fl known ts j r
      object (SetType w) known kind fe fl ts j r = on_collection s Sets e n es types t u w k h l a fe fl known kind refl ts j r
      object (ListType w) known kind fe fl ts j r = on_collection s Lists e n es types t u w k h l a fe fl known kind refl ts j r
      object _ known kind fe fl ts j r = absurd (cc (r.1))

      go : (c : Option ℕ) → (method_of (settled program fixed s) pl n c (judged (value (settled program fixed s)) e) (judged (value (settled program fixed s)) es)).faults ≡ [] → type_in (method_of (settled program fixed s) pl n c (judged (value (settled program fixed s)) e) (judged (value (settled program fixed s)) es)).typed ≡ Some t
          → Called s e n es types u c
      go (Some c) f r =
          let v = on_list (static_rule (settled program fixed s) (method_named program.table c n)) (judged (value (settled program fixed s)) es).typed in
          behind_class s pl e n es types t u c k l a (below_none pl v (judged (value (settled program fixed s)) es).faults f) (ruled pl v (judged (value (settled program fixed s)) es).faults t f r)
      go None f r =
          let je = judged (value (settled program fixed s)) e in
          let jl = judged (value (settled program fixed s)) es in
          let v = on_one (λ c. on_list (object_call_rule (settled program fixed s) n c) jl.typed) je.typed in
          let below = below_none pl v (je.faults ++ jl.faults) f in
          let x = typed_at program fixed facts (value (settled program fixed s)) e k h (front_none je.faults jl.faults below) in
          let rule = ruled_as v (on_list (object_call_rule (settled program fixed s) n x.type) jl.typed) t (on_type (λ c. on_list (object_call_rule (settled program fixed s) n c) jl.typed) je.typed x.type x.known) (ruled pl v (je.faults ++ jl.faults) t f r) in
          let list = ruled_list (object_call_rule (settled program fixed s) n x.type) jl.typed t rule in
          object x.type x.known x.kind (front_none je.faults jl.faults below) (back_none je.faults jl.faults below) list.0 list.1 list.2

  -- ---- creations

  -- a new collection is of the type that it is used as
  sets_used : (w u : JavaType) → is_target u ≡ true → is_assignable program.table (SetType w) u ≡ true → (x : JavaType) × (u ≡ SetType x) × (is_element x ≡ true)
  sets_used w (SetType (ClassType c)) g a = (ClassType c, refl, refl)
  sets_used w (SetType (ArrayType t)) g a = (ArrayType t, refl, refl)
  sets_used w (SetType _) g a = absurd (cc (g))
  sets_used InferredType _ g a = absurd (cc (a))
  sets_used w _ g a = absurd (cc (a))

  lists_used : (w u : JavaType) → is_target u ≡ true → is_assignable program.table (ListType w) u ≡ true → (x : JavaType) × (u ≡ ListType x) × (is_element x ≡ true)
  lists_used w (ListType (ClassType c)) g a = (ClassType c, refl, refl)
  lists_used w (ListType (ArrayType t)) g a = (ArrayType t, refl, refl)
  lists_used w (ListType _) g a = absurd (cc (g))
  lists_used InferredType _ g a = absurd (cc (a))
  lists_used w _ g a = absurd (cc (a))

  new_set : (types : List JavaType) (this : Option ℕ) (ls : List JavaType) (w u : JavaType) (vs : List Value) → is_target u ≡ true → is_assignable program.table (SetType w) u ≡ true → AreOf program.table types [] vs → Safe program fixed types this ls (create program p (SetType w) vs) (GivesAs program ls u)
  new_set types this ls w u (v ∷ vs) g a j = absurd j
  new_set types this ls w u [] g a j =
      let x = sets_used w u g a in
      safe_map program fixed types this ls (make Set []) _ _ (safe_make program fixed types this ls (SetType x.0) Set [] (refl, x.2, tt))
      (λ more ms v h. (h.0, λ d. subst (λ (z : Value). IsOf program.table more u z) (sym h.2) (h.3, ap (λ (n : JavaType). is_assignable program.table n u) h.4 ∙ (ap (λ (n : JavaType). is_assignable program.table (SetType x.0) n) x.1 ∙ same x.0 x.2))))
    where
      same : (x : JavaType) → is_element x ≡ true → is_assignable program.table (SetType x) (SetType x) ≡ true
      same (ClassType c) e = type_same (SetType (ClassType c))
      same (ArrayType t) e = type_same (SetType (ArrayType t))
      same _ e = absurd (cc (e))

  new_list : (types : List JavaType) (this : Option ℕ) (ls : List JavaType) (w u : JavaType) (vs : List Value) → is_target u ≡ true → is_assignable program.table (ListType w) u ≡ true → AreOf program.table types [] vs → Safe program fixed types this ls (create program p (ListType w) vs) (GivesAs program ls u)
  new_list types this ls w u (v ∷ vs) g a j = absurd j
  new_list types this ls w u [] g a j =
      let x = lists_used w u g a in
      safe_map program fixed types this ls (make ListClass []) _ _ (safe_make program fixed types this ls (ListType x.0) ListClass [] (refl, x.2, tt))
      (λ more ms v h. (h.0, λ d. subst (λ (z : Value). IsOf program.table more u z) (sym h.2) (h.3, ap (λ (n : JavaType). is_assignable program.table n u) h.4 ∙ (ap (λ (n : JavaType). is_assignable program.table (ListType x.0) n) x.1 ∙ same x.0 x.2))))
    where
      same : (x : JavaType) → is_element x ≡ true → is_assignable program.table (ListType x) (ListType x) ≡ true
      same (ClassType c) e = type_same (ListType (ClassType c))
      same (ArrayType t) e = type_same (ListType (ArrayType t))
      same _ e = absurd (cc (e))

  pub creation : (s : Scope) (pl : Place) (w es : Tree) → IsScope program fixed (settled program fixed s) → IsCreated w → Coded program fixed Expressions (settled program fixed s) es → (judged (settled program fixed s) (trees.ObjectCreation pl w es)).faults ≡ [] → Goal program fixed facts p q (settled program fixed s) (trees.ObjectCreation pl w es)
  unfolding judged
  creation s pl w es k i h f types t u r g a =
      let S = settled program fixed s in
      let jw = judged S w in
      let je = judged (value S) es in
      let v = on_one (λ c. on_list (creation_rule S c) je.typed) jw.typed in
      let below = below_none pl v (jw.faults ++ je.faults) f in
      let part = ruled_part (λ c. on_list (creation_rule S c) je.typed) jw.typed t (ruled pl v (jw.faults ++ je.faults) t f r) in
      let list = ruled_list (creation_rule S part.0) je.typed t part.2 in
      let asked = ruled_ask (creation_fits S part.0 list.0) 26 (ask (rules.is_code s.part) 39 (Fits (rules.Value part.0))) t list.2 in
      let is = ruled_value part.0 t (ruled_ask (rules.is_code s.part) 39 (Fits (rules.Value part.0)) t asked.1).1 in
      subst (λ (z : JavaType). Creates z) (made_is S w part.0 i part.1) (go part.0 list.0 list.1 (back_none jw.faults je.faults below) asked.0 (subst (λ (z : JavaType). is_assignable program.table z u ≡ true) (sym is) a))
    where
      Creates : JavaType → Type 0
      Creates z = Safe program fixed types (this_of s) (types_of s.locals) (values_of p (plain (settled program fixed s)) (items es) >>= create program p z) (GivesAs program (types_of s.locals) u)

      none : (ts : List JavaType) → is_none_of ts ≡ true → Fit program.table ts []
      none [] e = tt
      none (t ∷ ts) e = absurd (cc (e))

      go : (c : JavaType) (ts : List JavaType) → (judged (value (settled program fixed s)) es).typed ≡ Values ts → (judged (value (settled program fixed s)) es).faults ≡ [] → creation_fits (settled program fixed s) c ts ≡ true → is_assignable program.table c u ≡ true → Creates c
      go (ClassType c) ts j fl e a =
          let variables = taken_variables program fixed facts p q c in
          safe_next program fixed types (this_of s) (types_of s.locals) (values_of p (plain (settled program fixed s)) (items es)) _ _ _
          (arguments program fixed facts p q (value (settled program fixed s)) es k h fl ts (types_in (constructor_parameters program.table c)) j (arguments_are (settled program fixed s) ts (constructor_parameters program.table c) variables e) (variables_used (types_in (constructor_parameters program.table c)) variables) types)
          (λ more vs x y. safe_as program fixed facts.below more (this_of s) (types_of s.locals) _ (ClassType c) u a (object_created program fixed facts p q more (this_of s) (types_of s.locals) c vs y))
      go (SetType c) ts j fl e a =
          safe_next program fixed types (this_of s) (types_of s.locals) (values_of p (plain (settled program fixed s)) (items es)) _ _ _ (arguments program fixed facts p q (value (settled program fixed s)) es k h fl ts [] j (none ts e) tt types)
          (λ more vs x y. new_set more (this_of s) (types_of s.locals) c u vs g a y)
      go (ListType c) ts j fl e a =
          safe_next program fixed types (this_of s) (types_of s.locals) (values_of p (plain (settled program fixed s)) (items es)) _ _ _ (arguments program fixed facts p q (value (settled program fixed s)) es k h fl ts [] j (none ts e) tt types)
          (λ more vs x y. new_list more (this_of s) (types_of s.locals) c u vs g a y)
      go _ ts j fl e a = absurd (cc (e))

  -- ---- every expression

  abbrev Kind : Scope → Tree → Type 0
  Kind s e = IsScope program fixed s → Coded program fixed (Expression false) s e → (judged s e).faults ≡ [] → Goal program fixed facts p q s e

  by_kind : (s : Scope) (e : Tree) → Kind (settled program fixed s) e
  by_kind s (trees.Number pl n) k h f = number program fixed facts p q (settled program fixed s) pl n f
  by_kind s (trees.LongNumber pl n) k h f = long_number program fixed facts p q (settled program fixed s) pl n f
  by_kind s (trees.Truth pl b) k h f = truth program fixed facts p q (settled program fixed s) pl b
  by_kind s (trees.Null pl) k h f = null program fixed facts p q (settled program fixed s) pl
  by_kind s (trees.This pl) k h f = this_object program fixed facts p q (settled program fixed s) pl f
  by_kind s (trees.Variable pl n) k h f = variable program fixed facts p q s pl n f
  by_kind s (trees.FieldAccess pl e n) k h f = field_access program fixed facts p q s pl e n k h f
  by_kind s (trees.ArrayAccess pl b i) k h f = array_access program fixed facts p q (settled program fixed s) pl b i k h.0 h.1 f
  by_kind s (trees.Call pl n es) k h f = own s pl n es k h f
  by_kind s (trees.MethodCall pl e n es) k h f = through s pl e n es k h.0 h.1 f
  by_kind s (trees.SuperCall pl n es) k h f = above s pl n es k h f
  by_kind s (trees.ObjectCreation pl t es) k h f = creation s pl t es k h.0 h.1 f
  by_kind s (trees.ArrayCreation pl t e) k h f = array_made program fixed facts p q (settled program fixed s) pl t e k h.0 h.1 h.2 f
  by_kind s (trees.Unary pl o e) k h f = unary program fixed facts p q (settled program fixed s) pl o e k h f
  by_kind s (trees.Step pl o e) k h f = step program fixed facts p q s pl o e k h f
  by_kind s (trees.Binary pl o a b) k h f = operation program fixed facts p q (settled program fixed s) pl o a b k h.0 h.1 f
  by_kind s (trees.InstanceOf pl e t) k h f = test program fixed facts p q (settled program fixed s) pl e t k h.0 h.1 f
  by_kind s (trees.Conditional pl c a b) k h f = choice program fixed facts p q s pl c a b k h.0 h.1 h.2 f
  by_kind s (trees.Cast pl t e) k h f = conversion program fixed facts p q (settled program fixed s) pl t e k h.0 h.1 f
  by_kind s (trees.Assignment pl a b) k h f = assignment program fixed facts p q s pl a b k h.0 h.1 f
  by_kind s (trees.CompoundAssignment pl o a b) k h f = compound_assignment program fixed facts p q s pl o a b h.0 k h.1 h.2 f
  by_kind s (trees.Result pl) k h f = result program fixed facts p q (settled program fixed s) pl k f
  by_kind s (trees.Old pl e) k h f = before program fixed facts p q (settled program fixed s) pl e h.0 k h.1 f
  by_kind s trees.Nil k h f = absurd (cc (h))
  by_kind s _ k h f = absurd h

  pub values_safe : ValuesSafe program fixed (value_of program p)
  values_safe s e k = subst (λ (z : Scope). Kind z e) (settle program fixed s k) (by_kind s e) k
