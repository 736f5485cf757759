-- Arguments, bodies and calls.
use Rattle.std.proofs.Common.{◌≡◌, ℕ, Bool, true, false, List, [], ◌∷◌, ◌++◌, Option, Some, None, refl, sym, ap, ◌∙◌, subst}
use Rattle.std.specs.Prelude.{◌||◌, not, map, reverse, if◌then◌else◌}
use Rattle.std.proofs.lemmas.List.{length-map, reverse-append}
use Rattle.kr_ast.specs.Tree as trees
use Rattle.kr_ast.specs.Tree.{Tree}
use Rattle.kr_value.specs.declared.value.Value.{Value}
use Rattle.kr_value.specs.declared.value.Value.TheVariants.{Null, Ref as Reference}
use Rattle.kr_value.specs.declared.object.Class.{Class}
use Rattle.kr_classes_table.specs.Types.{JavaType, ClassType, is_void, is_known}
use Rattle.kr_classes_table.specs.Table.{Table, Parameter, Method, items, method_named, is_assignable}
use Rattle.kr_types_meaning.specs.Scopes.{Scope, Local, after}
use Rattle.kr_types_meaning.specs.Rules as rules
use Rattle.kr_types_meaning.specs.Rules.{Typed, Values, Untyped, Judgement, takes, arguments_fit}
use Rattle.kr_types_meaning.specs.Typing.{on_list, joined, judged, type_in}
use Rattle.kr_mean.specs.declared.kind.Kind.TheVariants.{NoReturn}
use Rattle.kr_mean.specs.Program.{Program, overriding, method_scope, parameter_local}
use Rattle.kr_mean.specs.Steps.{Run, give, ◌>>=◌, class_of, within}
use Rattle.kr_mean.specs.declared.flow.Flow.{Flow}
use Rattle.kr_mean.specs.declared.flow.Flow.TheVariants.{Next, Broke, Continued, Left, Gave}
use Rattle.kr_mean.specs.Meaning.{Parts, returned, values_of, all, run_body, run_method, run_chosen}
use Rattle.kr_laws_safety.specs.Fits.{IsOf, AreOf, type_at}
use Rattle.kr_laws_safety.specs.Triples.{Fixed, IsThis, Safe, Closes, Extends, type_of_old}
use Rattle.kr_laws_safety.proofs.Heaps.{value_more, values_more}
use Rattle.kr_laws_safety.proofs.Steps.{safe_give, safe_trap, safe_then, safe_within, closes_within}
use Rattle.kr_laws_types.specs.Types.{is_variable_type, AreVariables}
use Rattle.kr_laws_types.specs.Shapes.{Expression, Expressions}
use Rattle.kr_laws_types.specs.Expressions.{plain}
use Rattle.kr_laws_types.proofs.Given.{variable_known}
use Rattle.kr_laws_types.proofs.Expressions.{after_expression}
use Rattle.kr_laws_safety.specs.Typed.{AreAllVariables, types_in, IsMethod, IsTypedProgram}
use Rattle.kr_laws_safety.specs.Claims.{this_of, types_of, is_target, GivesAs, IsScope, Coded, LeadsOn, PartsSafe}
use Rattle.kr_laws_safety.proofs.Targets.{variable_target, variable_not_void}
use Rattle.kr_laws_safety.proofs.Glue.{Ruled, safe_next, safe_as_result}
use Rattle.kr_laws_safety.proofs.Classes.{IsSeenAs, class_below, safe_class}
use Rattle.kr_laws_safety.proofs.Sequences.{after_all, sequence}
use Rattle.kr_laws_types.proofs.Typed.{fits_same, front_none, back_none}

-- ---- the types of arguments

-- a rule of a list of arguments
pub ruled_list : (f : List JavaType → Judgement) (x : Typed) (t : JavaType) → Ruled (on_list f x) t → (ts : List JavaType) × (x ≡ Values ts) × Ruled (f ts) t
ruled_list f (Values ts) t r = (ts, refl, r)
ruled_list f (rules.Value u) t r = absurd (cc (r.2, ap type_in (fits_same Untyped r.0 r.1)))
ruled_list f (rules.Variable u) t r = absurd (cc (r.2, ap type_in (fits_same Untyped r.0 r.1)))
ruled_list f Untyped t r = absurd (cc (r.2, ap type_in (fits_same Untyped r.0 r.1)))

values_inside : (ts us : List JavaType) → Values ts ≡ Values us → ts ≡ us
values_inside ts us e = ap inside e
  where
    inside : Typed → List JavaType
    inside (Values vs) = vs
    inside x = ts

joined_is : (x y : Typed) (ts : List JavaType) → joined x y ≡ Values ts → (a : JavaType) × (us : List JavaType) × (type_in x ≡ Some a) × (y ≡ Values us) × (ts ≡ a ∷ us)
joined_is (rules.Value a) (Values us) ts e = (a, us, refl, refl, sym (values_inside (a ∷ us) ts e))
joined_is (rules.Variable a) (Values us) ts e = (a, us, refl, refl, sym (values_inside (a ∷ us) ts e))
joined_is (rules.Value a) (rules.Value b) ts e = absurd (cc (e))
joined_is (rules.Value a) (rules.Variable b) ts e = absurd (cc (e))
joined_is (rules.Value a) Untyped ts e = absurd (cc (e))
joined_is (rules.Variable a) (rules.Value b) ts e = absurd (cc (e))
joined_is (rules.Variable a) (rules.Variable b) ts e = absurd (cc (e))
joined_is (rules.Variable a) Untyped ts e = absurd (cc (e))
joined_is (Values us) y ts e = absurd (cc (e))
joined_is Untyped y ts e = absurd (cc (e))

-- as many arguments as parameters, each of which takes its argument
abbrev pub Fit : Table → List JavaType → List JavaType → Type 0
Fit table [] [] = Unit {0}
Fit table (a ∷ more) (t ∷ ts) = (is_assignable table a t ≡ true) × Fit table more ts
Fit table _ _ = ⊥

pub arguments_are : (s : Scope) (ts : List JavaType) (ps : List Parameter) → AreAllVariables (types_in ps) → arguments_fit s ts ps ≡ true → Fit s.table ts (types_in ps)
arguments_are s [] [] v e = tt
arguments_are s (a ∷ more) (p ∷ ps) v e =
    let h = Rattle.std.proofs.lemmas.Bool.and_parts (takes s p.type a) (arguments_fit s more ps) e in
    (taken (is_known p.type) (variable_known p.type v.0) h.0, arguments_are s more ps v.1 h.1)
  where
    taken : (b : Bool) → b ≡ true → (not b || is_assignable s.table a p.type) ≡ true → is_assignable s.table a p.type ≡ true
    taken true k e = e
    taken false k e = absurd (cc (k))
arguments_are s [] (p ∷ ps) v e = absurd (cc (e))
arguments_are s (a ∷ more) [] v e = absurd (cc (e))

-- types that values are used as
abbrev pub AreUsed : List JavaType → Type 0
AreUsed [] = Unit {0}
AreUsed (t ∷ ts) = ((is_target t ≡ true) × (is_void t ≡ false)) × AreUsed ts

pub variables_used : (ts : List JavaType) → AreAllVariables ts → AreUsed ts
variables_used [] h = tt
variables_used (t ∷ ts) h = ((variable_target t h.0, variable_not_void t h.0), variables_used ts h.1)

-- the locals of a body are its parameters
pub parameter_types : (ps : List Parameter) → types_of (reverse (map parameter_local ps)) ≡ types_in ps
parameter_types [] = refl
parameter_types (x ∷ ps) = ap types_of (reverse-append (parameter_local x ∷ []) (map parameter_local ps)) ∙ (last_type (reverse (map parameter_local ps)) (parameter_local x) ∙ ap (λ (ts : List JavaType). x.type ∷ ts) (parameter_types ps))
  where
    last_type : (ls : List Local) (l : Local) → types_of (ls ++ l ∷ []) ≡ l.type ∷ types_of ls
    last_type [] l = refl
    last_type (k ∷ ls) l = ap (λ (ts : List JavaType). ts ++ k.type ∷ []) (last_type ls l)

pub parameter_variables : (ps : List Parameter) → AreAllVariables (types_in ps) → AreVariables (reverse (map parameter_local ps))
parameter_variables [] h = tt
parameter_variables (x ∷ ps) h = subst AreVariables (sym (reverse-append (parameter_local x ∷ []) (map parameter_local ps))) (last_variable (reverse (map parameter_local ps)) (parameter_local x) (parameter_variables ps h.1) h.0)
  where
    last_variable : (ls : List Local) (l : Local) → AreVariables ls → is_variable_type l.type ≡ true → AreVariables (ls ++ l ∷ [])
    last_variable [] l h v = (v, tt)
    last_variable (k ∷ ls) l h v = (h.0, last_variable ls l h.1 v)

module _ (program : Program) (fixed : Fixed) (facts : IsTypedProgram program) (p : Parts) (q : PartsSafe program fixed p) where
  abbrev pub Given : Scope → List JavaType → List JavaType → Run (List Value) → Type 0
  Given s types ps m = Safe program fixed types (this_of s) (types_of s.locals) m (λ more after vs. (after ≡ types_of s.locals) × AreOf program.table more ps vs)

  no_arguments : (s : Scope) (types ts ps : List JavaType) → ts ≡ [] → Fit program.table ts ps → Given s types ps (give [])
  no_arguments s types [] [] e fit = safe_give program fixed types (this_of s) (types_of s.locals) [] _ (refl, tt)
  no_arguments s types [] (t ∷ ps) e fit = absurd fit
  no_arguments s types (a ∷ ts) ps e fit = absurd (cc (e))

  next_argument : (s : Scope) (a b : Tree) → IsScope program fixed s → Coded program fixed (Expression false) s a → (judged s a).faults ≡ [] → after (plain s) a ≡ plain s → (c : JavaType) (us : List JavaType) → type_in (judged s a).typed ≡ Some c
      → ((ps : List JavaType) → Fit program.table us ps → AreUsed ps → (types : List JavaType) → Given s types ps (values_of p (plain s) (items b))) → (ps : List JavaType) → Fit program.table (c ∷ us) ps → AreUsed ps → (types : List JavaType)
      → Given s types ps (values_of p (plain s) (a ∷ items b))
  next_argument s a b k h f there c us r rest [] fit v types = absurd fit
  next_argument s a b k h f there c us r rest (t ∷ ps) fit v types =
      safe_next program fixed types (this_of s) (types_of s.locals) (p.value (plain s) a) _ _ _ (q.value s a k h f types c t r v.0.0 fit.0)
      (λ more x y i. subst (λ (z : Scope). Given s more (t ∷ ps) (values_of p z (items b) >>= (λ vs. give (x ∷ vs)))) (sym there)
      (safe_next program fixed more (this_of s) (types_of s.locals) (values_of p (plain s) (items b)) _ _ _ (rest ps fit.1 v.1 more)
      (λ others vs z j. safe_give program fixed others (this_of s) (types_of s.locals) (x ∷ vs) _ (refl, (value_more program.table more others t x z (i v.0.1), j)))))

  -- values of arguments, left to right
  pub arguments : (s : Scope) (es : Tree) → IsScope program fixed s → Coded program fixed Expressions s es → (judged s es).faults ≡ [] → (ts ps : List JavaType) → (judged s es).typed ≡ Values ts → Fit program.table ts ps → AreUsed ps → (types : List JavaType) → Given s types ps (values_of p (plain s) (items es))
  unfolding judged
  arguments s trees.Nil k h f ts ps e fit v types = no_arguments s types ts ps (sym (values_inside [] ts e)) fit
  arguments s (trees.Cons a b) k h f ts ps e fit v types =
      let j = joined_is (judged s a).typed (judged (after s a) b).typed ts e in
      let here = after_expression program.arrays (type_of_old fixed.olds) s (plain s) false a h.0 in
      let there = after_expression program.arrays (type_of_old fixed.olds) (plain s) (plain s) false a h.0 in
      let fa = front_none (judged s a).faults (judged (after s a) b).faults f in
      let fb = subst (λ (z : Scope). (judged z b).faults ≡ []) here (back_none (judged s a).faults (judged (after s a) b).faults f) in
      let eb = subst (λ (z : Scope). (judged z b).typed ≡ Values j.1) here j.3 in
      next_argument s a b k h.0 fa there j.0 j.1 j.2 (λ us fit v types. arguments s b k h.1 fb j.1 us eb fit v types) ps (subst (λ (z : List JavaType). Fit program.table z ps) j.4 fit) v types
  arguments s _ k h f ts ps e fit v types = absurd h

  -- ---- bodies

  -- the end of a body gives what the method gives
  ended : (types : List JavaType) (this : Option ℕ) (ls before locals : List JavaType) (r : JavaType) (flow : Flow) → LeadsOn program.table r false before locals types ls flow → Safe program fixed types this ls (returned (is_void r) flow) (λ more after v. is_void r ≡ false → IsOf program.table more r v)
  ended types this ls before locals r flow h = go (is_void r) refl flow h
    where
      go : (b : Bool) → is_void r ≡ b → (flow : Flow) → LeadsOn program.table r false before locals types ls flow → Safe program fixed types this ls (returned b flow) (λ more after v. is_void r ≡ false → IsOf program.table more r v)
      go true e Next h = safe_give program fixed types this ls Null _ (λ g. absurd (cc (e, g)))
      go true e Left h = safe_give program fixed types this ls Null _ (λ g. absurd (cc (e, g)))
      go false e Next h = safe_trap program fixed types this ls NoReturn _
      go false e (Gave v) h = safe_give program fixed types this ls v _ (λ g. h.2)
      go true e (Gave v) h = absurd (cc (e, h.1))
      go false e Left h = absurd (cc (e, h.1))
      go b e Broke h = absurd (cc (h.1))
      go b e Continued h = absurd (cc (h.1))

  method_is_scope : (m : Method) → IsMethod program m → IsScope program fixed (method_scope program m)
  method_is_scope m h = (refl, refl, parameter_variables m.parameters h.parameters, h.result, λ e. absurd (cc (e)))

  -- a body with its arguments
  pub body : (m : Method) → IsMethod program m → (types : List JavaType) → Safe program fixed types (if m.is_static then None else Some m.class) (types_in m.parameters) (run_body program p m) (λ more after v. is_void m.result ≡ false → IsOf program.table more m.result v)
  body m h types =
      let s = method_scope program m in
      let run = sequence program fixed facts p q s m.body (method_is_scope m h) refl (h.body (type_of_old fixed.olds)) types in
      safe_then program fixed types (if m.is_static then None else Some m.class) (types_in m.parameters) (all p (method_scope program m) m.body) (returned (is_void m.result)) _ _
      (subst (λ (z : List JavaType). Safe program fixed types (if m.is_static then None else Some m.class) z (all p (method_scope program m) m.body) (LeadsOn program.table m.result false (types_of s.locals) (types_of (after_all program.arrays (type_of_old fixed.olds) s m.body).locals))) (parameter_types m.parameters) run)
      (λ more ms flow x l. ended more (if m.is_static then None else Some m.class) ms (types_of s.locals) (types_of (after_all program.arrays (type_of_old fixed.olds) s m.body).locals) m.result flow l)

  -- a method with an object, or none
  pub method_run : (types : List JavaType) (this : Option ℕ) (ls : List JavaType) (m : Method) (receiver : Value) (vs : List Value) → IsMethod program m → IsThis program.table types (if m.is_static then None else Some m.class) receiver → AreOf program.table types (types_in m.parameters) vs
      → Safe program fixed types this ls (run_method program p receiver vs (Some m)) (GivesAs program ls m.result)
  method_run types this ls m receiver vs h i j =
      subst (λ (n : ℕ). Safe program fixed types this ls (within receiver n vs (run_body program p m)) (GivesAs program ls m.result)) (length-map m.parameters (λ x. x.type))
      (safe_within program fixed types this (if m.is_static then None else Some m.class) ls (types_in m.parameters) receiver vs (run_body program p m) (λ more v. is_void m.result ≡ false → IsOf program.table more m.result v) i j (body m h types))

  -- where it traps, the locals are as they were
  pub method_closes : (types : List JavaType) (this : Option ℕ) (ls : List JavaType) (m : Method) (receiver : Value) (vs : List Value) → IsMethod program m → IsThis program.table types (if m.is_static then None else Some m.class) receiver → AreOf program.table types (types_in m.parameters) vs
      → Closes program fixed types this ls (run_method program p receiver vs (Some m))
  method_closes types this ls m receiver vs h i j =
      subst (λ (n : ℕ). Closes program fixed types this ls (within receiver n vs (run_body program p m))) (length-map m.parameters (λ x. x.type))
      (closes_within program fixed types this (if m.is_static then None else Some m.class) ls (types_in m.parameters) receiver vs (run_body program p m) _ i j (body m h types))

  static_this : (types : List JavaType) (m : Method) (v : Value) → m.is_static ≡ true → IsThis program.table types (if m.is_static then None else Some m.class) v
  static_this types m v e = subst (λ (b : Bool). IsThis program.table types (if b then None else Some m.class) v) (sym e) tt

  -- a static method
  pub static_run : (types : List JavaType) (this : Option ℕ) (ls : List JavaType) (m : Method) (vs : List Value) → IsMethod program m → m.is_static ≡ true → AreOf program.table types (types_in m.parameters) vs → Safe program fixed types this ls (run_method program p Null vs (Some m)) (GivesAs program ls m.result)
  static_run types this ls m vs h e j = method_run types this ls m Null vs h (static_this types m Null e) j

  -- the method that an object's class has in place of another
  pub overridden_run : (types : List JavaType) (this : Option ℕ) (ls : List JavaType) (c : ℕ) (n : List ℕ) (m : Method) (o : Value) (vs : List Value) (class : Class) → method_named program.table c n ≡ Some m → m.is_static ≡ false → IsSeenAs program types (ClassType c) o class → AreOf program.table types (types_in m.parameters) vs
      → Safe program fixed types this ls (run_method program p o vs (overriding program m class)) (GivesAs program ls m.result)
  overridden_run types this ls c n m o vs class e static seen j =
      let d = class_below program (type_at types seen.0) class c seen.4 seen.3 in
      let k = facts.overridden c n m d.0 e static d.3 in
      let i : IsOf program.table types (ClassType k.0.class) (Reference seen.0) = (seen.2, ap (λ (t : JavaType). is_assignable program.table t (ClassType k.0.class)) d.2 ∙ k.1.below) in
      let this' = subst (λ (b : Bool). IsThis program.table types (if b then None else Some k.0.class) o) (sym k.1.instance) (seen.0, seen.1, i) in
      subst (λ (x : Option Method). Safe program fixed types this ls (run_method program p o vs x) (GivesAs program ls m.result)) (sym (ap (overriding program m) d.1 ∙ k.1.found))
      (safe_as_result program fixed facts.below types this ls (run_method program p o vs (Some k.0)) k.0.result m.result k.1.result (method_run types this ls k.0 o vs k.1.method this' (subst (λ (ts : List JavaType). AreOf program.table types ts vs) (sym k.1.parameters) j)))

  -- by the class of an object, or as it is where it is static
  pub chosen_run : (types : List JavaType) (this : Option ℕ) (ls : List JavaType) (c : ℕ) (n : List ℕ) (m : Method) (o : Value) (vs : List Value) → method_named program.table c n ≡ Some m → IsOf program.table types (ClassType c) o → AreOf program.table types (types_in m.parameters) vs
      → Safe program fixed types this ls (class_of o >>= run_chosen program p m o vs) (GivesAs program ls m.result)
  chosen_run types this ls c n m o vs e i j = safe_next program fixed types this ls (class_of o) _ _ _ (safe_class program fixed types this ls (ClassType c) o refl i) (λ more class x seen. go m.is_static refl more class x seen)
    where
      go : (b : Bool) → m.is_static ≡ b → (more : List JavaType) (class : Class) → Extends types more → IsSeenAs program more (ClassType c) o class
          → Safe program fixed more this ls (if b then run_method program p Null vs (Some m) else run_method program p o vs (overriding program m class)) (GivesAs program ls m.result)
      go true s more class x seen = static_run more this ls m vs (facts.methods c n m e).0 s (values_more program.table types more (types_in m.parameters) vs x j)
      go false s more class x seen = overridden_run more this ls c n m o vs class e s seen (values_more program.table types more (types_in m.parameters) vs x j)
