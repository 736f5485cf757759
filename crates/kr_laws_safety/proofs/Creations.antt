-- New objects: the constructors of their classes, and the initial values of fields.
use Rattle.std.proofs.Common.{◌≡◌, ℕ, zero, suc, ◌<◌, ◌≤◌, Bool, true, false, List, [], ◌∷◌, ◌++◌, length, Option, Some, None, refl, sym, ap, ◌∙◌, arith, subst}
use Rattle.std.specs.Prelude.{map, flat_map, option_to_list}
use Rattle.std.proofs.lemmas.List.{length-map, append-nil, length-append}
use Rattle.kr_base.specs.declared.place.Place.{Place}
use Rattle.kr_ast.specs.Tree as trees
use Rattle.kr_ast.specs.Tree.{Tree}
use Rattle.kr_value.specs.declared.value.Value.{Value}
use Rattle.kr_value.specs.declared.value.Value.TheVariants.{Ref as Reference}
use Rattle.kr_value.specs.declared.object.Class.TheVariants.{Object}
use Rattle.kr_classes_table.specs.Types.{JavaType, VoidType, ClassType}
use Rattle.kr_classes_table.specs.Table.{Table, Field, Parameter, Constructor, items, super_of, line_of, ancestors, is_among, fields_of, constructor_parameters, is_below, is_assignable}
use Rattle.kr_types_meaning.specs.Scopes.{Scope, after, super_parameters}
use Rattle.kr_types_meaning.specs.Rules as rules
use Rattle.kr_types_meaning.specs.Rules.{Typed, Values, Untyped, Fits, ask, arguments_fit, super_constructor_rule}
use Rattle.kr_types_meaning.specs.Typing.{on_list, judged, type_in}
use Rattle.kr_mean.specs.Program.{Program, default_of, class_scope, constructor_scope, constructor_of, declared_fields}
use Rattle.kr_mean.specs.Steps.{Run, give, ◌>>=◌, ◌>>◌, tick, within, make, store_new}
use Rattle.kr_mean.specs.declared.flow.Flow.{Flow}
use Rattle.kr_mean.specs.declared.flow.Flow.TheVariants.{Next, Broke, Continued, Left, Gave}
use Rattle.kr_mean.specs.Meaning.{Parts, completed, values_of, all, super_arguments, initialised, all_initialised, constructed_by, constructed, create}
use Rattle.kr_laws_safety.specs.Fits.{IsOf, AreOf, type_at}
use Rattle.kr_laws_safety.specs.Triples.{Fixed, IsThis, Safe, Extends, Gives, Keeps, type_of_old}
use Rattle.kr_laws_safety.proofs.Heaps.{values_more}
use Rattle.kr_laws_safety.proofs.Steps.{below_itself, safe_give, safe_map, safe_then, safe_tick, safe_within, safe_make, safe_store_new}
use Rattle.kr_laws_types.specs.Shapes.{Expression, Expressions, IsCode}
use Rattle.kr_laws_types.specs.Expressions.{plain}
use Rattle.kr_laws_types.proofs.Expressions.{after_expression}
use Rattle.kr_laws_safety.specs.Typed.{AreAllVariables, types_in, CallsSuper, IsConstructor, IsConstructed, IsInitialised, AreInitialised, first_class, IsLine, IsTypedProgram}
use Rattle.kr_laws_safety.specs.Claims.{this_of, types_of, GivesAs, IsScope, Coded, LeadsOn, PartsSafe}
use Rattle.kr_laws_safety.proofs.Targets.{variable_target, variable_not_void, defaults_are}
use Rattle.kr_laws_safety.proofs.Glue.{kept, safe_next, safe_keep, typed_at}
use Rattle.kr_laws_safety.proofs.Sequences.{after_all, sequence}
use Rattle.kr_laws_safety.proofs.Calls.{Fit, variables_used, arguments_are, parameter_types, parameter_variables, Given, arguments}
use Rattle.kr_laws_types.proofs.Typed.{front_none, back_none, below_none}

-- ---- parts that may be absent

abbrev pub is_nil : Tree → Bool
is_nil trees.Nil = true
is_nil t = false

pub present : (arrays : List JavaType) (olds : Place → Option JavaType) (s : Scope) (e : Tree) → IsCode arrays olds (Expression true) s e → is_nil e ≡ false → IsCode arrays olds (Expression false) s e
present arrays olds s trees.Nil h q = absurd (cc (q))
present arrays olds s _ h q = h

pub initialised_present : (program : Program) (p : Parts) (o : Value) (f : Field) (e : Tree) → is_nil e ≡ false → initialised program p o f e ≡ (p.value (class_scope program f.class) e >>= (λ v. store_new program f o v))
initialised_present program p o f trees.Nil q = absurd (cc (q))
initialised_present program p o f _ q = refl

pub nil_is : (e : Tree) → is_nil e ≡ true → e ≡ trees.Nil
nil_is trees.Nil q = refl
nil_is _ q = absurd (cc (q))

-- ---- lines of classes

-- the parameters of the nearest class's constructor
abbrev pub taken_by : Table → List ℕ → List JavaType
taken_by table [] = []
taken_by table (c ∷ cs) = types_in (constructor_parameters table c)

-- the superclass's constructor is the next one's
super_taken : (s : Scope) (cs : List ℕ) → super_of s.table s.class ≡ first_class cs → types_in (super_parameters s) ≡ taken_by s.table cs
super_taken s [] e = ap (λ (x : Option ℕ). types_in (flat_map (constructor_parameters s.table) (option_to_list x))) e
super_taken s (c ∷ cs) e = ap (λ (x : Option ℕ). types_in (flat_map (constructor_parameters s.table) (option_to_list x))) e ∙ ap types_in (append-nil (constructor_parameters s.table c))

-- an object of a class at or below each of a line
abbrev pub IsBelowAll : Table → ℕ → List ℕ → Type 0
IsBelowAll table c [] = Unit {0}
IsBelowAll table c (d ∷ ds) = (is_below table c d ≡ true) × IsBelowAll table c ds

-- an object is of the classes of its line
pub line_below : (table : Table) (c : ℕ) → IsBelowAll table c (line_of table c)
line_below table c = go [] (line_of table c) refl
  where
    there : (xs : List ℕ) (d : ℕ) (ds : List ℕ) → is_among d (xs ++ d ∷ ds) ≡ true
    there [] d ds = ap (λ (b : Bool). Rattle.std.specs.Prelude.◌||◌ b (is_among d ds)) (Rattle.std.proofs.lemmas.Bool.eq-eqb d d refl)
    there (x ∷ xs) d ds = or_second (Rattle.std.specs.Prelude.nat_eq d x) (is_among d (xs ++ d ∷ ds)) (there xs d ds)
      where
        or_second : (a b : Bool) → b ≡ true → Rattle.std.specs.Prelude.◌||◌ a b ≡ true
        or_second true b e = refl
        or_second false b e = e

    go : (xs ds : List ℕ) → line_of table c ≡ xs ++ ds → IsBelowAll table c ds
    go xs [] e = tt
    go xs (d ∷ ds) e = (ap (λ (z : List ℕ). is_among d z) e ∙ there xs d ds, go (xs ++ d ∷ []) ds (e ∙ sym (Rattle.std.proofs.lemmas.List.append_assoc xs (d ∷ []) ds)))

module _ (program : Program) (fixed : Fixed) (facts : IsTypedProgram program) (p : Parts) (q : PartsSafe program fixed p) where
  class_is_scope : (c : ℕ) → IsScope program fixed (class_scope program c)
  class_is_scope c = (refl, refl, tt, refl, λ e. absurd (cc (e)))

  constructor_is_scope : (c : ℕ) (k : Constructor) → AreAllVariables (types_in k.parameters) → IsScope program fixed (constructor_scope program c k)
  constructor_is_scope c k h = (refl, refl, parameter_variables k.parameters h, refl, λ e. absurd (cc (e)))

  -- a constructor takes variables
  pub taken_variables : (c : ℕ) → AreAllVariables (types_in (constructor_parameters program.table c))
  taken_variables c = go (constructor_of program c) (facts.classes c).constructed
    where
      go : (k : Option Constructor) → IsConstructed program c k → AreAllVariables (types_in (constructor_parameters program.table c))
      go (Some k) h = subst (λ (ps : List Parameter). AreAllVariables (types_in ps)) (sym h.taken) h.parameters
      go None h = subst (λ (ps : List Parameter). AreAllVariables (types_in ps)) (sym h.0) tt

  line_variables : (cs : List ℕ) → AreAllVariables (taken_by program.table cs)
  line_variables [] = tt
  line_variables (c ∷ cs) = taken_variables c

  super_variables : (c : ℕ) → AreAllVariables (types_in (super_parameters (class_scope program c)))
  super_variables c = subst AreAllVariables (sym (super_taken (class_scope program c) (ancestors program.table c) (facts.classes c).line.0)) (line_variables (ancestors program.table c))

  -- ---- an object that is being made

  -- it has a class, which it keeps, and it is no candidate
  pub record IsNew (types : List JavaType) (o c : ℕ) : Type 0 where
    pub there : o < length types
    pub type : type_at types o ≡ ClassType c
    pub own : fixed.candidates ≤ o

  new_more : (types more : List JavaType) (o c : ℕ) → Extends types more → IsNew types o c → IsNew more o c
  new_more types more o c x n = record {
    there = omega (arith, n.there, ap (λ (z : List JavaType). length z) x.1, length-append types x.0);
    type = ap (λ (z : List JavaType). type_at z o) x.1 ∙ (front types x.0 o n.there ∙ n.type);
    own = n.own;
  }
    where
      front : (xs ys : List JavaType) (o : ℕ) → o < length xs → type_at (xs ++ ys) o ≡ type_at xs o
      front [] ys o lt = absurd (omega (arith, lt))
      front (x ∷ xs) ys zero lt = refl
      front (x ∷ xs) ys (suc o) lt = front xs ys o (omega (arith, lt))

  new_of : (types : List JavaType) (o c d : ℕ) → IsNew types o c → is_below program.table c d ≡ true → IsOf program.table types (ClassType d) (Reference o)
  new_of types o c d n b = (n.there, ap (λ (t : JavaType). is_assignable program.table t (ClassType d)) n.type ∙ b)

  new_this : (types : List JavaType) (o c d : ℕ) → IsNew types o c → is_below program.table c d ≡ true → IsThis program.table types (Some d) (Reference o)
  new_this types o c d n b = (o, refl, new_of types o c d n b)

  -- ---- initial values

  one_initialised : (c d o : ℕ) (f : Field) → IsInitialised program d f → is_below program.table c d ≡ true → (types : List JavaType) → IsNew types o c → Safe program fixed types (Some d) [] (initialised program p (Reference o) f f.initial) (Keeps [])
  one_initialised c d o f h b types n = go (is_nil f.initial) refl
    where
      typed_there : is_nil f.initial ≡ false → (t : JavaType) × (type_in (judged (class_scope program f.class) f.initial).typed ≡ Some t)
      typed_there e = let x = typed_at program fixed facts (class_scope program f.class) f.initial (class_is_scope f.class) (present program.arrays (type_of_old fixed.olds) (class_scope program f.class) f.initial (h.code (type_of_old fixed.olds)) e) h.unbroken in (x.type, x.known)

      given : is_nil f.initial ≡ false → Safe program fixed types (Some d) [] (p.value (class_scope program f.class) f.initial) (GivesAs program [] f.type)
      given e =
          let x = typed_there e in
          subst (λ (k : ℕ). Safe program fixed types (Some k) [] (p.value (class_scope program f.class) f.initial) (GivesAs program [] f.type)) h.class
          (q.value (class_scope program f.class) f.initial (class_is_scope f.class) (present program.arrays (type_of_old fixed.olds) (class_scope program f.class) f.initial (h.code (type_of_old fixed.olds)) e) h.unbroken types x.0 f.type x.1 (variable_target f.type h.variable) (h.fits x.0 x.1))

      go : (m : Bool) → is_nil f.initial ≡ m → Safe program fixed types (Some d) [] (initialised program p (Reference o) f f.initial) (Keeps [])
      go true e = subst (λ (z : Tree). Safe program fixed types (Some d) [] (initialised program p (Reference o) f z) (Keeps [])) (sym (nil_is f.initial e)) (safe_give program fixed types (Some d) [] tt _ refl)
      go false e =
          subst (λ (z : Run (Unit {0})). Safe program fixed types (Some d) [] z (Keeps [])) (sym (initialised_present program p (Reference o) f f.initial e))
          (safe_next program fixed types (Some d) [] (p.value (class_scope program f.class) f.initial) _ _ _ (given e)
          (λ more v x i. safe_store_new program fixed more (Some d) [] f d o v n.own h.has (ap (λ (k : ℕ). is_below program.table d k) h.class ∙ below_itself program.table d) (λ k l. ap (λ (j : ℕ). is_below program.table k j) h.class ∙ l)
          (new_of more o c d (new_more types more o c x n) b) (i (variable_not_void f.type h.variable))))

  fields_initialised : (c d o : ℕ) (fs : List Field) → AreInitialised program d fs → is_below program.table c d ≡ true → (types : List JavaType) → IsNew types o c → Safe program fixed types (Some d) [] (all_initialised program p (Reference o) fs) (Keeps [])
  fields_initialised c d o [] h b types n = safe_give program fixed types (Some d) [] tt _ refl
  fields_initialised c d o (f ∷ fs) h b types n =
      safe_keep program fixed types (Some d) [] (initialised program p (Reference o) f f.initial) _ _ (one_initialised c d o f h.0 b types n) (λ more u x. fields_initialised c d o fs h.1 b more (new_more types more o c x n))

  -- ---- the call of the superclass's constructor

  arguments_typed : (s : Scope) (es : Tree) → IsScope program fixed s → Coded program fixed Expressions s es → (judged s es).faults ≡ [] → (ts : List JavaType) × ((judged s es).typed ≡ Values ts)
  unfolding judged
  arguments_typed s trees.Nil k h f = ([], refl)
  arguments_typed s (trees.Cons a b) k h f =
      let here = after_expression program.arrays (type_of_old fixed.olds) s (plain s) false a h.0 in
      let x = typed_at program fixed facts s a k h.0 (front_none (judged s a).faults (judged (after s a) b).faults f) in
      let r = arguments_typed s b k h.1 (subst (λ (z : Scope). (judged z b).faults ≡ []) here (back_none (judged s a).faults (judged (after s a) b).faults f)) in
      (x.type ∷ r.0, joined_as (judged s a).typed (judged (after s a) b).typed x.type r.0 x.known (ap (λ (z : Scope). (judged z b).typed) here ∙ r.1))
    where
      joined_as : (x y : Typed) (t : JavaType) (ts : List JavaType) → type_in x ≡ Some t → y ≡ Values ts → Rattle.kr_types_meaning.specs.Typing.joined x y ≡ Values (t ∷ ts)
      joined_as (rules.Value u) y t ts e g = ap (λ (z : Typed). Rattle.kr_types_meaning.specs.Typing.joined (rules.Value u) z) g ∙ ap (λ (z : JavaType). Values (z ∷ ts)) (Rattle.kr_laws_safety.proofs.Glue.some_inside u t e)
      joined_as (rules.Variable u) y t ts e g = ap (λ (z : Typed). Rattle.kr_types_meaning.specs.Typing.joined (rules.Variable u) z) g ∙ ap (λ (z : JavaType). Values (z ∷ ts)) (Rattle.kr_laws_safety.proofs.Glue.some_inside u t e)
      joined_as (Values us) y t ts e g = absurd (cc (e))
      joined_as Untyped y t ts e g = absurd (cc (e))
  arguments_typed s _ k h f = absurd h

  super_given : (s : Scope) (t : Tree) → IsScope program fixed s → s.table ≡ program.table → AreAllVariables (types_in (super_parameters s)) → plain s ≡ s → CallsSuper program.arrays (type_of_old fixed.olds) s t → (types : List JavaType) → Given program fixed facts p q s types (types_in (super_parameters s)) (super_arguments p s t)
  unfolding judged
  super_given s (trees.ConstructorCall pl es) k table v e h types =
      let coded = subst (λ (z : Scope). IsCode program.arrays (type_of_old fixed.olds) Expressions z es) (sym e) h.0 in
      let below = below_none pl (on_list (super_constructor_rule s) (judged s es).typed) (judged s es).faults h.1 in
      let ts = arguments_typed s es k coded below in
      let rule = kept pl (on_list (super_constructor_rule s) (judged s es).typed) (judged s es).faults h.1 in
      let fit = fits ts.0 rule.0 (ap (λ (z : Typed). on_list (super_constructor_rule s) z) (sym ts.1) ∙ rule.1) in
      let fit' = subst (λ (z : Table). Fit z ts.0 (types_in (super_parameters s))) table (arguments_are s ts.0 (super_parameters s) v fit) in
      safe_then program fixed types (this_of s) (types_of s.locals) tick _ _ _ (safe_tick program fixed types (this_of s) (types_of s.locals))
      (λ more ms u x l. subst (λ (z : List JavaType). Safe program fixed more (this_of s) z (values_of p s (items es)) (λ others after vs. (after ≡ types_of s.locals) × AreOf program.table others (types_in (super_parameters s)) vs)) (sym l)
      (subst (λ (z : Scope). Given program fixed facts p q s more (types_in (super_parameters s)) (values_of p z (items es))) e (arguments program fixed facts p q s es k coded below ts.0 (types_in (super_parameters s)) ts.1 fit' (variables_used (types_in (super_parameters s)) v) more)))
    where
      fits : (ts : List JavaType) (x : Typed) → ask (arguments_fit s ts (super_parameters s)) 34 rules.fine ≡ Fits x → arguments_fit s ts (super_parameters s) ≡ true
      fits ts x r = go (arguments_fit s ts (super_parameters s)) r
        where
          go : (b : Bool) → ask b 34 rules.fine ≡ Fits x → b ≡ true
          go true r = refl
          go false r = absurd (cc (r))
  super_given s _ k table v e h types = subst (λ (ps : List Parameter). Given program fixed facts p q s types (types_in ps) (give [])) (sym h) (safe_give program fixed types (this_of s) (types_of s.locals) [] _ (refl, tt))

  -- ---- constructors

  ended : (types : List JavaType) (this : Option ℕ) (ls before locals : List JavaType) (flow : Flow) → LeadsOn program.table VoidType false before locals types ls flow → Safe program fixed types this ls (completed flow) (λ more after u. Unit {0})
  ended types this ls before locals Next h = safe_give program fixed types this ls tt _ tt
  ended types this ls before locals Left h = safe_give program fixed types this ls tt _ tt
  ended types this ls before locals (Gave v) h = absurd (cc (h.1))
  ended types this ls before locals Broke h = absurd (cc (h.1))
  ended types this ls before locals Continued h = absurd (cc (h.1))

  -- a line of constructors, on a new object
  abbrev pub Constructs : ℕ → ℕ → List ℕ → Type 0
  Constructs c o cs = (types : List JavaType) (this : Option ℕ) (ls : List JavaType) (vs : List Value) → IsNew types o c → AreOf program.table types (taken_by program.table cs) vs → Safe program fixed types this ls (constructed program p cs (Reference o) vs) (Keeps ls)

  inside : (types : List JavaType) (this : Option ℕ) (ls : List JavaType) (n c d o : ℕ) (ps : List JavaType) (vs : List Value) (m : Run (Unit {0})) → n ≡ length ps → IsNew types o c → is_below program.table c d ≡ true → AreOf program.table types ps vs → Safe program fixed types (Some d) ps m (λ more after u. Unit {0})
      → Safe program fixed types this ls (within (Reference o) n vs m) (Keeps ls)
  inside types this ls n c d o ps vs m e new b j s =
      subst (λ (k : ℕ). Safe program fixed types this ls (within (Reference o) k vs m) (Keeps ls)) (sym e)
      (safe_map program fixed types this ls (within (Reference o) (length ps) vs m) _ _ (safe_within program fixed types this (Some d) ls ps (Reference o) vs m (λ more u. Unit {0}) (new_this types o c d new b) j s) (λ more ms u h. h.0))

  by_implied : (c d o : ℕ) (cs : List ℕ) → is_below program.table c d ≡ true → super_of program.table d ≡ first_class cs → IsConstructed program d None → Constructs c o cs → (types : List JavaType) (this : Option ℕ) (ls : List JavaType) (vs : List Value) → IsNew types o c → AreOf program.table types (types_in (constructor_parameters program.table d)) vs
      → Safe program fixed types this ls (constructed_by program p d None (Reference o) vs (constructed program p cs (Reference o))) (Keeps ls)
  by_implied c d o cs b line h up types this ls vs new j =
      let none = ap types_in h.0 in
      let up_none : taken_by program.table cs ≡ [] = sym (super_taken (class_scope program d) cs line) ∙ ap types_in h.1 in
      inside types this ls 0 c d o [] vs _ refl new b (subst (λ (ts : List JavaType). AreOf program.table types ts vs) none j)
      (safe_keep program fixed types (Some d) [] (constructed program p cs (Reference o) []) _ _ (up types (Some d) [] [] new (subst (λ (ts : List JavaType). AreOf program.table types ts []) (sym up_none) tt))
      (λ more u x. safe_map program fixed more (Some d) [] (all_initialised program p (Reference o) (declared_fields program d)) _ _ (fields_initialised c d o (declared_fields program d) (facts.classes d).initialised b more (new_more types more o c x new)) (λ others ms w z. tt)))

  by_declared : (c d o : ℕ) (cs : List ℕ) (k : Constructor) → is_below program.table c d ≡ true → super_of program.table d ≡ first_class cs → IsConstructor program d k → Constructs c o cs → (types : List JavaType) (this : Option ℕ) (ls : List JavaType) (vs : List Value) → IsNew types o c → AreOf program.table types (types_in (constructor_parameters program.table d)) vs
      → Safe program fixed types this ls (constructed_by program p d (Some k) (Reference o) vs (constructed program p cs (Reference o))) (Keeps ls)
  by_declared c d o cs k b line h up types this ls vs new j =
      let s = constructor_scope program d k in
      let scope = constructor_is_scope d k h.parameters in
      let taken = ap types_in h.taken in
      let above = super_taken s cs line in
      let variables = super_variables d in
      let types_are = parameter_types k.parameters in
      inside types this ls (length k.parameters) c d o (types_in k.parameters) vs _ (sym (length-map k.parameters (λ x. x.type))) new b (subst (λ (ts : List JavaType). AreOf program.table types ts vs) taken j)
      (safe_next program fixed types (Some d) (types_in k.parameters) (super_arguments p s k.call) _ _ _
      (subst (λ (z : List JavaType). Safe program fixed types (Some d) z (super_arguments p s k.call) (λ more after us. (after ≡ z) × AreOf program.table more (types_in (super_parameters s)) us)) types_are (super_given s k.call scope refl variables refl (h.call (type_of_old fixed.olds)) types))
      (λ more us x i. let new1 = new_more types more o c x new in safe_keep program fixed more (Some d) (types_in k.parameters) (constructed program p cs (Reference o) us) _ _ (up more (Some d) (types_in k.parameters) us new1 (subst (λ (ts : List JavaType). AreOf program.table more ts us) above i))
      (λ others w y. let new2 = new_more more others o c y new1 in safe_keep program fixed others (Some d) (types_in k.parameters) (within (Reference o) 0 [] (all_initialised program p (Reference o) (declared_fields program d))) _ _
      (inside others (Some d) (types_in k.parameters) 0 c d o [] [] _ refl new2 b tt (safe_map program fixed others (Some d) [] (all_initialised program p (Reference o) (declared_fields program d)) _ _ (fields_initialised c d o (declared_fields program d) (facts.classes d).initialised b others new2) (λ last ms w z. tt)))
      (λ last w z. safe_then program fixed last (Some d) (types_in k.parameters) (all p s k.body) completed _ _
      (subst (λ (y : List JavaType). Safe program fixed last (Some d) y (all p s k.body) (LeadsOn program.table VoidType false (types_of s.locals) (types_of (after_all program.arrays (type_of_old fixed.olds) s k.body).locals))) types_are (sequence program fixed facts p q s k.body scope refl (h.body (type_of_old fixed.olds)) last))
      (λ end ms flow y l. ended end (Some d) ms (types_of s.locals) (types_of (after_all program.arrays (type_of_old fixed.olds) s k.body).locals) flow l)))))

  pub line_constructed : (c o : ℕ) (cs : List ℕ) → IsLine program.table cs → IsBelowAll program.table c cs → Constructs c o cs
  line_constructed c o [] l b types this ls [] new j = safe_give program fixed types this ls tt _ refl
  line_constructed c o [] l b types this ls (v ∷ vs) new j = absurd j
  line_constructed c o (d ∷ cs) l b types this ls vs new j = go (constructor_of program d) (facts.classes d).constructed (line_constructed c o cs l.1 b.1)
    where
      go : (k : Option Constructor) → IsConstructed program d k → Constructs c o cs → Safe program fixed types this ls (constructed_by program p d k (Reference o) vs (constructed program p cs (Reference o))) (Keeps ls)
      go None h up = by_implied c d o cs b.0 l.0 h up types this ls vs new j
      go (Some k) h up = by_declared c d o cs k b.0 l.0 h up types this ls vs new j

  -- ---- creations

  pub object_created : (types : List JavaType) (this : Option ℕ) (ls : List JavaType) (c : ℕ) (vs : List Value) → AreOf program.table types (types_in (constructor_parameters program.table c)) vs → Safe program fixed types this ls (create program p (ClassType c) vs) (Gives program ls (ClassType c))
  object_created types this ls c vs j =
      safe_next program fixed types this ls (make (Object c) (map (λ f. default_of f.type) (fields_of program.table c))) _ (λ more v. (o : ℕ) × (v ≡ Reference o) × IsNew more o c) _
      (safe_map program fixed types this ls (make (Object c) (map (λ f. default_of f.type) (fields_of program.table c))) _ _ (safe_make program fixed types this ls (ClassType c) (Object c) (map (λ f. default_of f.type) (fields_of program.table c)) (refl, defaults_are program.table types (fields_of program.table c) (facts.classes c).fields))
      (λ more ms v h. (h.0, (h.1, h.2, record { there = h.3; type = h.4; own = h.5 }))))
      (λ more v x n. subst (λ (w : Value). Safe program fixed more this ls (constructed program p (line_of program.table c) w vs >> give w) (Gives program ls (ClassType c))) (sym n.1)
      (safe_keep program fixed more this ls (constructed program p (line_of program.table c) (Reference n.0) vs) _ _ (line_constructed c n.0 (line_of program.table c) (facts.classes c).line (line_below program.table c) more this ls vs n.2 (values_more program.table types more (types_in (constructor_parameters program.table c)) vs x j))
      (λ others u y. safe_give program fixed others this ls (Reference n.0) _ (refl, new_of others n.0 c c (new_more more others n.0 c y n.2) (below_itself program.table c)))))
