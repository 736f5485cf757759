-- The steps of a construct together, and its typing rule.
use Rattle.std.proofs.Common.{◌≡◌, ℕ, Bool, true, false, List, [], ◌++◌, Option, Some, None, refl, sym, ap, ◌∙◌, subst}
use Rattle.std.specs.Prelude.{if◌then◌else◌}
use Rattle.kr_base.specs.declared.place.Place.{Place}
use Rattle.kr_ast.specs.Tree.{Tree}
use Rattle.kr_value.specs.declared.value.Value.{Value}
use Rattle.kr_classes_table.specs.Numbers.{Width}
use Rattle.kr_classes_table.specs.Types.{JavaType, NumberType, int_type, BooleanType}
use Rattle.kr_classes_table.specs.Rules.{Fault}
use Rattle.kr_classes_table.specs.Table.{Table, is_assignable}
use Rattle.kr_types_meaning.specs.Scopes.{Scope}
use Rattle.kr_types_meaning.specs.Rules as rules
use Rattle.kr_types_meaning.specs.Promotion.{promoted_alone}
use Rattle.kr_types_meaning.specs.Rules.{Typed, Values, Untyped, Judgement, Fits, Breaks, ask, is_int, is_boolean, of_promoted}
use Rattle.kr_types_meaning.specs.Typing.{Judged, judge, on_one, on_two, judged, type_in}
use Rattle.kr_mean.specs.Program.{Program}
use Rattle.kr_mean.specs.Steps.{Run, ◌>>=◌}
use Rattle.kr_laws_safety.specs.Triples.{Fixed, Safe, Extends, Gives, Keeps, type_of_old}
use Rattle.kr_laws_safety.proofs.Heaps.{same_type}
use Rattle.kr_laws_safety.proofs.Steps.{safe_then, safe_map}
use Rattle.kr_laws_types.specs.Types.{HasVariables}
use Rattle.kr_laws_types.specs.Shapes.{Expression}
use Rattle.kr_laws_types.specs.Expressions.{IsTyped}
use Rattle.kr_laws_types.proofs.Given.{Fine}
use Rattle.kr_laws_types.proofs.Expressions.{is_typed}
use Rattle.kr_laws_safety.specs.Typed.{IsTypedProgram}
use Rattle.kr_laws_safety.specs.Claims.{GivesAs, IsScope, Coded}
use Rattle.kr_laws_safety.proofs.Targets.{IsOnward, widened, void_kept}
use Rattle.kr_laws_types.proofs.Typed.{fits_same}
use Rattle.kr_base.proofs.ListLemmas.{push_is_some}

-- ---- rules

-- a rule that is kept, of a node of a type
abbrev pub Ruled : Judgement → JavaType → Type 0
Ruled v t = (x : Typed) × (v ≡ Fits x) × (type_in x ≡ Some t)

pub ruled : (p : Place) (v : Judgement) (below : List Fault) (t : JavaType) → (judge p v below).faults ≡ [] → type_in (judge p v below).typed ≡ Some t → Ruled v t
ruled p (Fits x) below t e f = (x, refl, f)
ruled p (Breaks r) below t e f = absurd (cc (f))

-- a rule that gives no type is kept
pub kept : (p : Place) (v : Judgement) (below : List Fault) → (judge p v below).faults ≡ [] → (x : Typed) × (v ≡ Fits x)
kept p (Fits x) below e = (x, refl)
kept p (Breaks r) below e = absurd (push_is_some below (record { place = p; rule = r }) e)

pub on_type : (f : JavaType → Judgement) (x : Typed) (t : JavaType) → type_in x ≡ Some t → on_one f x ≡ f t
on_type f (rules.Value u) t e = ap (λ (z : Option JavaType). by z) e
  where
    by : Option JavaType → Judgement
    by None = f u
    by (Some z) = f z
on_type f (rules.Variable u) t e = ap (λ (z : Option JavaType). by z) e
  where
    by : Option JavaType → Judgement
    by None = f u
    by (Some z) = f z
on_type f (Values ts) t e = absurd (cc (e))
on_type f Untyped t e = absurd (cc (e))

pub ruled_as : (v w : Judgement) (t : JavaType) → v ≡ w → Ruled v t → Ruled w t
ruled_as v w t e r = (r.0, sym e ∙ r.1, r.2)

pub ruled_one : (p : Place) (f : JavaType → Judgement) (x : Judged) (a t : JavaType) → type_in x.typed ≡ Some a → (judge p (on_one f x.typed) x.faults).faults ≡ [] → type_in (judge p (on_one f x.typed) x.faults).typed ≡ Some t → Ruled (f a) t
ruled_one p f x a t k e g = ruled_as (on_one f x.typed) (f a) t (on_type f x.typed a k) (ruled p (on_one f x.typed) x.faults t e g)

pub ruled_two : (p : Place) (f : JavaType → JavaType → Judgement) (x y : Judged) (a b t : JavaType) → type_in x.typed ≡ Some a → type_in y.typed ≡ Some b → (judge p (on_two f x.typed y.typed) (x.faults ++ y.faults)).faults ≡ []
    → type_in (judge p (on_two f x.typed y.typed) (x.faults ++ y.faults)).typed ≡ Some t → Ruled (f a b) t
ruled_two p f x y a b t k l e g = ruled_as (on_two f x.typed y.typed) (f a b) t (on_type (λ a. on_one (f a) y.typed) x.typed a k ∙ on_type (f a) y.typed b l) (ruled p (on_two f x.typed y.typed) (x.faults ++ y.faults) t e g)

pub ruled_ask : (b : Bool) (r : ℕ) (v : Judgement) (t : JavaType) → Ruled (ask b r v) t → (b ≡ true) × Ruled v t
ruled_ask true r v t h = (refl, h)
ruled_ask false r v t h = absurd (cc (h.1))

pub some_inside : (t u : JavaType) → Some t ≡ Some u → t ≡ u
some_inside t u e = ap inside e
  where
    inside : Option JavaType → JavaType
    inside (Some z) = z
    inside None = t

pub same_types : (x : Option JavaType) (t u : JavaType) → x ≡ Some t → x ≡ Some u → t ≡ u
same_types x t u e f = some_inside t u (sym e ∙ f)

pub ruled_value : (u t : JavaType) → Ruled (Fits (rules.Value u)) t → u ≡ t
ruled_value u t r = some_inside u t (ap type_in (fits_same (rules.Value u) r.0 r.1) ∙ r.2)

pub ruled_variable : (u t : JavaType) → Ruled (Fits (rules.Variable u)) t → u ≡ t
ruled_variable u t r = some_inside u t (ap type_in (fits_same (rules.Variable u) r.0 r.1) ∙ r.2)

pub ruled_gives : (u t : JavaType) → Ruled (rules.gives u) t → u ≡ t
ruled_gives u t r = go (Rattle.kr_classes_table.specs.Types.is_known u) r
  where
    go : (b : Bool) → Ruled (Fits (if b then rules.Value u else Untyped)) t → u ≡ t
    go true r = ruled_value u t r
    go false r = absurd (cc (r.2, ap type_in (fits_same Untyped r.0 r.1)))

pub ruled_varies : (u t : JavaType) → Ruled (Fits (rules.variable_of u)) t → u ≡ t
ruled_varies u t r = go (Rattle.kr_classes_table.specs.Types.is_known u) r
  where
    go : (b : Bool) → Ruled (Fits (if b then rules.Variable u else Untyped)) t → u ≡ t
    go true r = ruled_variable u t r
    go false r = absurd (cc (r.2, ap type_in (fits_same Untyped r.0 r.1)))

-- a rule that gives no variable gives a value
pub ruled_plainly : (b : Bool) (v : Judgement) (t : JavaType) → Fine false b v → Ruled v t → v ≡ Fits (rules.Value t)
ruled_plainly b (Fits (rules.Value u)) t h r = ap (λ (z : JavaType). Fits (rules.Value z)) (ruled_value u t r)
ruled_plainly b (Fits (rules.Variable u)) t h r = absurd (cc (h.0))
ruled_plainly b (Fits (Values ts)) t h r = absurd h
ruled_plainly b (Fits Untyped) t h r = absurd (cc (r.2, ap type_in (fits_same Untyped r.0 r.1)))
ruled_plainly b (Breaks n) t h r = absurd (cc (r.1))

-- an operand that is promoted alone
pub ruled_alone : (a t : JavaType) (r : ℕ) → Ruled (of_promoted (promoted_alone a) r) t → (w : Width) × (a ≡ NumberType w) × (NumberType w ≡ t)
ruled_alone (NumberType w) t r h = (w, refl, ruled_value (NumberType w) t h)
ruled_alone _ t r h = absurd (cc (h.1))

pub int_is : (a : JavaType) → is_int a ≡ true → a ≡ int_type
int_is a e = same_type a int_type e

pub boolean_is : (a : JavaType) → is_boolean a ≡ true → a ≡ BooleanType
boolean_is a e = same_type a BooleanType e

-- ---- runs

module _ (program : Program) (fixed : Fixed) where
  -- goes on with locals as they were
  pub safe_next : (types : List JavaType) (this : Option ℕ) (ls : List JavaType) {A B : Type 0} (m : Run A) (f : A → Run B) (R : List JavaType → A → Type 0) (Q : List JavaType → List JavaType → B → Type 0) → Safe program fixed types this ls m (λ more after a. (after ≡ ls) × R more a)
      → ((more : List JavaType) (a : A) → Extends types more → R more a → Safe program fixed more this ls (f a) Q) → Safe program fixed types this ls (m >>= f) Q
  safe_next types this ls m f R Q p q = safe_then program fixed types this ls m f _ Q p (λ more ms a x r. subst (λ (z : List JavaType). Safe program fixed more this z (f a) Q) (sym r.0) (q more a x r.1))

  -- where only the locals are known
  pub safe_keep : (types : List JavaType) (this : Option ℕ) (ls : List JavaType) {A B : Type 0} (m : Run A) (f : A → Run B) (Q : List JavaType → List JavaType → B → Type 0) → Safe program fixed types this ls m (Keeps ls) → ((more : List JavaType) (a : A) → Extends types more → Safe program fixed more this ls (f a) Q)
      → Safe program fixed types this ls (m >>= f) Q
  safe_keep types this ls m f Q p q = safe_then program fixed types this ls m f _ Q p (λ more ms a x r. subst (λ (z : List JavaType). Safe program fixed more this z (f a) Q) (sym r) (q more a x))

  -- a value of a type is given as one to which it may be assigned
  pub safe_as : (onward : IsOnward program.table) (types : List JavaType) (this : Option ℕ) (ls : List JavaType) (m : Run Value) (t u : JavaType) → is_assignable program.table t u ≡ true → Safe program fixed types this ls m (Gives program ls t) → Safe program fixed types this ls m (GivesAs program ls u)
  safe_as onward types this ls m t u e p = safe_map program fixed types this ls m _ _ p (λ more ms v r. (r.0, λ g. widened program.table onward more t u v e r.1))

  -- so is one that may have none
  pub safe_as_result : (onward : IsOnward program.table) (types : List JavaType) (this : Option ℕ) (ls : List JavaType) (m : Run Value) (t u : JavaType) → is_assignable program.table t u ≡ true → Safe program fixed types this ls m (GivesAs program ls t) → Safe program fixed types this ls m (GivesAs program ls u)
  safe_as_result onward types this ls m t u e p = safe_map program fixed types this ls m _ _ p (λ more ms v r. (r.0, λ g. widened program.table onward more t u v e (r.1 (void_kept program.table onward t u e g))))

  -- ---- scopes

  -- the table and the constants' values are the program's
  abbrev pub settled : Scope → Scope
  settled s = record s { table = program.table; values = program.values }

  pub settle : (s : Scope) → IsScope program fixed s → settled s ≡ s
  settle s k = ap (λ (t : Table). record s { table = t; values = program.values }) (sym k.0) ∙ ap (λ (vs : List Rattle.kr_classes_table.specs.Constants.Known). record s { values = vs }) (sym k.1)

  module _ (facts : IsTypedProgram program) where
    pub has_variables : HasVariables program.table
    has_variables = record { fields = λ c n f e. (facts.fields c n f e).type; results = λ c n m e. (facts.methods c n m e).0.result }

    -- the type of a part without broken nodes
    pub typed_at : (s : Scope) (e : Tree) → IsScope program fixed s → Coded program fixed (Expression false) s e → (judged s e).faults ≡ [] → IsTyped s e
    typed_at s e k h f = is_typed program.arrays (type_of_old fixed.olds) s e (subst HasVariables (sym k.0) has_variables) k.2 k.3 h f
