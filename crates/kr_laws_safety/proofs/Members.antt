-- Calls on collections.
use Rattle.std.proofs.Common.{◌≡◌, ℕ, ◌⊎◌, inl, inr, Bool, true, false, List, [], ◌∷◌, Option, refl, sym, ap, ◌∙◌, subst}
use Rattle.std.specs.Prelude.{◌&&◌, ◌||◌, not, bytes_eq, codes, if◌then◌else◌}
use Rattle.std.proofs.lemmas.Slice.Eq.{bytes_eq-Decides}
use Rattle.std.proofs.lemmas.Bool.{and_parts, or_cases}
use Rattle.kr_value.specs.declared.value.Value.{Value}
use Rattle.kr_classes_table.specs.Types.{JavaType, NumberType, int_type, BooleanType, NullType, ClassType, ArrayType, SetType, ListType, InferredType, is_void, is_element, is_reference, is_collection}
use Rattle.kr_classes_table.specs.Table.{is_assignable}
use Rattle.kr_types_meaning.specs.Scopes.{Scope}
use Rattle.kr_types_meaning.specs.Rules as rules
use Rattle.kr_types_meaning.specs.Rules.{Fits, ask, plain_call_rule, member_call_rule, collection_rule}
use Rattle.kr_mean.specs.Program.{Program}
use Rattle.kr_mean.specs.Steps.{collect}
use Rattle.kr_laws_safety.specs.Fits.{IsOf, AreOf}
use Rattle.kr_laws_safety.specs.Triples.{Fixed, Safe, Gives}
use Rattle.kr_laws_safety.specs.Steps.{Collection, Sets, Lists, type_with}
use Rattle.kr_laws_safety.proofs.Vectors.{type_same}
use Rattle.kr_laws_safety.proofs.Collections.{safe_add, safe_contains, safe_remove, safe_size, safe_is_empty, safe_remove_first}
use Rattle.kr_laws_types.specs.Types.{is_variable_type, is_value_type}
use Rattle.kr_laws_types.proofs.Given.{AreValues}
use Rattle.kr_laws_safety.specs.Claims.{is_target}
use Rattle.kr_laws_safety.proofs.Targets.{variable_target, variable_not_void, used}
use Rattle.kr_laws_safety.proofs.Glue.{Ruled, ruled_ask, ruled_value, settled}
use Rattle.kr_laws_safety.proofs.Calls.{Fit, AreUsed}

-- a list, or a set
abbrev pub is_list : Collection → Bool
is_list Sets = false
is_list Lists = true

-- a collection used with members of a type: its own, if it has one
pub record Members (program : Program) (k : Collection) (e : JavaType) : Type 0 where
  pub of : JavaType
  pub target : is_target (type_with k of) ≡ true
  pub given : is_void (type_with k of) ≡ false
  pub fits : is_assignable program.table (type_with k e) (type_with k of) ≡ true
  pub element : is_element of ≡ true
  pub variable : is_variable_type of ≡ true
  pub own : is_element e ≡ true → of ≡ e

pub members : (program : Program) (k : Collection) (e : JavaType) → is_value_type (type_with k e) ≡ true → Members program k e
members program Sets InferredType h = record { of = ClassType 0; target = refl; given = refl; fits = refl; element = refl; variable = refl; own = λ q. absurd (cc (q)) }
members program Sets (ClassType c) h = record { of = ClassType c; target = refl; given = refl; fits = type_same (SetType (ClassType c)); element = refl; variable = refl; own = λ q. refl }
members program Sets (ArrayType t) h = record { of = ArrayType t; target = h; given = refl; fits = type_same (SetType (ArrayType t)); element = refl; variable = h; own = λ q. refl }
members program Sets _ h = absurd (cc (h))
members program Lists InferredType h = record { of = ClassType 0; target = refl; given = refl; fits = refl; element = refl; variable = refl; own = λ q. absurd (cc (q)) }
members program Lists (ClassType c) h = record { of = ClassType c; target = refl; given = refl; fits = type_same (ListType (ClassType c)); element = refl; variable = refl; own = λ q. refl }
members program Lists (ArrayType t) h = record { of = ArrayType t; target = h; given = refl; fits = type_same (ListType (ArrayType t)); element = refl; variable = h; own = λ q. refl }
members program Lists _ h = absurd (cc (h))

-- an added value is of the members' type
element_of : (program : Program) (k : Collection) (x e : JavaType) → is_value_type x ≡ true → is_value_type (type_with k e) ≡ true → is_assignable program.table x e ≡ true → is_element e ≡ true
element_of program k x (ClassType c) vx ve h = refl
element_of program k x (ArrayType t) vx ve h = refl
element_of program k NullType InferredType vx ve h = absurd (cc (h))
element_of program k (NumberType w) InferredType vx ve h = absurd (cc (h))
element_of program k BooleanType InferredType vx ve h = absurd (cc (h))
element_of program k (ClassType c) InferredType vx ve h = absurd (cc (h))
element_of program k (ArrayType t) InferredType vx ve h = absurd (cc (h))
element_of program k (SetType InferredType) InferredType vx ve h = absurd (cc (h))
element_of program k (SetType t) InferredType vx ve h = absurd (cc (h))
element_of program k (ListType InferredType) InferredType vx ve h = absurd (cc (h))
element_of program k (ListType t) InferredType vx ve h = absurd (cc (h))
element_of program k _ InferredType vx ve h = absurd (cc (vx))
element_of program Sets x _ vx ve h = absurd (cc (ve))
element_of program Lists x _ vx ve h = absurd (cc (ve))

module _ (program : Program) (fixed : Fixed) where
  -- the arguments of a call, which is safe on values of these types
  pub record Call (k : Collection) (e t w : JavaType) (n : List ℕ) (ts : List JavaType) : Type 0 where
    pub takes : List JavaType
    pub used_as : AreUsed takes
    pub fit : Fit program.table ts takes
    pub safe : (types : List JavaType) (this : Option ℕ) (ls : List JavaType) (o : Value) (vs : List Value) → IsOf program.table types (type_with k w) o → AreOf program.table types takes vs → Safe program fixed types this ls (collect n o vs) (Gives program ls t)

  none : (types : List JavaType) (vs : List Value) → AreOf program.table types [] vs → vs ≡ []
  none types [] j = refl
  none types (v ∷ vs) j = absurd j

  one : (types : List JavaType) (t : JavaType) (vs : List Value) → AreOf program.table types (t ∷ []) vs → (v : Value) × (vs ≡ v ∷ []) × IsOf program.table types t v
  one types t [] j = absurd j
  one types t (v ∷ []) j = (v, refl, j.0)
  one types t (v ∷ w ∷ vs) j = absurd j.1

  name_is : (n m : List ℕ) → bytes_eq n m ≡ true → m ≡ n
  name_is n m e = sym ((bytes_eq-Decides n m).0 e)

  abbrev Run' : (n : List ℕ) (t : JavaType) (types : List JavaType) (this : Option ℕ) (ls : List JavaType) (o : Value) (vs : List Value) → Type 0
  Run' n t types this ls o vs = Safe program fixed types this ls (collect n o vs) (Gives program ls t)

  plain_call : (s : Scope) (k : Collection) (e t : JavaType) (n : List ℕ) (m : Members program k e) → Ruled (plain_call_rule (is_list k) e n) t → Call k e t m.of n []
  plain_call s k e t n m r = go (bytes_eq n (codes "size")) refl (bytes_eq n (codes "isEmpty")) refl r
    where
      first : (k : Collection) → (w : JavaType) → is_list k ≡ true → (types : List JavaType) (this : Option ℕ) (ls : List JavaType) (o : Value) → IsOf program.table types (type_with k w) o → Safe program fixed types this ls (collect (codes "removeFirst") o []) (Gives program ls w)
      first Lists w q types this ls o i = safe_remove_first program fixed types this ls w o i
      first Sets w q types this ls o i = absurd (cc (q))

      go : (a : Bool) → bytes_eq n (codes "size") ≡ a → (b : Bool) → bytes_eq n (codes "isEmpty") ≡ b
          → Ruled (if a then Fits (rules.Value int_type) else if b then Fits (rules.Value BooleanType) else ask (bytes_eq n (codes "removeFirst") && is_list k && is_element e) 25 (Fits (rules.Value e))) t → Call k e t m.of n []
      go true x b y r = record {
        takes = [];
        used_as = tt;
        fit = tt;
        safe = λ types this ls o vs i j. subst (λ (z : List Value). Run' n t types this ls o z) (sym (none types vs j)) (subst (λ (z : List ℕ). Run' z t types this ls o []) (name_is n (codes "size") x) (subst (λ (z : JavaType). Run' (codes "size") z types this ls o []) (ruled_value int_type t r) (safe_size program fixed types this ls k m.of o i)));
      }
      go false x true y r = record {
        takes = [];
        used_as = tt;
        fit = tt;
        safe = λ types this ls o vs i j. subst (λ (z : List Value). Run' n t types this ls o z) (sym (none types vs j)) (subst (λ (z : List ℕ). Run' z t types this ls o []) (name_is n (codes "isEmpty") y) (subst (λ (z : JavaType). Run' (codes "isEmpty") z types this ls o []) (ruled_value BooleanType t r) (safe_is_empty program fixed types this ls k m.of o i)));
      }
      go false x false y r =
          let a = ruled_ask (bytes_eq n (codes "removeFirst") && is_list k && is_element e) 25 (Fits (rules.Value e)) t r in
          let b = and_parts (bytes_eq n (codes "removeFirst") && is_list k) (is_element e) a.0 in
          let c = and_parts (bytes_eq n (codes "removeFirst")) (is_list k) b.0 in
          record {
            takes = [];
            used_as = tt;
            fit = tt;
            safe = λ types this ls o vs i j. subst (λ (z : List Value). Run' n t types this ls o z) (sym (none types vs j)) (subst (λ (z : List ℕ). Run' z t types this ls o []) (name_is n (codes "removeFirst") c.0) (subst (λ (z : JavaType). Run' (codes "removeFirst") z types this ls o []) (m.own b.1 ∙ ruled_value e t a.1) (first k m.of c.1 types this ls o i)));
          }

  member_call : (s : Scope) (k : Collection) (e t x : JavaType) (n : List ℕ) (m : Members program k e) → is_value_type x ≡ true → is_value_type (type_with k e) ≡ true → Ruled (member_call_rule (settled program fixed s) e n x) t → Call k e t m.of n (x ∷ [])
  member_call s k e t x n m vx ve r = go (bytes_eq n (codes "add")) refl r
    where
      found : (bytes_eq n (codes "contains") ≡ true) ⊎ (bytes_eq n (codes "remove") ≡ true) → (types : List JavaType) (this : Option ℕ) (ls : List JavaType) (o v : Value) → IsOf program.table types (type_with k m.of) o → Safe program fixed types this ls (collect n o (v ∷ [])) (Gives program ls BooleanType)
      found (inl q) types this ls o v i = subst (λ (z : List ℕ). Run' z BooleanType types this ls o (v ∷ [])) (name_is n (codes "contains") q) (safe_contains program fixed types this ls k m.of o v i)
      found (inr q) types this ls o v i = subst (λ (z : List ℕ). Run' z BooleanType types this ls o (v ∷ [])) (name_is n (codes "remove") q) (safe_remove program fixed types this ls k m.of o v i)

      go : (a : Bool) → bytes_eq n (codes "add") ≡ a
          → Ruled (if a then ask (is_assignable program.table x e) 25 (Fits (rules.Value BooleanType)) else ask ((bytes_eq n (codes "contains") || bytes_eq n (codes "remove")) && is_reference x && not (is_collection x)) 25 (Fits (rules.Value BooleanType))) t → Call k e t m.of n (x ∷ [])
      go true q r =
          let a = ruled_ask (is_assignable program.table x e) 25 (Fits (rules.Value BooleanType)) t r in
          let own = m.own (element_of program k x e vx ve a.0) in
          record {
            takes = m.of ∷ [];
            used_as = ((variable_target m.of m.variable, variable_not_void m.of m.variable), tt);
            fit = (ap (λ (z : JavaType). is_assignable program.table x z) own ∙ a.0, tt);
            safe = λ types this ls o vs i j. let v = one types m.of vs j in subst (λ (z : List Value). Run' n t types this ls o z) (sym v.1) (subst (λ (z : List ℕ). Run' z t types this ls o (v.0 ∷ [])) (name_is n (codes "add") q) (subst (λ (z : JavaType). Run' (codes "add") z types this ls o (v.0 ∷ [])) (ruled_value BooleanType t a.1) (safe_add program fixed types this ls k m.of o v.0 i v.2)));
          }
      go false q r =
          let a = ruled_ask ((bytes_eq n (codes "contains") || bytes_eq n (codes "remove")) && is_reference x && not (is_collection x)) 25 (Fits (rules.Value BooleanType)) t r in
          let b = and_parts ((bytes_eq n (codes "contains") || bytes_eq n (codes "remove")) && is_reference x) (not (is_collection x)) a.0 in
          let c = and_parts (bytes_eq n (codes "contains") || bytes_eq n (codes "remove")) (is_reference x) b.0 in
          let u = used program.table x vx in
          record {
            takes = u.type ∷ [];
            used_as = ((u.target, u.given), tt);
            fit = (u.fits, tt);
            safe = λ types this ls o vs i j. let v = one types u.type vs j in subst (λ (z : List Value). Run' n t types this ls o z) (sym v.1) (subst (λ (z : JavaType). Run' n z types this ls o (v.0 ∷ [])) (ruled_value BooleanType t a.1) (found (or_cases (bytes_eq n (codes "contains")) (bytes_eq n (codes "remove")) c.0) types this ls o v.0 i));
          }

  pub collection_call : (s : Scope) (k : Collection) (e t : JavaType) (n : List ℕ) (ts : List JavaType) (m : Members program k e) → AreValues ts → is_value_type (type_with k e) ≡ true → Ruled (collection_rule (settled program fixed s) (is_list k) e n ts) t → Call k e t m.of n ts
  collection_call s k e t n [] m v ve r = plain_call s k e t n m r
  collection_call s k e t n (x ∷ []) m v ve r = member_call s k e t x n m v.0 ve r
  collection_call s k e t n (x ∷ y ∷ xs) m v ve r = absurd (cc (r.1))
