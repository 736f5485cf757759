-- Casts, tests of classes, `?:`, new arrays, and what postconditions see.
use Rattle.std.proofs.Common.{◌≡◌, ◌⊎◌, inl, inr, Bool, true, false, [], ◌++◌, Some, refl, sym, ap, ◌∙◌, subst}
use Rattle.std.specs.Prelude.{◌&&◌, ◌||◌, not, if◌then◌else◌}
use Rattle.std.proofs.lemmas.Bool.{and_parts, or_cases}
use Rattle.kr_base.specs.declared.place.Place.{Place}
use Rattle.kr_ast.specs.Tree as trees
use Rattle.kr_ast.specs.Tree.{Tree}
use Rattle.kr_classes_table.specs.Types.{JavaType, NumberType, int_type, BooleanType, ArrayType, is_void, is_reference, is_collection, is_element}
use Rattle.kr_classes_table.specs.Table.{is_assignable, are_related}
use Rattle.kr_types_meaning.specs.Scopes.{Scope, value, in_old, written}
use Rattle.kr_types_meaning.specs.Rules as rules
use Rattle.kr_types_meaning.specs.Promotion.{are_numbers}
use Rattle.kr_types_meaning.specs.Rules.{Fits, gives, both_boolean, related_references, is_ensuring, is_after_body, choice_rule, cast_rule, instance_rule, array_creation_rule, result_value_rule, old_rule}
use Rattle.kr_types_meaning.specs.Typing.{on_one, on_two, judged, type_in}
use Rattle.kr_mean.specs.Program.{Program}
use Rattle.kr_mean.specs.Steps.{give, ◌>>=◌, class_or_null}
use Rattle.kr_mean.specs.Meaning.{Parts, cast, instance, create_array, is_primitive, primitive_cast}
use Rattle.kr_laws_safety.specs.Triples.{Fixed, Safe, Gives, type_of_old}
use Rattle.kr_laws_safety.proofs.Steps.{safe_choose, safe_result, safe_old}
use Rattle.kr_laws_safety.proofs.Operators.{safe_create_array, safe_number_cast}
use Rattle.kr_laws_types.specs.Types.{is_value_type, is_variable_type}
use Rattle.kr_laws_types.specs.Shapes.{Expression, HasNumber}
use Rattle.kr_laws_types.specs.DerivedExpressions.{IsWritten}
use Rattle.kr_laws_types.specs.Expressions.{plain}
use Rattle.kr_laws_types.proofs.Expressions.{written_variable}
use Rattle.kr_laws_safety.specs.Typed.{IsTypedProgram}
use Rattle.kr_laws_safety.specs.Claims.{this_of, types_of, IsScope, Coded, PartsSafe}
use Rattle.kr_laws_safety.proofs.Targets.{not_true, default_is, assignable_through, used}
use Rattle.kr_laws_safety.proofs.Promoted.{numbers_are}
use Rattle.kr_laws_safety.proofs.Glue.{ruled, ruled_as, ruled_two, ruled_ask, ruled_value, ruled_gives, on_type, int_is, boolean_is, safe_next, safe_as, settled, typed_at}
use Rattle.kr_laws_safety.proofs.Scoping.{type_plain}
use Rattle.kr_laws_safety.proofs.Classes.{safe_cast, safe_instance}
use Rattle.kr_laws_safety.proofs.Operands.{written_is, written_reference, primitive_plain, Goal, part_as, part_used}
use Rattle.kr_laws_types.proofs.Typed.{front_none, back_none, below_none}

module _ (program : Program) (fixed : Fixed) (facts : IsTypedProgram program) (p : Parts) (q : PartsSafe program fixed p) where
  -- ---- casts

  references_are : (s : Scope) (to from : JavaType) → (related_references s from to && not (is_collection to) && not (is_collection from)) ≡ true → (is_reference from ≡ true) × (is_reference to ≡ true)
  references_are s to from e =
      let h = and_parts (related_references s from to && not (is_collection to)) (not (is_collection from)) e in
      let i = and_parts (related_references s from to) (not (is_collection to)) h.0 in
      let j = and_parts (is_reference from && is_reference to) (are_related s.table from to) i.0 in
      and_parts (is_reference from) (is_reference to) j.0

  pub conversion : (s : Scope) (pl : Place) (w e : Tree) → IsScope program fixed s → IsWritten w → Coded program fixed (Expression false) s e → (judged s (trees.Cast pl w e)).faults ≡ [] → Goal program fixed facts p q s (trees.Cast pl w e)
  unfolding judged
  conversion s pl w e k i h f types t u r g a =
      let below = below_none pl (on_two (cast_rule s) (judged s w).typed (judged (value s) e).typed) ((judged s w).faults ++ (judged (value s) e).faults) f in
      let back = back_none (judged s w).faults (judged (value s) e).faults below in
      let x = typed_at program fixed facts (value s) e k h back in
      let to = written_variable s w i (front_none (judged s w).faults (judged (value s) e).faults below) in
      let rule = ruled_two pl (cast_rule s) (judged s w) (judged (value s) e) to.0 x.type t to.1 x.known f r in
      let asked = ruled_ask ((are_numbers to.0 x.type || both_boolean to.0 x.type) || (related_references s x.type to.0 && not (is_collection to.0) && not (is_collection x.type))) 20 (Fits (rules.Value to.0)) t rule in
      let is = ruled_value to.0 t asked.1 in
      safe_as program fixed facts.below types (this_of s) (types_of s.locals) _ t u a (go to.0 (written_is s w to.0 i to.1) x.type x.known x.kind back is (or_cases (are_numbers to.0 x.type || both_boolean to.0 x.type) _ asked.0) (is_primitive w) refl)
    where
      Cast : Bool → Type 0
      Cast b = Safe program fixed types (this_of s) (types_of s.locals) (if b then primitive_cast (written s w) (p.value (plain s) e) else (p.value (plain s) e >>= (λ v. class_or_null v >>= cast program (written s w) v))) (Gives program (types_of s.locals) t)

      -- a number is converted, a boolean stays
      primitive : (to : JavaType) → to ≡ written s w → (from : JavaType) → type_in (judged (value s) e).typed ≡ Some from → (judged (value s) e).faults ≡ [] → to ≡ t → (are_numbers to from ≡ true) ⊎ (both_boolean to from ≡ true) → Cast true
      primitive to ew from rx back is (inl z) =
          let n = numbers_are to from z in
          subst (λ (y : JavaType). Safe program fixed types (this_of s) (types_of s.locals) (primitive_cast y (p.value (plain s) e)) (Gives program (types_of s.locals) t)) (sym n.2 ∙ ew)
          (subst (λ (y : JavaType). Safe program fixed types (this_of s) (types_of s.locals) (primitive_cast (NumberType n.0) (p.value (plain s) e)) (Gives program (types_of s.locals) y)) (sym n.2 ∙ is)
          (safe_next program fixed types (this_of s) (types_of s.locals) (p.value (plain s) e) _ _ _ (part_as program fixed facts p q (value s) e k h back types (NumberType n.1) (rx ∙ ap (λ (y : JavaType). Some y) n.3) refl refl)
          (λ more v m j. safe_number_cast program fixed more (this_of s) (types_of s.locals) n.0 n.1 v j)))
      primitive to ew from rx back is (inr z) =
          let n = and_parts (rules.is_boolean to) (rules.is_boolean from) z in
          subst (λ (y : JavaType). Safe program fixed types (this_of s) (types_of s.locals) (primitive_cast y (p.value (plain s) e)) (Gives program (types_of s.locals) t)) (sym (boolean_is to n.0) ∙ ew)
          (subst (λ (y : JavaType). Safe program fixed types (this_of s) (types_of s.locals) (p.value (plain s) e) (Gives program (types_of s.locals) y)) (sym (boolean_is to n.0) ∙ is)
          (part_as program fixed facts p q (value s) e k h back types BooleanType (rx ∙ ap (λ (y : JavaType). Some y) (boolean_is from n.1)) refl refl))

      go : (to : JavaType) → to ≡ written s w → (from : JavaType) → type_in (judged (value s) e).typed ≡ Some from → is_value_type from ≡ true → (judged (value s) e).faults ≡ [] → to ≡ t
          → ((are_numbers to from || both_boolean to from) ≡ true) ⊎ ((related_references s from to && not (is_collection to) && not (is_collection from)) ≡ true) → (b : Bool) → is_primitive w ≡ b → Cast b
      go to ew from rx vx back is (inl z) true b = primitive to ew from rx back is (or_cases (are_numbers to from) (both_boolean to from) z)
      go to ew from rx vx back is (inr z) true b =
          let y = references_are s to from z in
          absurd (cc (ap is_reference ew ∙ primitive_plain s w i b, y.1))
      go to ew from rx vx back is (inl z) false b = absurd (cc (ap (λ (n : JavaType). are_numbers n from || both_boolean n from) ew ∙ written_reference s w from i b, z))
      go to ew from rx vx back is (inr z) false b =
          let y = references_are s to from z in
          let ux = used program.table from vx in
          subst (λ (n : JavaType). Safe program fixed types (this_of s) (types_of s.locals) (p.value (plain s) e >>= (λ v. class_or_null v >>= cast program (written s w) v)) (Gives program (types_of s.locals) n)) (sym ew ∙ is)
          (safe_next program fixed types (this_of s) (types_of s.locals) (p.value (plain s) e) _ _ _ (part_used program fixed facts p q (value s) e k h back types from rx ux)
          (λ more v m j. safe_cast program fixed more (this_of s) (types_of s.locals) ux.type (written s w) v (ux.reference y.0) (ap is_reference (sym ew) ∙ y.1) j))

  -- ---- tests of classes

  pub test : (s : Scope) (pl : Place) (e w : Tree) → IsScope program fixed s → Coded program fixed (Expression false) s e → IsWritten w → (judged s (trees.InstanceOf pl e w)).faults ≡ [] → Goal program fixed facts p q s (trees.InstanceOf pl e w)
  unfolding judged
  test s pl e w k h i f types t u r g a =
      let below = below_none pl (on_two (instance_rule s) (judged (value s) e).typed (judged s w).typed) ((judged (value s) e).faults ++ (judged s w).faults) f in
      let front = front_none (judged (value s) e).faults (judged s w).faults below in
      let x = typed_at program fixed facts (value s) e k h front in
      let to = written_variable s w i (back_none (judged (value s) e).faults (judged s w).faults below) in
      let rule = ruled_two pl (instance_rule s) (judged (value s) e) (judged s w) x.type to.0 t x.known to.1 f r in
      let asked = ruled_ask (is_element to.0 && related_references s x.type to.0) 21 (Fits (rules.Value BooleanType)) t rule in
      let related = (and_parts (is_element to.0) (related_references s x.type to.0) asked.0).1 in
      let both = (and_parts (is_reference x.type && is_reference to.0) (are_related s.table x.type to.0) related).0 in
      let ux = used program.table x.type x.kind in
      safe_as program fixed facts.below types (this_of s) (types_of s.locals) _ t u a
      (subst (λ (n : JavaType). Safe program fixed types (this_of s) (types_of s.locals) (p.value (plain s) e >>= (λ v. class_or_null v >>= (λ class. give (instance program (written s w) class)))) (Gives program (types_of s.locals) n)) (ruled_value BooleanType t asked.1)
      (safe_next program fixed types (this_of s) (types_of s.locals) (p.value (plain s) e) _ _ _ (part_used program fixed facts p q (value s) e k h front types x.type x.known ux)
      (λ more v m j. safe_instance program fixed more (this_of s) (types_of s.locals) ux.type (written s w) v (ux.reference (and_parts (is_reference x.type) (is_reference to.0) both).0) j)))

  -- ---- choices

  pub choice : (s : Scope) (pl : Place) (c b d : Tree) → IsScope program fixed (settled program fixed s) → Coded program fixed (Expression false) (settled program fixed s) c → Coded program fixed (Expression false) (settled program fixed s) b → Coded program fixed (Expression false) (settled program fixed s) d
      → (judged (settled program fixed s) (trees.Conditional pl c b d)).faults ≡ [] → Goal program fixed facts p q (settled program fixed s) (trees.Conditional pl c b d)
  unfolding judged
  choice s pl c b d k hc hb hd f types t u r g a =
      let S = settled program fixed s in
      let jc = judged (value S) c in
      let jb = judged (value S) b in
      let jd = judged (value S) d in
      let v = on_one (λ n. on_two (choice_rule S n) jb.typed jd.typed) jc.typed in
      let below = below_none pl v (jc.faults ++ jb.faults ++ jd.faults) f in
      let front = front_none (jc.faults ++ jb.faults) jd.faults below in
      let fc = front_none jc.faults jb.faults front in
      let fb = back_none jc.faults jb.faults front in
      let fd = back_none (jc.faults ++ jb.faults) jd.faults below in
      let x = typed_at program fixed facts (value S) c k hc fc in
      let y = typed_at program fixed facts (value S) b k hb fb in
      let z = typed_at program fixed facts (value S) d k hd fd in
      let rule = ruled_as v (choice_rule S x.type y.type z.type) t (on_type (λ n. on_two (choice_rule S n) jb.typed jd.typed) jc.typed x.type x.known ∙ (on_type (λ n. on_one (choice_rule S x.type n) jd.typed) jb.typed y.type y.known ∙ on_type (choice_rule S x.type y.type) jd.typed z.type z.known)) (ruled pl v (jc.faults ++ jb.faults ++ jd.faults) t f r) in
      let asked = ruled_ask (rules.is_boolean x.type && are_related program.table y.type z.type) 15 (Fits (rules.Value (if is_assignable program.table y.type z.type then z.type else y.type))) t rule in
      let both = and_parts (rules.is_boolean x.type) (are_related program.table y.type z.type) asked.0 in
      let arms = go y.type z.type (is_assignable program.table y.type z.type) refl (ruled_value (if is_assignable program.table y.type z.type then z.type else y.type) t asked.1) both.1 in
      safe_next program fixed types (this_of s) (types_of s.locals) (p.value (plain S) c) _ _ _ (part_as program fixed facts p q (value S) c k hc fc types BooleanType (x.known ∙ ap (λ (n : JavaType). Some n) (boolean_is x.type both.0)) refl refl)
      (λ more v m i. safe_choose program fixed more (this_of s) (types_of s.locals) v (p.value (plain S) b) (p.value (plain S) d) _ i (q.value (value S) b k hb fb more y.type u y.known g arms.0) (q.value (value S) d k hd fd more z.type u z.known g arms.1))
    where
      go : (y z : JavaType) (n : Bool) → is_assignable program.table y z ≡ n → (if n then z else y) ≡ t → (n || is_assignable program.table z y) ≡ true → (is_assignable program.table y u ≡ true) × (is_assignable program.table z u ≡ true)
      go y z true e i h = let j = subst (λ (n : JavaType). is_assignable program.table n u ≡ true) (sym i) a in (assignable_through program.table facts.below y z u e j, j)
      go y z false e i h = let j = subst (λ (n : JavaType). is_assignable program.table n u ≡ true) (sym i) a in (j, assignable_through program.table facts.below z y u h j)

  -- ---- new arrays

  pub array_made : (s : Scope) (pl : Place) (w e : Tree) → IsScope program fixed s → IsWritten w → HasNumber program.arrays (written s w) → Coded program fixed (Expression false) s e → (judged s (trees.ArrayCreation pl w e)).faults ≡ [] → Goal program fixed facts p q s (trees.ArrayCreation pl w e)
  unfolding judged
  array_made s pl w e k i number h f types t u r g a =
      let below = below_none pl (on_two (array_creation_rule s) (judged s w).typed (judged (value s) e).typed) ((judged s w).faults ++ (judged (value s) e).faults) f in
      let back = back_none (judged s w).faults (judged (value s) e).faults below in
      let x = typed_at program fixed facts (value s) e k h back in
      let of = written_variable s w i (front_none (judged s w).faults (judged (value s) e).faults below) in
      let rule = ruled_two pl (array_creation_rule s) (judged s w) (judged (value s) e) of.0 x.type t of.1 x.known f r in
      let asked = ruled_ask (rules.is_int x.type) 27 _ t rule in
      let inside = ruled_ask (rules.is_code s.part) 39 (Fits (rules.Value (ArrayType of.0))) t asked.1 in
      let same = written_is s w of.0 i of.1 in
      safe_as program fixed facts.below types (this_of s) (types_of s.locals) _ t u a
      (subst (λ (n : JavaType). Safe program fixed types (this_of s) (types_of s.locals) (p.value (plain s) e >>= create_array program (written s w)) (Gives program (types_of s.locals) n)) (ap ArrayType (sym same) ∙ ruled_value (ArrayType of.0) t inside.1)
      (safe_next program fixed types (this_of s) (types_of s.locals) (p.value (plain s) e) _ _ _ (part_as program fixed facts p q (value s) e k h back types int_type (x.known ∙ ap (λ (n : JavaType). Some n) (int_is x.type asked.0)) refl refl)
      (λ more v m j. safe_create_array program fixed more (this_of s) (types_of s.locals) (written s w) number.0 v number.1 (default_is program.table [] (written s w) (subst (λ (n : JavaType). is_variable_type n ≡ true) same of.2)) j)))

  -- ---- postconditions

  pub result : (s : Scope) (pl : Place) → IsScope program fixed s → (judged s (trees.Result pl)).faults ≡ [] → Goal program fixed facts p q s (trees.Result pl)
  unfolding judged
  result s pl k f types t u r g a =
      let asked = ruled_ask (is_ensuring s.part && not (is_void s.result) && not s.is_in_old) 38 (gives s.result) t (ruled pl (result_value_rule s) [] t f r) in
      let both = and_parts (is_ensuring s.part && not (is_void s.result)) (not s.is_in_old) asked.0 in
      let each = and_parts (is_ensuring s.part) (not (is_void s.result)) both.0 in
      safe_as program fixed facts.below types (this_of s) (types_of s.locals) _ t u a (safe_result program fixed types (this_of s) (types_of s.locals) t (k.4 each.0 (not_true s.is_in_old both.1) (not_true (is_void s.result) each.1) ∙ ap (λ (n : JavaType). Some n) (ruled_gives s.result t asked.1)))

  pub before : (s : Scope) (pl : Place) (e : Tree) → (is_after_body s.part ≡ true → type_of_old fixed.olds pl ≡ type_in (judged (in_old (plain s)) e).typed) → IsScope program fixed s → Coded program fixed (Expression false) (in_old s) e → (judged s (trees.Old pl e)).faults ≡ [] → Goal program fixed facts p q s (trees.Old pl e)
  unfolding judged
  before s pl e old k h f types t u r g a =
      let below = below_none pl (on_one (old_rule s) (judged (in_old s) e).typed) (judged (in_old s) e).faults f in
      let x = typed_at program fixed facts (in_old s) e (k.0, k.1, k.2, k.3, λ n o. absurd (cc (o))) h below in
      let rule = ruled_as (on_one (old_rule s) (judged (in_old s) e).typed) (old_rule s x.type) t (on_type (old_rule s) (judged (in_old s) e).typed x.type x.known) (ruled pl (on_one (old_rule s) (judged (in_old s) e).typed) (judged (in_old s) e).faults t f r) in
      let asked = ruled_ask (is_after_body s.part && not s.is_in_old) 38 (Fits (rules.Value x.type)) t rule in
      let is = ruled_value x.type t asked.1 in
      safe_as program fixed facts.below types (this_of s) (types_of s.locals) _ t u a
      (safe_old program fixed types (this_of s) (types_of s.locals) pl t (old (and_parts (is_after_body s.part) (not s.is_in_old) asked.0).0 ∙ (type_plain (in_old s) e ∙ (x.known ∙ ap (λ (n : JavaType). Some n) is))))
