-- The call of the root's `repOk`.
use Rattle.std.proofs.Common.{◌≡◌, refl, sym, ap, ◌∙◌, ℕ, Bool, true, false, cond, List, [], ◌∷◌, subst, take, drop, codes, Option, Some, None}
use Rattle.std.specs.Prelude.{slice_get}
use Rattle.std.proofs.lemmas.Option.{get_or_from_slice_get}
use Rattle.kr_ast.specs.Tree.{This, Nil}
use Rattle.kr_classes_table.specs.Types.{JavaType, ClassType}
use Rattle.kr_classes_table.specs.Table.{Method, method_named}
use Rattle.kr_types_meaning.specs.Scopes.{Scope}
use Rattle.kr_types_meaning.specs.Typing.{judged, type_of}
use Rattle.kr_mean.specs.Meaning.{method_of_type, typed_method}
use Rattle.kr_mean.specs.Program.{class_scope}
use Rattle.kr_base.specs.Places.{nowhere}
use Rattle.kr_code.specs.declared.code.Code.{Code}
use Rattle.kr_code.specs.declared.expression.Expression.{Expression}
use Rattle.kr_code.specs.declared.expression.Expression.TheVariants as expressions
use Rattle.kr_code.specs.Resolved as resolved
use Rattle.kr_code.specs.Resolved.{Numbering, AreParts}
use Rattle.kr_code.specs.Tables.{listed}
use Rattle.kr_classes_members.specs.Rosters.{all_methods, method_numbered, no_method}
use Rattle.kr_types.specs.declared.program.Program.{Program}
use Rattle.kr_code_members.specs.Nodes.{table, run_program}
use Rattle.kr_code_lowering.specs.Origins.{numbering_of}
use Rattle.kr_code_lowering.specs.Calls.{IsCalledOn, IsFound}
use Rattle.kr_code_lowering.proofs.Called.{method_is}
use Rattle.kr_judge_code.specs.Compiled.{CallsRepOk, no_arguments}

this_type : (p : Program) (arrays : List ℕ) (c : ℕ) → type_of (class_scope (run_program p arrays) c) (This nowhere) ≡ Some (ClassType c)
unfolding judged
this_type p arrays c = refl

this_method : (p : Program) (arrays : List ℕ) (c : ℕ) (x : List ℕ) → typed_method (class_scope (run_program p arrays) c) (This nowhere) x ≡ method_named (table p) c x
this_method p arrays c x = ap (λ (t : Option JavaType). method_of_type (table p) x t) (this_type p arrays c)

take_none : (xs : List ℕ) → take 0 xs ≡ []
take_none [] = refl
take_none (x ∷ xs) = refl

no_parts : (n : Numbering) (s : Scope) (code : Code) → AreParts n s [] (listed code no_arguments)
no_parts n s code = subst (λ (is : List ℕ). AreParts n s [] is) (sym (take_none (drop 0 code.links.items))) tt

module _ (p : Program) (c object : ℕ) where
  abbrev x : List ℕ
  x = codes "repOk"

  chosen : (k : ℕ) (m : Method) → method_named (table p) c x ≡ Some m → slice_get (all_methods (table p)) k ≡ Some m → (b : Bool) → m.is_static ≡ b → CallsRepOk p c object (cond b (expressions.StaticCallOn object k no_arguments) (expressions.CallOn object k no_arguments))
  chosen k m h got true st arrays known linked final code becomes this =
      resolved.static_call_on nowhere (This nowhere) x Nil object m k no_arguments refl (this_method p arrays c x ∙ h) st (method_is p known linked final code becomes k m got) this (no_parts (numbering_of p final) (class_scope (run_program p arrays) c) code)
  chosen k m h got false st arrays known linked final code becomes this =
      resolved.call_on nowhere (This nowhere) x Nil object m k no_arguments refl (this_method p arrays c x ∙ h) st (method_is p known linked final code becomes k m got) this (no_parts (numbering_of p final) (class_scope (run_program p arrays) c) code)

  none_called : method_named (table p) c x ≡ None → CallsRepOk p c object (expressions.CallCollection object (Rattle.kr_code.specs.Collections.call_named x) no_arguments)
  none_called h arrays known linked final code becomes this =
      resolved.collection_call nowhere (This nowhere) x Nil object no_arguments refl (this_method p arrays c x ∙ h) this (no_parts (numbering_of p final) (class_scope (run_program p arrays) c) code)

  pub calls_rep_ok : (m : Option ℕ) (e : Expression) → IsFound p m (method_named (table p) c x) → IsCalledOn p object x no_arguments m e → CallsRepOk p c object e
  calls_rep_ok None e h g = subst (λ (f : Expression). CallsRepOk p c object f) (sym g) (none_called h)
  calls_rep_ok (Some k) e h g =
      let same : method_numbered (table p) k ≡ h.0 = get_or_from_slice_get (all_methods (table p)) k h.0 (no_method (table p)) h.2 in
      subst (λ (f : Expression). CallsRepOk p c object f) (sym (g ∙ ap (λ (m : Method). cond m.is_static (expressions.StaticCallOn object k no_arguments) (expressions.CallOn object k no_arguments)) same)) (chosen k h.0 h.1 h.2 h.0.is_static refl)
