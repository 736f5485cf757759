use Rattle.std.proofs.Common.{◌≡◌, ℕ, List, length, Some}
use Rattle.std.specs.Prelude.{slice_get}
use Rattle.kr_classes_names.specs.ListedTypes.{IsGrown}
use Rattle.kr_code.specs.declared.code.MethodCode.{MethodCode}
use Rattle.kr_code_bodies.specs.Made.{IsMethodNumbered}
use Rattle.kr_code_bodies.proofs.methods.method_codes.Given as goal

abbrev pub invariant-loop-node : goal.invariant-loop-node
invariant-loop-node l = record {
  grown : IsGrown l.initial.links l.links;
  count : length l.made.items ≡ l.node-index;
  made : (arrays : List ℕ) (names : List (List ℕ)) (k : ℕ) (m : MethodCode) → slice_get l.made.items k ≡ Some m → IsMethodNumbered l.program arrays names l.links k m;
}
