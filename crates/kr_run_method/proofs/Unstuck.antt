-- No run of a call that typing accepts is stuck.
use Rattle.std.proofs.Common.{◌≡◌, ℕ, Bool, true, false, List, [], ◌∷◌, Some, None, Result, Ok, Err, refl, sym, ap, ◌∙◌, subst, arith}
use Rattle.std.specs.Prelude.{IfOk, if◌then◌else◌}
use Rattle.kr_base.specs.declared.memory.NoMemory.{NoMemory}
use Rattle.kr_value.specs.declared.value.Value.{Value}
use Rattle.kr_value.specs.declared.value.Value.TheVariants.{Null}
use Rattle.kr_value.specs.Heaps.{Heap}
use Rattle.kr_classes_table.specs.Types.{is_void}
use Rattle.kr_classes_table.specs.Table as tables
use Rattle.kr_mean.specs.declared.kind.Stop.{Stop}
use Rattle.kr_mean.specs.declared.kind.Stop.TheVariants.{Trapped, OutOfFuel, Stuck}
use Rattle.kr_mean.specs.Program.{Program}
use Rattle.kr_mean.specs.Steps.{State, Run}
use Rattle.kr_mean.specs.Meaning.{body_of, parts_within}
use Rattle.kr_code.specs.declared.code.Code.{Code}
use Rattle.kr_code.specs.Resolved.{Numbering, IsCodeOf}
use Rattle.kr_laws_safety.specs.Fits.{AreOf}
use Rattle.kr_laws_safety.specs.Triples.{Fixed, Fine, IsStateOf, IsThis}
use Rattle.kr_laws_safety.specs.Claims.{GivesAs}
use Rattle.kr_laws_safety.specs.Typed.{IsTypedProgram, types_in}
use Rattle.kr_laws_safety.proofs.Calls.{method_run}
use Rattle.kr_laws_safety.proofs.Statements.{parts_safe}
use Rattle.kr_run_method.specs.declared.executed.Executed.{Executed}
use Rattle.kr_run_method.specs.declared.executed.Method.{Method}
use Rattle.kr_run_method.specs.Executed.{IsMethodOf, begun, ending_of, executed, run_on}
use Rattle.kr_run_method.specs.Fits.{AreGiven, IsCall, IsUnstuck}

-- no candidates, and no test
abbrev plain : Fixed
plain = record { candidates = 0; result = None; olds = [] }

module _ (program : Program) (facts : IsTypedProgram program) (m : tables.Method) (values : List Value) (heap : Heap) (fuel : ℕ) (call : IsCall program m values heap) where
  abbrev Ends : Result Value Stop → State → Type 0
  Ends r t = Fine program plain call.types None [] (GivesAs program [] m.result) r t

  started : IsStateOf program plain call.types None [] (begun heap fuel)
  started = record { heap = call.objects; this_is = tt; locals_are = tt; result = tt; olds = tt; thrown = refl; candidates = refl; enough = omega arith }

  abbrev This : Bool → Value → Type 0
  This b o = IsThis program.table call.types (if b then None else Some m.class) o

  body_ends : (o : Value) (vs : List Value) → This m.is_static o → AreOf program.table call.types (types_in m.parameters) vs → Ends (body_of program o vs m (begun heap fuel)).said (body_of program o vs m (begun heap fuel)).after
  unfolding body_of
  body_ends o vs i j = (method_run program plain facts (parts_within program fuel) (parts_safe program plain facts fuel) call.types None [] m o vs (facts.methods call.class call.name m call.named).0 i j).by (begun heap fuel) started

  abbrev bodies : Value → List Value → Run Value
  bodies o vs = body_of program o vs m

  ends : (b : Bool) → m.is_static ≡ b → (vs : List Value) → AreGiven program.table call.types m b vs → Ends (run_on b bodies vs (begun heap fuel)).said (run_on b bodies vs (begun heap fuel)).after
  ends true e vs g = body_ends Null vs (subst (λ (b : Bool). This b Null) (sym e) tt) g
  ends false e (o ∷ vs) g = body_ends o vs (subst (λ (b : Bool). This b o) (sym e) g.0) g.1
  ends false e [] g = absurd g

  not_stuck : (void : Bool) (r : Result Value Stop) (t : State) → Ends r t → ending_of void r ≡ Err Stuck → ⊥
  not_stuck true (Ok v) t f e = cc (e)
  not_stuck false (Ok v) t f e = cc (e)
  not_stuck true (Err (Trapped k)) t f e = cc (e)
  not_stuck false (Err (Trapped k)) t f e = cc (e)
  not_stuck true (Err OutOfFuel) t f e = cc (e)
  not_stuck false (Err OutOfFuel) t f e = cc (e)
  not_stuck void (Err Stuck) t f e = absurd f

  pub never_stuck : (executed program m values heap fuel).end ≡ Err Stuck → ⊥
  never_stuck e = not_stuck (is_void m.result) (run_on m.is_static bodies values (begun heap fuel)).said (run_on m.is_static bodies values (begun heap fuel)).after (ends m.is_static refl values call.given) e

pub in_typed_programs : (code : Code) (method : Method) (values : List Value) (heap : Heap) (fuel : ℕ) (r : Result Executed NoMemory)
    → IfOk r (λ run. (program : Program) (n : Numbering) (m : tables.Method) → IsCodeOf program code n → IsMethodOf code n m method → run ≡ executed program m values heap fuel) → IfOk r (IsUnstuck code method values heap)
in_typed_programs code method values heap fuel (Ok run) h = λ program n m is of facts call e. never_stuck program facts m values heap fuel call (sym (ap (λ (x : Executed). x.end) (h program n m is of)) ∙ e)
in_typed_programs code method values heap fuel (Err e) h = tt
