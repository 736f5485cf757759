-- Runs of code are those of the program whose code it is.
use Rattle.std.proofs.Common.{◌≡◌, ℕ, Bool, true, false, List, [], ◌∷◌, Result, Ok, Err, refl, sym, ap, ◌∙◌}
use Rattle.std.specs.Prelude.{IfOk}
use Rattle.kr_base.specs.declared.memory.NoMemory.{NoMemory}
use Rattle.kr_base.specs.declared.place.Place.{Place}
use Rattle.kr_value.specs.declared.value.Value.{Value}
use Rattle.kr_value.specs.declared.value.Value.TheVariants.{Null}
use Rattle.kr_value.specs.Heaps.{Heap}
use Rattle.kr_classes_table.specs.Types.{is_void}
use Rattle.kr_classes_table.specs.Table as tables
use Rattle.kr_mean.specs.Program.{Program}
use Rattle.kr_mean.specs.Steps.{State, Run}
use Rattle.kr_mean.specs.Meaning.{body_of}
use Rattle.kr_mean.specs.Verdicts.{olds_of}
use Rattle.kr_laws_runs.proofs.Bounds.{body_is}
use Rattle.kr_code.specs.declared.code.Code.{Code}
use Rattle.kr_code.specs.Doing.{Doing, IsMeaning, run_method}
use Rattle.kr_code.specs.Resolved.{Numbering, IsMethod, IsCodeOf}
use Rattle.kr_code.specs.Tables.{method_at}
use Rattle.kr_code_laws.specs.Laws.{doing_of}
use Rattle.kr_code_laws.proofs.Resolved.{is_run_by}
use Rattle.kr_run_state.specs.declared.world.World.{World}
use Rattle.kr_run_state.specs.Worlds.{state_of}
use Rattle.kr_run_method.specs.declared.executed.Env.{Env}
use Rattle.kr_run_method.specs.declared.executed.Executed.{Executed}
use Rattle.kr_run_method.specs.Evaluated.{evaluated, evaluated_at, places_of, seen}
use Rattle.kr_run_method.specs.declared.executed.Method.{Method}
use Rattle.kr_run_method.specs.Executed.{IsMethodOf, begun, executed, executed_at, gives_nothing, left_by, run_on}

on_same : (f g : Value → List Value → Run Value) → ((o : Value) (vs : List Value) (s : State) → f o vs s ≡ g o vs s) → (is_static : Bool) (values : List Value) (s : State) → run_on is_static f values s ≡ run_on is_static g values s
on_same f g h true values s = h Null values s
on_same f g h false (o ∷ vs) s = h o vs s
on_same f g h false [] s = refl

voids : (program : Program) (code : Code) (n : Numbering) (m : tables.Method) (k : ℕ) → IsCodeOf program code n → IsMethod code n m k → gives_nothing (method_at code k) ≡ is_void m.result
voids program code n m k is by = ap gives_nothing by.there ∙ (is.tables.methods k by.body by.there).void ∙ ap (λ (q : tables.Method). is_void q.result) by.is

pub as_program : (program : Program) (code : Code) (n : Numbering) (m : tables.Method) (method : Method) → IsCodeOf program code n → IsMethodOf code n m method → (values : List Value) (heap : Heap) (fuel : ℕ)
    → executed_at code (doing_of program n) method values heap fuel ≡ executed program m values heap fuel
as_program program code n m method is of values heap fuel =
    ap (λ (void : Bool). left_by void (run_on method.is_static bodies values (begun heap fuel))) (voids program code n m method.number is of.numbered)
    ∙ ap (λ (b : Bool). left_by (is_void m.result) (run_on b bodies values (begun heap fuel))) of.is_static
    ∙ ap (left_by (is_void m.result)) (on_same bodies (λ o vs. body_of program o vs m) (λ o vs s. (is_run_by program code n is).methods m method.number of.numbered o vs s ∙ sym (body_is program o vs m s)) m.is_static values (begun heap fuel))
  where
    bodies : Value → List Value → Run Value
    bodies o vs = run_method code (doing_of program n) o vs (method_at code method.number)

-- a claim about every meaning of the code is one about each program whose code it is
pub in_programs : (code : Code) (method : Method) (values : List Value) (heap : Heap) (fuel : ℕ) (r : Result Executed NoMemory) → IfOk r (λ run. (d : Doing) → IsMeaning code d → run ≡ executed_at code d method values heap fuel)
    → IfOk r (λ run. (program : Program) (n : Numbering) (m : tables.Method) → IsCodeOf program code n → IsMethodOf code n m method → run ≡ executed program m values heap fuel)
in_programs code method values heap fuel (Ok run) h = λ program n m is of. h (doing_of program n) (is_run_by program code n is).meaning ∙ as_program program code n m method is of values heap fuel
in_programs code method values heap fuel (Err e) h = tt

-- of an expression of a contract too
pub evaluated_in_programs : (code : Code) (node : ℕ) (places : List Place) (env : Env) (heap : Heap) (fuel : ℕ) (r : Result Executed NoMemory) → IfOk r (λ run. (d : Doing) → IsMeaning code d → run ≡ evaluated_at d node places env heap fuel)
    → IfOk r (λ run. (program : Program) (n : Numbering) (m : tables.Method) → IsCodeOf program code n → places ≡ places_of (olds_of program m) → run ≡ evaluated program m (n.origin node) env heap fuel)
evaluated_in_programs code node places env heap fuel (Ok run) h = λ program n m is at. h (doing_of program n) (is_run_by program code n is).meaning ∙ ap (λ (ps : List Place). evaluated_at (doing_of program n) node ps env heap fuel) at
evaluated_in_programs code node places env heap fuel (Err e) h = tt

-- an evaluation in a world that was shown what the expression sees
pub evaluation_means : (code : Code) (node : ℕ) (places : List Place) (env : Env) (heap : Heap) (fuel : ℕ) (first shown : World) (r : Result Executed NoMemory) → state_of first ≡ begun heap fuel → state_of shown ≡ seen places env (state_of first).heap (state_of first).fuel
    → IfOk r (λ run. (d : Doing) → IsMeaning code d → run ≡ left_by false (d.value node (state_of shown))) → IfOk r (λ run. (d : Doing) → IsMeaning code d → run ≡ evaluated_at d node places env heap fuel)
evaluation_means code node places env heap fuel first shown (Ok run) from at h = λ d m.
    h d m
    ∙ (ap (λ (s : State). left_by false (d.value node s)) at
    ∙ ap (λ (s : State). left_by false (d.value node (seen places env s.heap s.fuel))) from)
evaluation_means code node places env heap fuel first shown (Err e) from at h = tt
