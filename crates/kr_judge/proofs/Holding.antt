-- How conditions follow one another.
use Rattle.std.proofs.Common.{◌≡◌, ℕ, Bool, List, [], ◌∷◌, Result, Ok, Err, None, refl, ap, ◌∙◌, subst}
use Rattle.std.specs.Prelude.{map}
use Rattle.kr_value.specs.declared.value.Value.{Value}
use Rattle.kr_mean.specs.declared.kind.Stop.{Stop}
use Rattle.kr_mean.specs.declared.kind.Stop.TheVariants.{Stuck}
use Rattle.kr_mean.specs.Places.{SlotPlace}
use Rattle.kr_mean.specs.Steps.{State, Outcome, Run, bind, stop}
use Rattle.kr_mean.specs.Program.{Program}
use Rattle.kr_mean.specs.Meaning.{value}
use Rattle.kr_mean.specs.Runs.{hold_all, where_true}
use Rattle.kr_code.specs.declared.code.Code.{Code}
use Rattle.kr_code.specs.Doing.{Doing, IsMeaning}
use Rattle.kr_code.specs.Resolved.{Numbering, IsCodeOf}
use Rattle.kr_code_laws.specs.Laws.{doing_of}
use Rattle.kr_code_laws.proofs.Resolved.{is_run_by}
use Rattle.kr_run_state.specs.declared.world.World.{World}
use Rattle.kr_run_state.specs.declared.world.Halt.{Halt}
use Rattle.kr_run_state.specs.Worlds.{state_at, state_of}
use Rattle.kr_run_state.specs.Noting.{noting}
use Rattle.kr_run_frames.specs.Frames.{continued}
use Rattle.kr_run_frames.proofs.Outcomes.{came, continued_reads}
use Rattle.kr_run_state.specs.declared.world.Halt.TheVariants.{Ended, Memory}
use Rattle.kr_run.specs.Answers.{Answers}
use Rattle.kr_judge.specs.Judged.{hold_at, HoldsAs, MeansAs}
use Rattle.kr_judge.specs.One.{OneAs}

-- after a value
pub followed : {B : Type 0} (m : Run Value) (f : Value → Run B) (seen new : List SlotPlace) (s t : State) (v : Value) → noting seen (m s) ≡ record { said = Ok v; after = t; reads = new } → noting seen (bind m f s) ≡ noting new (f v t)
unfolding bind
followed m f seen new s t v h = came (λ o. continued o f) (λ rs o. continued_reads rs o f) seen new (m s) (Ok v) t h

-- after the end of a run
pub ended : (m : Run Value) (f : Value → Run Bool) (seen : List SlotPlace) (s : State) (e : Stop) (w : World) → noting seen (m s) ≡ record { said = Err e; after = state_of w; reads = w.reads } → noting seen (bind m f s) ≡ record { said = Err e; after = state_of w; reads = w.reads }
unfolding bind
ended m f seen s e w h = came (λ o. continued o f) (λ rs o. continued_reads rs o f) seen w.reads (m s) (Err e) (state_of w) h

-- the program's conditions are those at their nodes
pub conditions_are : (program : Program) (n : Numbering) (is : List ℕ) → hold_at (doing_of program n) is ≡ hold_all program (map n.origin is)
conditions_are program n [] = refl
conditions_are program n (i ∷ is) = ap (λ (m : Run Bool). bind (value program (n.origin i).scope (n.origin i).tree) (λ v. where_true v m)) (conditions_are program n is)

pub means : (code : Code) (r : Result Bool Halt) (w : World) (seen : List SlotPlace) (is : List ℕ) (s : State) → HoldsAs code r w seen (λ d. hold_at d is s) → (program : Program) (n : Numbering) → IsCodeOf program code n → MeansAs r w seen (hold_all program (map n.origin is) s)
means code r w seen is s h program n c =
    subst (λ (m : Run Bool). MeansAs r w seen (m s)) (conditions_are program n is) (h (doing_of program n) (is_run_by program code n c).meaning)

-- a value that is no truth value has no meaning as a condition
pub stuck : (m : Run Value) (rest : Run Bool) (seen : List SlotPlace) (s : State) (v : Value) (w : World) → noting seen (m s) ≡ record { said = Ok v; after = state_of w; reads = w.reads } → where_true v rest (state_of w) ≡ stop Stuck (state_of w)
    → noting seen (bind m (λ u. where_true u rest) s) ≡ record { said = Err Stuck; after = state_of w; reads = w.reads }
stuck m rest seen s v w h is = followed m (λ u. where_true u rest) seen w.reads s (state_of w) v h ∙ ap (λ (o : Outcome Bool). noting w.reads o) is

-- the end of a run is that of its conditions
pub halted : (code : Code) (h : Halt) (w before : World) (i : ℕ) → Answers code (Err h) w before (λ d x. d.value i (state_at before x)) → OneAs code (Err h) w before.reads i (state_of before)
halted code (Ended e) w before i a = λ d m rest. ended (d.value i) (λ v. where_true v rest) before.reads (state_of before) e w ((a None tt).1 d m)
halted code (Memory why) w before i a = tt

-- ---- the rest of the conditions

-- the rest of the conditions are those to be looked at
abbrev pub LeadsOn : Code → List ℕ → State → List SlotPlace → List ℕ → State → List SlotPlace → Type 0
LeadsOn code all s seen rest t new = (d : Doing) → IsMeaning code d → noting seen (hold_at d all s) ≡ noting new (hold_at d rest t)
