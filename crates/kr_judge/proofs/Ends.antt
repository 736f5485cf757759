-- The end of a run, from the ends of its conditions.
use Rattle.std.proofs.Common.{◌≡◌, ℕ, Bool, true, false, List, [], ◌∷◌, ◌++◌, Result, Ok, Err, refl, sym, ap, subst, ◌∙◌}
use Rattle.std.specs.Prelude.{flat_map, if◌then◌else◌}
use Rattle.kr_mean.specs.declared.kind.Stop.{Stop}
use Rattle.kr_mean.specs.declared.kind.Stop.TheVariants.{Trapped, OutOfFuel, Stuck}
use Rattle.kr_mean.specs.Heaps.{walk}
use Rattle.kr_mean.specs.Places.{SlotPlace, This}
use Rattle.kr_mean.specs.Program.{Program}
use Rattle.kr_mean.specs.Runs.{End, accepted_walk, end_of, end_on, is_accepted, order_of, outcome_of, read_slots, slots_for}
use Rattle.kr_mean.specs.Steps.{Outcome}
use Rattle.kr_run_state.specs.Noting.{noted_once}
use Rattle.kr_run_state.specs.Ends.{IsEnd}
use Rattle.kr_run_state.specs.declared.world.Halt.{Halt}
use Rattle.kr_run_state.specs.declared.world.World.{World}
use Rattle.kr_space_layout.specs.Bounds.{Bounds, bare, problem_with}
use Rattle.kr_judge.proofs.Orders.{once, with_all, with_both}
use Rattle.kr_judge.proofs.Programs.{walk_same}
use Rattle.kr_judge.specs.Orders.{with_slots}
use Rattle.kr_judge.specs.Judged.{MeansAs}
use Rattle.kr_judge.specs.Runs.{end_said}

truth_said : (b : Bool) → end_said (Ok b) ≡ end_of (Ok b)
truth_said true = refl
truth_said false = refl

early_said : (e : Stop) → end_said (Err e) ≡ end_of (Err e)
early_said (Trapped kind) = refl
early_said OutOfFuel = refl
early_said Stuck = refl

pub ran : (answer : Result Bool Halt) (j : Result Bool Stop) (w : World) (o : Outcome Bool) → IsEnd answer (Ok j) → MeansAs answer w (This ∷ []) o → (end_said j ≡ end_of o.said) × (w.reads ≡ noted_once (This ∷ []) o.reads)
ran answer (Ok b) w o i m =
    let is = subst (λ (a : Result Bool Halt). MeansAs a w (This ∷ []) o) i m in
    (truth_said b ∙ ap end_of (sym (ap (λ (x : Outcome Bool). x.said) is)), sym (ap (λ (x : Outcome Bool). x.reads) is))
ran answer (Err e) w o i m =
    let is = subst (λ (a : Result Bool Halt). MeansAs a w (This ∷ []) o) i m in
    (early_said e ∙ ap end_of (sym (ap (λ (x : Outcome Bool). x.said) is)), sym (ap (λ (x : Outcome Bool). x.reads) is))

-- ---- the order

-- the slots of the places that were read, and then of what is reachable, each once, are the order
pub order_is : (program : Program) (b : Bounds) (v : List ℕ) (j : Result Bool Stop) (reads : List SlotPlace) (read all : List ℕ) → end_said j ≡ end_on (problem_with program b) v → reads ≡ noted_once [] (outcome_of (problem_with program b) v).reads
    → read ≡ with_slots [] (flat_map (slots_for (bare b)) reads) → all ≡ with_slots read (if is_accepted (end_said j) then walk (bare b) v else []) → all ≡ order_of (problem_with program b) v
unfolding order_of read_slots
order_is program b v j reads read all e r f g =
    let problem = problem_with program b in
    let places = (outcome_of problem v).reads in
    let slots_of = slots_for (bare b) in
    let here : read ≡ with_slots [] (flat_map slots_of places) = f ∙ (ap (λ (ps : List SlotPlace). with_slots [] (flat_map slots_of ps)) r ∙ once slots_of [] places) in
    let behind : (if is_accepted (end_said j) then walk (bare b) v else []) ≡ accepted_walk problem v =
    ap (λ (x : End). if is_accepted x then walk (bare b) v else []) e ∙ ap (λ (ss : List ℕ). if is_accepted (end_on problem v) then ss else []) (walk_same program b v) in
    g
    ∙ (ap (λ (ss : List ℕ). with_slots ss (if is_accepted (end_said j) then walk (bare b) v else [])) here
    ∙ (ap (λ (ss : List ℕ). with_slots (with_slots [] (flat_map slots_of places)) ss) behind
    ∙ (sym (with_both [] (flat_map slots_of places) (accepted_walk problem v)) ∙ with_all (flat_map slots_of places ++ accepted_walk problem v))))
