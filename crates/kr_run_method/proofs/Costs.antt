-- The cost of a run of a method, and of an evaluation.
use Rattle.std.proofs.Common.{Option, ◌≡◌, ℕ, ◌+◌, ◌≤◌, Bool, true, false, List, [], ◌∷◌, Result, Ok, Err, refl, ap, ◌∙◌, arith}
use Rattle.kr_base.specs.declared.place.Place.{Place}
use Rattle.kr_value.specs.declared.value.Value.{Value}
use Rattle.kr_value.specs.declared.value.Value.TheVariants.{Null}
use Rattle.kr_value.specs.Heaps.{Heap}
use Rattle.kr_classes_table.specs.Types.{is_void}
use Rattle.kr_classes_table.specs.Table as tables
use Rattle.kr_mean.specs.declared.kind.Stop.{Stop}
use Rattle.kr_mean.specs.declared.kind.Stop.TheVariants.{Trapped, OutOfFuel, Stuck}
use Rattle.kr_mean.specs.Program.{Program}
use Rattle.kr_mean.specs.Steps.{State, Outcome, Run}
use Rattle.kr_mean.specs.Meaning.{body_of, value}
use Rattle.kr_mean.specs.Code.{Node}
use Rattle.kr_mean.specs.Verdicts.{olds_of}
use Rattle.kr_run_method.specs.CostLaws.{IsSameWith}
use Rattle.kr_run_method.proofs.CostLaws.{body_cost, value_cost}
use Rattle.kr_run_method.specs.declared.executed.Env.{Env}
use Rattle.kr_run_method.specs.declared.executed.Executed.{Executed}
use Rattle.kr_run_method.specs.Evaluated.{evaluated, places_of, seen}
use Rattle.kr_run_method.specs.Executed.{begun, ending_of, executed, left_by, run_on}
use Rattle.kr_run_method.specs.Costs.{HasCost}

is_spent : (void : Bool) (r : Result Value Stop) → r ≡ Err OutOfFuel → ending_of void r ≡ Err OutOfFuel
is_spent true r e = ap (ending_of true) e
is_spent false r e = ap (ending_of false) e

was_spent : (void : Bool) (r : Result Value Stop) → ending_of void r ≡ Err OutOfFuel → r ≡ Err OutOfFuel
was_spent true (Err OutOfFuel) e = refl
was_spent false (Err OutOfFuel) e = refl
was_spent true (Ok v) e = cc (e)
was_spent false (Ok v) e = cc (e)
was_spent true (Err (Trapped k)) e = cc (e)
was_spent false (Err (Trapped k)) e = cc (e)
was_spent true (Err Stuck) e = cc (e)
was_spent false (Err Stuck) e = cc (e)

same_left : (void : Bool) (more : ℕ) (o o' : Outcome Value) → IsSameWith more o o' → left_by void o' ≡ record (left_by void o) { left = (left_by void o).left + more }
same_left void more o o' x =
    ap (λ (r : Result Value Stop). of (ending_of void r) o'.after) x.said
    ∙ ap (λ (t : State). of (ending_of void o.said) t) x.after
  where
    of : Result (Option Value) Stop → State → Executed
    of end s = record { end = end; heap = s.heap; left = s.fuel; thrown = s.thrown }

module _ (program : Program) (m : tables.Method) (heap : Heap) where
  abbrev bodies : Value → List Value → Run Value
  bodies o vs = body_of program o vs m

  abbrev run : Bool → List Value → ℕ → Executed
  run b vs fuel = left_by (is_void m.result) (run_on b bodies vs (begun heap fuel))

  abbrev Cost : Bool → List Value → ℕ → Type 0
  Cost b vs fuel = (c : ℕ) × (c ≤ fuel) × HasCost (run b vs) c

  entered : (o : Value) (vs : List Value) (fuel : ℕ) → ((left_by (is_void m.result) (bodies o vs (begun heap fuel))).end ≡ Err OutOfFuel → ⊥) → (c : ℕ) × (c ≤ fuel) × HasCost (λ f. left_by (is_void m.result) (bodies o vs (begun heap f))) c
  entered o vs fuel fine =
      let found = body_cost program o vs m (begun heap 0) fuel (λ e. fine (is_spent (is_void m.result) (bodies o vs (begun heap fuel)).said e)) in (
        found.0,
        found.1,
        record {
          below = λ f lt. is_spent (is_void m.result) (bodies o vs (begun heap f)).said (found.2.below f lt);
          enough = λ e. found.2.enough (was_spent (is_void m.result) (bodies o vs (begun heap found.0)).said e);
          above = λ more. same_left (is_void m.result) more (bodies o vs (begun heap found.0)) (bodies o vs (begun heap (found.0 + more))) (found.2.above more);
          exact = found.2.exact;
        },
      )

  cost_on : (b : Bool) (vs : List Value) (fuel : ℕ) → ((run b vs fuel).end ≡ Err OutOfFuel → ⊥) → Cost b vs fuel
  cost_on true vs fuel fine = entered Null vs fuel fine
  cost_on false (o ∷ vs) fuel fine = entered o vs fuel fine
  cost_on false [] fuel fine = (0, omega arith, record { below = λ f lt. absurd (omega (arith, lt)); enough = fine; above = λ more. refl; exact = refl })

  pub has_cost : (values : List Value) (fuel : ℕ) → ((executed program m values heap fuel).end ≡ Err OutOfFuel → ⊥) → (c : ℕ) × (c ≤ fuel) × HasCost (executed program m values heap) c
  has_cost values fuel fine = cost_on m.is_static values fuel fine

module _ (program : Program) (m : tables.Method) (e : Node) (env : Env) (heap : Heap) where
  abbrev places : List Place
  places = places_of (olds_of program m)

  abbrev valued : ℕ → Outcome Value
  valued fuel = value program e.scope e.tree (seen places env heap fuel)

  pub evaluation_has_cost : (fuel : ℕ) → ((evaluated program m e env heap fuel).end ≡ Err OutOfFuel → ⊥) → (c : ℕ) × (c ≤ fuel) × HasCost (evaluated program m e env heap) c
  evaluation_has_cost fuel fine =
      let found = value_cost program e.scope e.tree (seen places env heap 0) fuel (λ x. fine (is_spent false (valued fuel).said x)) in (
        found.0,
        found.1,
        record {
          below = λ f lt. is_spent false (valued f).said (found.2.below f lt);
          enough = λ x. found.2.enough (was_spent false (valued found.0).said x);
          above = λ more. same_left false more (valued found.0) (valued (found.0 + more)) (found.2.above more);
          exact = found.2.exact;
        },
      )
