-- The start of a run.
use Rattle.std.proofs.Common.{◌≡◌, ℕ, zero, suc, ◌+◌, List, [], ◌∷◌, Some, None, refl, ap, ◌∙◌, length}
use Rattle.std.specs.Prelude.{map}
use Rattle.std.specs.List.{range_with_len}
use Rattle.std.proofs.lemmas.List.{length-map}
use Rattle.kr_value.specs.Heaps.{HeapObject}
use Rattle.kr_value.specs.declared.value.Value.{Value}
use Rattle.kr_mean.specs.Heaps.{heap_object, heap_of, value_at}
use Rattle.kr_mean.specs.Places.{Parameter}
use Rattle.kr_mean.specs.Problem.{Problem, all_objects}
use Rattle.kr_mean.specs.Runs.{parameter_values, parameters_from, start}
use Rattle.kr_mean.specs.Steps.{Local, Old, State}

-- a parameter as a local
abbrev pub parameter_local : Problem → List ℕ → ℕ → Local
parameter_local problem v i = record { value = value_at problem v (i + 1); place = Some (Parameter i) }

-- parameters by their numbers
pub parameters_are : (f : ℕ → Value) (a n : ℕ) → parameters_from a (map f (range_with_len a n)) ≡ map (λ i. record { value = f i; place = Some (Parameter i) }) (range_with_len a n)
parameters_are f a zero = refl
parameters_are f a (suc n) = ap (λ (ls : List Local). record { value = f a; place = Some (Parameter a) } ∷ ls) (parameters_are f (a + 1) n)

pub heap_long : (problem : Problem) (v : List ℕ) → length (heap_of problem v) ≡ length (all_objects problem)
unfolding heap_of
heap_long problem v = length-map (all_objects problem) (heap_object problem v)

-- the state of a start, by its parts
module _ (problem : Problem) (v : List ℕ) where
  abbrev state : Value → List Local → List Old → List HeapObject → ℕ → ℕ → State
  state this locals olds heap candidates fuel = record { this_value = this; locals = locals; result = None; olds = olds; thrown = None; heap = heap; candidates = candidates; fuel = fuel }

  pub begins : {this : Value} {locals : List Local} {olds : List Old} {heap : List HeapObject} {candidates fuel : ℕ} → this ≡ value_at problem v 0 → locals ≡ parameters_from 0 (parameter_values problem v) → olds ≡ []
      → heap ≡ heap_of problem v → candidates ≡ length (all_objects problem) → fuel ≡ problem.fuel → state this locals olds heap candidates fuel ≡ start problem v
  begins {this} {locals} {olds} {heap} {candidates} {fuel} a b c d e f =
      ap (λ (x : Value). state x locals olds heap candidates fuel) a
      ∙ (ap (λ (x : List Local). state (value_at problem v 0) x olds heap candidates fuel) b
      ∙ (ap (λ (x : List Old). state (value_at problem v 0) (parameters_from 0 (parameter_values problem v)) x heap candidates fuel) c
      ∙ (ap (λ (x : List HeapObject). state (value_at problem v 0) (parameters_from 0 (parameter_values problem v)) [] x candidates fuel) d
      ∙ (ap (λ (x : ℕ). state (value_at problem v 0) (parameters_from 0 (parameter_values problem v)) [] (heap_of problem v) x fuel) e
      ∙ ap (λ (x : ℕ). state (value_at problem v 0) (parameters_from 0 (parameter_values problem v)) [] (heap_of problem v) (length (all_objects problem)) x) f))))
