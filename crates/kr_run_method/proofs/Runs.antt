-- The state that a run leaves, from the machine's answer.
use Rattle.std.proofs.Common.{◌≡◌, ℕ, Bool, List, [], ◌∷◌, ◌++◌, length, Result, Ok, Err, Option, None, refl, sym, ap, subst, ◌∙◌, arith}
use Rattle.kr_value.specs.declared.value.Value.{Value}
use Rattle.kr_value.specs.Heaps.{Heap, HeapObject}
use Rattle.kr_mean.specs.declared.kind.Stop.{Stop}
use Rattle.kr_mean.specs.Steps.{Outcome}
use Rattle.kr_code.specs.declared.code.Code.{Code}
use Rattle.kr_code.specs.Doing.{Doing, IsMeaning}
use Rattle.kr_run_state.specs.declared.world.World.{World}
use Rattle.kr_run_state.specs.declared.world.Halt.{Halt}
use Rattle.kr_run_state.specs.Ends.{IsEnd}
use Rattle.kr_run_state.specs.Worlds.{Others, Keeps}
use Rattle.kr_run.specs.Answers.{Answers}
use Rattle.kr_run_method.specs.declared.executed.Executed.{Executed}
use Rattle.kr_run_method.specs.Executed.{ending_of, left_by}

abbrev made_of : Result (Option Value) Stop → Heap → ℕ → Option Value → Executed
made_of end heap left thrown = record { end = end; heap = heap; left = left; thrown = thrown }

same : (a b : Result (Option Value) Stop) (g h : Heap) (m n : ℕ) (u v : Option Value) → a ≡ b → g ≡ h → m ≡ n → u ≡ v → made_of a g m u ≡ made_of b h n v
same a b g h m n u v p q r e =
    ap (λ (x : Result (Option Value) Stop). made_of x g m u) p ∙ ap (λ (x : Heap). made_of b x m u) q ∙ ap (λ (x : ℕ). made_of b h x u) r ∙ ap (λ (x : Option Value). made_of b h n x) e

empty : (h : Heap) → length h ≡ 0 → h ≡ []
empty [] e = refl
empty (x ∷ h) e = absurd (omega (arith, e))

-- where there are no candidates none come
pub none_come : (w before : World) → before.candidates ≡ [] → Keeps before w None → w.candidates ≡ []
none_come w before none keeps = empty w.candidates (keeps.long ∙ ap length none)

-- and the heap is what the run has made
all_made : (w before : World) → before.candidates ≡ [] → Keeps before w None → w.candidates ++ w.made ≡ w.made
all_made w before none keeps = ap (λ (c : List HeapObject). c ++ w.made) (none_come w before none keeps)

pub leaves : (code : Code) (void : Bool) (said : Result Value Halt) (end : Result Value Stop) (given : Result (Option Value) Stop) (w before : World) (o : Doing → Others → Outcome Value) → before.candidates ≡ [] → IsEnd said (Ok end)
    → given ≡ ending_of void end → Answers code said w before o → (d : Doing) → IsMeaning code d → made_of given w.made w.fuel w.thrown ≡ left_by void (o d None)
leaves code void said (Ok v) given w before o none is gives a d m =
    let b = subst (λ (r : Result Value Halt). Answers code r w before o) is a in
    let q = (b None tt).1 d m in
    same given (ending_of void (o d None).said) w.made (o d None).after.heap w.fuel (o d None).after.fuel w.thrown (o d None).after.thrown
    (gives ∙ ap (ending_of void) (sym (ap (λ (x : Outcome Value). x.said) q)))
    (sym (all_made w before none (b None tt).0) ∙ sym (ap (λ (x : Outcome Value). x.after.heap) q))
    (sym (ap (λ (x : Outcome Value). x.after.fuel) q))
    (sym (ap (λ (x : Outcome Value). x.after.thrown) q))
leaves code void said (Err e) given w before o none is gives a d m =
    let b = subst (λ (r : Result Value Halt). Answers code r w before o) is a in
    let q = (b None tt).1 d m in
    same given (ending_of void (o d None).said) w.made (o d None).after.heap w.fuel (o d None).after.fuel w.thrown (o d None).after.thrown
    (gives ∙ ap (ending_of void) (sym (ap (λ (x : Outcome Value). x.said) q)))
    (sym (all_made w before none (b None tt).0) ∙ sym (ap (λ (x : Outcome Value). x.after.heap) q))
    (sym (ap (λ (x : Outcome Value). x.after.fuel) q))
    (sym (ap (λ (x : Outcome Value). x.after.thrown) q))
