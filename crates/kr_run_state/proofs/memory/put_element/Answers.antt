use Rattle.std.proofs.Common.{◌≡◌, ◌++◌, ℕ, length, Err, ap, ◌∙◌, rules}
use Rattle.std.specs.Prelude.{Option, Some, None}
use Rattle.kr_value.specs.declared.value.Value.{Value}
use Rattle.kr_value.specs.Heaps.{HeapObject, object_in}
use Rattle.kr_mean.specs.declared.kind.Kind.TheVariants.{ArrayIndexOutOfBoundsException}
use Rattle.kr_mean.specs.declared.kind.Stop.TheVariants as ends
use Rattle.kr_mean.specs.Steps.{bind, give, store_index, index_within}
use Rattle.kr_run_state.specs.declared.world.Halt.TheVariants.{Ended}
use Rattle.kr_run_state.specs.Noting.{noting}
use Rattle.kr_run_state.specs.Worlds.{state_at, candidates_of}
use Rattle.kr_run_state.proofs.Candidates.{writable, agrees_same, agrees_thawed, kept_same}
use Rattle.kr_run_state.proofs.memory.put_element.Goals as goal

pub returns-in-None : goal.returns-in-None
unfolding bind
returns-in-None c =
    let w = c.args.world.now in
    let still = c.stays_frozen-world.result in
    let w' = record w { is_frozen = still } in
    let none : index_within c.args.index (length (object_in (w.candidates ++ w.made) c.args.object).values) ≡ None = search rules in
    agrees_thawed {A = Value} (Err (Ended (ends.Trapped ArrayIndexOutOfBoundsException))) still w' w (λ x. bind (store_index c.args.object (index_within c.args.index (length (object_in (candidates_of w.candidates x ++ w.made) c.args.object).values)) c.args.value) (λ u. give c.args.given) (state_at w x)) c.stays_frozen-world.ensures.frozen
    (λ x a.
    let same = writable still w.candidates w.reads w.made x c.args.object a c.stays_frozen-world.ensures.candidate in
    let is = ap (λ (r : HeapObject). index_within c.args.index (length r.values)) same ∙ none in
    (kept_same w' x a, ap (λ (k : Option ℕ). noting w.reads (bind (store_index c.args.object k c.args.value) (λ u. give c.args.given) (state_at w x))) is))

pub returns-in-Some : goal.returns-in-Some
unfolding bind
returns-in-Some c =
    let w = c.args.world.now in
    let still = c.stays_frozen-world.result in
    let w' = record w { is_frozen = still } in
    let some : index_within c.args.index (length (object_in (w.candidates ++ w.made) c.args.object).values) ≡ Some c.in-Some.at = search rules in
    agrees_thawed c.put_and_give.result still c.put_and_give.new.world w (λ x. bind (store_index c.args.object (index_within c.args.index (length (object_in (candidates_of w.candidates x ++ w.made) c.args.object).values)) c.args.value) (λ u. give c.args.given) (state_at w x)) c.stays_frozen-world.ensures.frozen
    (agrees_same c.put_and_give.result c.put_and_give.new.world w' (λ x. bind (store_index c.args.object (index_within c.args.index (length (object_in (candidates_of w.candidates x ++ w.made) c.args.object).values)) c.args.value) (λ u. give c.args.given) (state_at w x))
    (λ x. bind (store_index c.args.object (Some c.in-Some.at) c.args.value) (λ u. give c.args.given) (state_at w x))
    (λ x a. ap (λ (k : Option ℕ). bind (store_index c.args.object k c.args.value) (λ u. give c.args.given) (state_at w x)) (ap (λ (r : HeapObject). index_within c.args.index (length r.values)) (writable still w.candidates w.reads w.made x c.args.object a c.stays_frozen-world.ensures.candidate) ∙ some))
    c.put_and_give.ensures)
