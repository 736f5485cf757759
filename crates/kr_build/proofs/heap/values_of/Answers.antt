use Rattle.std.proofs.Common.{◌≡◌, ◌+◌, ◌-◌, ◌++◌, ◌∷◌, [], ◌<◌, ℕ, suc, List, ap, sym, subst, length, arith, rules, ◌∙◌, append_assoc, get_or}
use Rattle.std.specs.Prelude.{map}
use Rattle.std.specs.List.{range_with_len}
use Rattle.kr_value.specs.declared.value.Value.{Value}
use Rattle.kr_mean.specs.Heaps.{value_at}
use Rattle.kr_mean.specs.Space.{no_choice}
use Rattle.kr_mean.specs.Problem.{choices_at}
use Rattle.kr_space_layout.specs.Bounds.{bare}
use Rattle.kr_build.proofs.Rows.{in_vector}
use Rattle.kr_build.proofs.heap.values_of.Goals as goal

pub get-requires : goal.get-requires
get-requires c = (in_vector (bare c.args.layout.now) c.args.vector.now (c.args.stretch.first + c.loop-number.number) c.requires.vector (c.requires.inside c.loop-number.number c.loop-number-test.true)).slot

pub value-requires-clause-slot : goal.value-requires-clause-slot
value-requires-clause-slot c = c.requires.inside c.loop-number.number c.loop-number-test.true

pub value-requires-clause-index : goal.value-requires-clause-index
value-requires-clause-index c =
    subst (λ (i : ℕ). i < length (choices_at (bare c.args.layout.now) (c.args.stretch.first + c.loop-number.number))) (sym c.get.ensures)
    (in_vector (bare c.args.layout.now) c.args.vector.now (c.args.stretch.first + c.loop-number.number) c.requires.vector (c.requires.inside c.loop-number.number c.loop-number-test.true)).index

pub loop-number-preserved : goal.loop-number-preserved
loop-number-preserved c =
    let f = value_at (bare c.args.layout.now) c.args.vector.now in
    let at = c.args.stretch.first + c.loop-number.number in
    let on = c.args.stretch.first + (c.loop-number.number + 1) in
    let left = c.args.stretch.count - (c.loop-number.number + 1) in
    let n : c.args.stretch.count - c.loop-number.number ≡ suc left = omega arith in
    let s : at + 1 ≡ on = omega arith in
    let value : c.value.result ≡ f at = c.value.ensures ∙ ap (λ (i : ℕ). (get_or (choices_at (bare c.args.layout.now) at) i no_choice).value) c.get.ensures in
    let items : c.push.new.self.items ≡ c.loop-number.values.items ++ c.value.result ∷ [] = search rules in
    c.loop-number.invariant
    ∙ (ap (λ (m : ℕ). c.loop-number.values.items ++ map f (range_with_len at m)) n
    ∙ (ap (λ (m : ℕ). c.loop-number.values.items ++ f at ∷ map f (range_with_len m left)) s
    ∙ (sym (append_assoc c.loop-number.values.items (f at ∷ []) (map f (range_with_len on left)))
    ∙ ap (λ (xs : List Value). xs ++ map f (range_with_len on left)) (ap (λ (x : Value). c.loop-number.values.items ++ x ∷ []) (sym value) ∙ sym items))))
