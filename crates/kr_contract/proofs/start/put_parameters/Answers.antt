use Rattle.std.proofs.Common.{◌≡◌, ◌<◌, ◌+◌, ◌-◌, ◌^◌, ◌++◌, ◌∷◌, [], ℕ, suc, List, None, ap, sym, length, arith, rules, ◌∙◌, append_assoc}
use Rattle.std.specs.Prelude.{map}
use Rattle.std.specs.List.{range_with_len}
use Rattle.std.proofs.lemmas.List.{append-nil, map-append}
use Rattle.kr_value.specs.declared.value.Value.{Value}
use Rattle.kr_mean.specs.Heaps.{value_at}
use Rattle.kr_mean.specs.Problem.{slots}
use Rattle.kr_mean.specs.Steps.{Local, plain_local}
use Rattle.kr_space_layout.specs.Bounds.{bare}
use Rattle.kr_run_state.specs.Shown.{local_of}
use Rattle.kr_run_state.specs.declared.world.Local as code
use Rattle.kr_build.proofs.Rows.{roots_inside}
use Rattle.kr_contract.proofs.start.put_parameters.Goals as goal

pub overflow_cast-count : goal.overflow_cast-count
overflow_cast-count c =
    let r = roots_inside (bare c.args.layout.now) in
    let f : c.parameters-count.result < 2 ^ 32 = omega (arith, r, c.requires.small, c.parameters-count.ensures) in
    search rules

pub value_in-requires-clause-slot : goal.value_in-requires-clause-slot
value_in-requires-clause-slot c =
    let r = roots_inside (bare c.args.layout.now) in
    let inside : c.loop-number.number + 1 < length (slots (bare c.args.layout.now)) = omega (arith, r, c.loop-number-test.true, c.parameters-count.ensures) in
    inside

pub loop-number-preserved : goal.loop-number-preserved
loop-number-preserved c =
    let f : ℕ → Value = λ i. value_at (bare c.args.layout.now) c.args.vector.now (i + 1) in
    let ls = c.loop-number.locals.items in
    let k = c.loop-number.number in
    let left = c.parameters-count.result - (k + 1) in
    let n : c.parameters-count.result - k ≡ suc left = omega (arith, c.loop-number-test.true) in
    let x : code.Local = record { value = c.value_in.result; parameter = None } in
    let is : local_of x ≡ plain_local (f k) = ap plain_local c.value_in.ensures in
    let items : c.push.new.self.items ≡ ls ++ x ∷ [] = search rules in
    c.loop-number.invariant
    ∙ (ap (λ (m : ℕ). map local_of ls ++ map plain_local (map f (range_with_len k m))) n
    ∙ (sym (append_assoc (map local_of ls) (plain_local (f k) ∷ []) (map plain_local (map f (range_with_len (k + 1) left))))
    ∙ ap (λ (xs : List Local). xs ++ map plain_local (map f (range_with_len (k + 1) left))) (ap (λ (y : Local). map local_of ls ++ y ∷ []) (sym is) ∙ (sym (map-append local_of ls (x ∷ [])) ∙ ap (map local_of) (sym items)))))

pub returns : goal.returns
returns c =
    let f : ℕ → Value = λ i. value_at (bare c.args.layout.now) c.args.vector.now (i + 1) in
    let none : c.parameters-count.result - c.loop-number.number ≡ 0 = omega (arith, c.loop-number-test.false) in
    let count : c.parameters-count.result ≡ length c.args.layout.now.parameters = c.parameters-count.ensures in
    sym (append-nil (map local_of c.loop-number.locals.items))
    ∙ (ap (λ (m : ℕ). map local_of c.loop-number.locals.items ++ map plain_local (map f (range_with_len c.loop-number.number m))) (sym none)
    ∙ (sym c.loop-number.invariant
    ∙ ap (λ (m : ℕ). map plain_local (map f (range_with_len 0 m))) count))
