use Rattle.std.proofs.Common.{◌≡◌, ◌+◌, ◌<◌, ◌≤◌, ◌^◌, ℕ, zero, suc, List, ap, sym, subst, length, arith, ◌∙◌}
use Rattle.std.proofs.lemmas.List.FromFn.{length-map-range_with_len}
use Rattle.kr_value.specs.declared.value.Value.{Value}
use Rattle.kr_mean.specs.Heaps.{value_at}
use Rattle.kr_mean.specs.Problem.{slots}
use Rattle.kr_space_layout.specs.Bounds.{bare}
use Rattle.kr_build.proofs.heap.add_object.Goals as goal

few : (n first total : ℕ) → ((j : ℕ) → j < n → first + j < total) → total < 2 ^ 31 → (m k : ℕ) → m ≤ n → k ≡ m → k ≤ 2147483647
few zero first total f t m k a e = omega arith
few (suc n) first total f t m k a e = let h = f n (omega arith) in omega arith

pub values_of-requires-clause-inside : goal.values_of-requires-clause-inside
values_of-requires-clause-inside c = λ j h.
    let r = c.kept-stretch.ensures.inside j h in
    subst (λ (n : ℕ). n < length (slots (bare c.args.layout.now))) (sym r.2) (c.slots_of.ensures.inside r.0 r.1)

pub allocate-requires : goal.allocate-requires
allocate-requires c =
    let f = value_at (bare c.args.layout.now) c.args.vector.now in
    let long : length c.in_ok-values.values.items ≡ c.kept-stretch.result.count =
    ap (λ (xs : List Value). length xs) c.in_ok-values.ensures ∙ length-map-range_with_len f c.kept-stretch.result.first c.kept-stretch.result.count in
    few c.slots_of.result.count c.slots_of.result.first (length (slots (bare c.args.layout.now))) c.slots_of.ensures.inside c.requires.small c.kept-stretch.result.count (length c.in_ok-values.values.items) c.kept-stretch.ensures.fewer long
