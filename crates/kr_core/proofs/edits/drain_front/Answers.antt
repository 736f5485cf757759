use Rattle.std.proofs.Common.{◌≡◌, ◌<◌, ◌≤◌, ◌==◌, ℕ, length, vec_len, refl, true, false, arith, sym, ◌∙◌, length-take}
use Rattle.std.proofs.lemmas.Bool.Decides.{nat_tests}
use Rattle.kr_core.proofs.Fronts.{count_within, tried_taken, left_none, left_some}
use Rattle.kr_core.proofs.edits.drain_front.Goals as goal

some : (n m : ℕ) → (n == 0) ≡ false → n ≡ m → 0 < m
some n m h e = grind (arith, nat_tests)

none : (n m : ℕ) → (n == 0) ≡ true → n ≡ m → m ≡ 0
none n m h e = grind (arith, nat_tests)

pub slice_bounds-tried_of-end : goal.slice_bounds-tried_of-end
slice_bounds-tried_of-end c =
    let n = c.gone_count-count.result in
    let xs = c.as_slice-2.result.now in
    let within : n ≤ length xs = count_within n c.as_slice.result.now xs c.gone_count-count.ensures (c.as_slice.ensures.value ∙ sym c.as_slice-2.ensures.value) in
    omega (arith, length-take n xs)

pub drop_first-requires : goal.drop_first-requires
drop_first-requires c =
    let n = c.gone_count-count.result in
    omega (arith, count_within n c.as_slice.result.now c.args.segments.now.items c.gone_count-count.ensures c.as_slice.ensures.value, c.args.segments.now.ok.0)

pub returns-then-not-is_empty-clause-tried : goal.returns-then-not-is_empty-clause-tried
returns-then-not-is_empty-clause-tried c =
    tried_taken c.gone_count-count.result c.tried_of-tried.result c.as_slice.result.now c.as_slice-2.result.now c.args.segments.now.items c.gone_count-count.ensures c.as_slice.ensures.value c.as_slice-2.ensures.value c.tried_of-tried.ensures

pub returns-else-not-is_empty-clause-tried : goal.returns-else-not-is_empty-clause-tried
returns-else-not-is_empty-clause-tried c =
    tried_taken c.gone_count-count.result c.tried_of-tried.result c.as_slice.result.now c.as_slice-2.result.now c.args.segments.now.items c.gone_count-count.ensures c.as_slice.ensures.value c.as_slice-2.ensures.value c.tried_of-tried.ensures

pub returns-then-not-is_empty-clause-left : goal.returns-then-not-is_empty-clause-left
returns-then-not-is_empty-clause-left c =
    let v = c.drop_first.new.segments in
    let full : 0 < length v.items = some (vec_len v) (length v.items) (sym c.is_empty.ensures ∙ c.if-not-is_empty.true) v.ok.0 in
    left_some c.gone_count-count.result c.as_slice.result.now c.args.segments.now.items v.items c.index_mut.result.now _ c.gone_count-count.ensures c.as_slice.ensures.value c.drop_first.ensures full c.index_mut.ensures.value refl

pub returns-else-not-is_empty-clause-left : goal.returns-else-not-is_empty-clause-left
returns-else-not-is_empty-clause-left c =
    let v = c.drop_first.new.segments in
    let empty : length v.items ≡ 0 = none (vec_len v) (length v.items) (sym c.is_empty.ensures ∙ c.if-not-is_empty.false) v.ok.0 in
    left_none c.gone_count-count.result c.as_slice.result.now c.args.segments.now.items v.items c.gone_count-count.ensures c.as_slice.ensures.value c.drop_first.ensures empty
