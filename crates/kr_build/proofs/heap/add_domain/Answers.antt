use Rattle.std.proofs.Common.{◌≡◌, ◌+◌, ◌-◌, ◌++◌, ◌∷◌, [], ℕ, suc, List, ap, sym, arith, rules, ◌∙◌, append_assoc}
use Rattle.std.specs.Prelude.{map}
use Rattle.std.specs.List.{range_with_len}
use Rattle.kr_value.specs.Heaps.{HeapObject}
use Rattle.kr_mean.specs.Heaps.{heap_object}
use Rattle.kr_mean.specs.Problem.{DomainObject, domain_at}
use Rattle.kr_space_layout.specs.Bounds.{bare}
use Rattle.kr_build.proofs.heap.add_domain.Goals as goal

pub loop-number-preserved : goal.loop-number-preserved
loop-number-preserved c =
    let f = heap_object (bare c.args.layout.now) c.args.vector.now in
    let o : ℕ → DomainObject = λ k. record { domain = c.args.domain; number = k } in
    let at = c.loop-number.number in
    let count = (domain_at (bare c.args.layout.now) c.args.domain).count in
    let rest = map f (map o (range_with_len (at + 1) (count - (at + 1)))) in
    let n : count - at ≡ suc (count - (at + 1)) = omega (arith, c.loop-number-test.true, c.count-number-end.ensures) in
    let new : c.add_object.new.heap ≡ c.loop-number.heap ++ f (o at) ∷ [] = search rules in
    c.loop-number.invariant
    ∙ (ap (λ (m : ℕ). c.loop-number.heap ++ map f (map o (range_with_len at m))) n
    ∙ (sym (append_assoc c.loop-number.heap (f (o at) ∷ []) rest)
    ∙ ap (λ (xs : List HeapObject). xs ++ rest) (sym new)))
