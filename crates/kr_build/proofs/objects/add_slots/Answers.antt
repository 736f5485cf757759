use Rattle.std.proofs.Common.{◌≡◌, ℕ, suc, ◌+◌, ◌-◌, ◌++◌, List, sym, ap, ◌∙◌, arith, append_assoc, [], ◌∷◌, rules}
use Rattle.std.specs.List.{range_with_len}
use Rattle.kr_build.proofs.objects.add_slots.Goals as goal

pub loop-number-preserved : goal.loop-number-preserved
loop-number-preserved c =
    let at = c.args.stretch.first + c.loop-number.number in
    let left = c.args.stretch.count - (c.loop-number.number + 1) in
    let n : c.args.stretch.count - c.loop-number.number ≡ suc left = omega arith in
    let s : at + 1 ≡ c.args.stretch.first + (c.loop-number.number + 1) = omega arith in
    let items : c.push.new.self.items ≡ c.loop-number.slots.items ++ at ∷ [] = search rules in
    c.loop-number.invariant
    ∙ (ap (λ (m : ℕ). c.loop-number.slots.items ++ range_with_len at m) n
    ∙ (ap (λ (m : ℕ). c.loop-number.slots.items ++ at ∷ range_with_len m left) s
    ∙ (sym (append_assoc c.loop-number.slots.items (at ∷ []) (range_with_len (c.args.stretch.first + (c.loop-number.number + 1)) left))
    ∙ ap (λ (xs : List ℕ). xs ++ range_with_len (c.args.stretch.first + (c.loop-number.number + 1)) left) (sym items))))
