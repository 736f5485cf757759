use Rattle.std.proofs.Common.{◌≡◌, ◌+◌, ◌-◌, ◌++◌, ℕ, suc, List, ap, sym, ◌∙◌, arith, append_assoc}
use Rattle.std.specs.Prelude.{flat_map}
use Rattle.std.specs.List.{range_with_len}
use Rattle.kr_space_layout.specs.declared.entry.Entry.{Entry}
use Rattle.kr_space_layout.specs.Tables.{object_entries}
use Rattle.kr_space_layout.proofs.tables.add_class.Goals as goal

pub loop-number-preserved : goal.loop-number-preserved
loop-number-preserved c =
    let number = c.loop-number.number in
    let count = c.args.block.count in
    let f = λ (k : ℕ). object_entries c.args.block c.args.spots.now k in
    let rest = flat_map f (range_with_len (number + 1) (count - (number + 1))) in
    let e : count - number ≡ suc (count - (number + 1)) = omega arith in
    c.loop-number.invariant
    ∙ (ap (λ (m : ℕ). c.loop-number.entries.items ++ flat_map f (range_with_len number m)) e
    ∙ (sym (append_assoc c.loop-number.entries.items (f number) rest)
    ∙ ap (λ (xs : List Entry). xs ++ rest) (sym c.in_ok-add_object.ensures)))
