use Rattle.std.proofs.Common.{◌≡◌, ℕ, List, max, ap, ◌∙◌, drop, arith}
use Rattle.std.proofs.lemmas.List.{drop_all}
use Rattle.kr_fin.specs.declared.document.Item.{Item}
use Rattle.kr_classes_table.specs.Numbers.{Bits32}
use Rattle.kr_space_meaning.specs.Bounds.{greatest, item_values, lengths_in, lengths_of}
use Rattle.kr_space.proofs.LengthLists.{greatest_more}
use Rattle.kr_space.proofs.lengths.greatest_length.Goals as goal

pub loop-item-preserved : goal.loop-item-preserved
loop-item-preserved c = λ setting.
    greatest_more setting c.args.items.now _ c.loop-item.found c.greater-found.result c.loop-item.item-index c.item-item.result c.loop-item-test.true (c.loop-item.invariant setting)
    (c.greater-found.ensures ∙ ap (λ (n : ℕ). max c.loop-item.found n) (c.entry_greatest.ensures setting ∙ ap (λ (i : Item). greatest (lengths_in (item_values setting Bits32 i))) c.item-item.is))

pub returns : goal.returns
returns c = λ setting.
    let none : greatest (lengths_of setting (drop c.loop-item.item-index c.args.items.now)) ≡ 0 = ap (λ (is : List Item). greatest (lengths_of setting is)) (drop_all c.loop-item.item-index c.args.items.now c.loop-item-test.false) in
    omega (arith, c.loop-item.invariant setting, none)
