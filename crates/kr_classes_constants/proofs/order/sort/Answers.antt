use Rattle.std.proofs.Common.{List, reverse, subst, rules}
use Rattle.std.specs.List.Sorted.{IsStableByKey}
use Rattle.std.proofs.lemmas.List.Sorted.{answers_always}
use Rattle.kr_classes_members.specs.declared.fields.Field.{Field}
use Rattle.kr_classes_constants.proofs.Orders.{place_key, place_cmp, in_order_shown}
use Rattle.kr_classes_constants.proofs.order.sort.Goals as goal

pub returns-clause-shown : goal.returns-clause-shown
returns-clause-shown c = λ files.
    let xs = c.args.fields.now.items in
    let ys = c.sort_by_key.new.self.items in
    let stable : IsStableByKey place_key place_cmp (reverse xs) ys =
    subst (λ (zs : List Field). IsStableByKey place_key place_cmp zs ys) c.reverse.ensures.items (c.in_ok-sort_by_key.ensures.stable place_key (answers_always _ _ _ (λ f a r g h. search rules))) in
    in_order_shown files xs ys (c.in_ok-sort_by_key.ensures.sorted place_key (answers_always _ _ _ (λ f a r g h. search rules))) stable
