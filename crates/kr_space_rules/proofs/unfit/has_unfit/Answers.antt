use Rattle.std.proofs.Common.{◌≡◌, ◌<◌, ℕ, true, ap, sym, ◌∙◌, arith}
use Rattle.std.specs.Prelude.{not}
use Rattle.std.specs.List.{list_any}
use Rattle.std.proofs.lemmas.List.{drop_all}
use Rattle.kr_fin.specs.declared.document.Item.{Item}
use Rattle.kr_space_meaning.specs.Faults.{fits}
use Rattle.kr_classes_names.proofs.Growing.{extends_on, number_kept}
use Rattle.kr_space_rules.specs.Classes.{table_of}
use Rattle.kr_space_rules.proofs.Lists.{passed}
use Rattle.kr_classes_names.specs.Types.{TypeList, Extends, count}
use Rattle.kr_space_rules.proofs.unfit.has_unfit.Goals as goal

still_within : (n : ℕ) (a b : TypeList) → Extends a b → n < count a → n < count b
still_within n a b e h = let m = e.more in omega (arith, h, m)

pub loop-item-preserved : goal.loop-item-preserved
loop-item-preserved c =
    let inv = c.loop-item.invariant in
    let extends = extends_on c.args.types.now c.loop-item.types c.item_fits.new.types inv.extends c.item_fits.ensures.extends in
    record {
      is = λ t h.
          let fit : fits (table_of c.args.classes.now) c.args.document.now t c.item-item.result ≡ true =
          sym (c.in_ok-item_fits.ensures.is t (number_kept c.args.types.now c.loop-item.types c.args.number t inv.extends h)) ∙ c.if-not-branch.false in
          inv.is t h ∙ passed (λ (i : Item). not (fits (table_of c.args.classes.now) c.args.document.now t i)) c.args.items.now c.loop-item.item-index c.item-item.result c.loop-item-test.true c.item-item.is (ap not fit);
      within = still_within c.args.number c.loop-item.types c.item_fits.new.types c.item_fits.ensures.extends inv.within;
      extends = extends;
    }

pub returns-clause-is : goal.returns-clause-is
returns-clause-is c = λ t h.
    sym (c.loop-item.invariant.is t h
    ∙ ap (list_any (λ (i : Item). not (fits (table_of c.args.classes.now) c.args.document.now t i))) (drop_all c.loop-item.item-index c.args.items.now c.loop-item-test.false))
