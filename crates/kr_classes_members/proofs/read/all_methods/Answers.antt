use Rattle.std.proofs.Common.{◌≡◌, sym, ap, ◌∙◌, subst, List, [], ◌∷◌, ◌++◌, length, map, take, All, arith, length-append}
use Rattle.std.specs.Prelude.{flat_map}
use Rattle.std.proofs.lemmas.List.{length-map, map-append}
use Rattle.std.proofs.lemmas.List.Elements.{All-append}
use Rattle.kr_classes_members.specs.declared.methods.Method.{Method}
use Rattle.kr_classes_members.specs.Shown.{IsMethod, method_shown, table_in}
use Rattle.kr_classes_members.specs.Rosters.{first_of, methods_of_class}
use Rattle.kr_classes_members.proofs.Sections.{first_push, one_more}
use Rattle.kr_classes_members.proofs.read.all_methods.Goals as goal

pub loop-class-preserved : goal.loop-class-preserved
loop-class-preserved c =
    let m = c.args.members.now in
    let i = c.loop-class.invariant in
    let class = c.loop-class.class in
    let old = c.loop-class.all.items in
    let own = c.methods.result.now in
    let all = c.in_ok-extend_from_slice.ensures.items in
    let first = c.in_ok-push.ensures.items in
    record {
      count = omega (arith, ap length first, length-append c.loop-class.first.items (c.in_ok-counted.field-0 ∷ []), i.count);
      stands = λ files h. subst (λ (xs : List Method). All (IsMethod files) xs) (sym all) (All-append (IsMethod files) old own (i.stands files h) (c.methods.ensures.stands files h));
      shown = λ files h.
          ap (map (method_shown files)) all ∙ (map-append (method_shown files) old own ∙ (ap (λ w. w ++ map (method_shown files) own) (i.shown files h) ∙ (ap (λ w. flat_map methods_of_class (take class (table_in files).classes) ++ w) (c.methods.ensures.shown files h) ∙ sym (one_more methods_of_class (table_in files).classes class))));
      first = λ files h.
          let n : length old ≡ first_of methods_of_class (table_in files) class = sym (length-map old (method_shown files)) ∙ ap length (i.shown files h) in
          let k : c.in_ok-counted.field-0 ≡ length old = omega (arith, c.in_ok-counted.ensures.0, ap (λ (xs : List Method). length xs) c.as_slice.ensures.value) in
          first_push methods_of_class (table_in files) c.loop-class.first.items c.push.new.self.items c.in_ok-counted.field-0 (i.first files h) first (k ∙ (n ∙ ap (first_of methods_of_class (table_in files)) (sym i.count)));
    }
