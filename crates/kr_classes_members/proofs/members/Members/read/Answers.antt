use Rattle.std.proofs.Common.{ap, sym, subst, ◌∙◌, All, ◌++◌, ◌∷◌, [], ◌<◌, List, length, map, take, arith}
use Rattle.std.specs.Prelude.{None}
use Rattle.std.proofs.lemmas.List.{map-append, take_all}
use Rattle.std.proofs.lemmas.List.Elements.{All-push}
use Rattle.kr_classes_table.specs.Table.{classes_from}
use Rattle.kr_classes_names.specs.declared.headings.Heading.{Heading}
use Rattle.kr_classes_names.specs.Shown.{heading_shown}
use Rattle.kr_classes_members.specs.declared.members.ClassMembers.{ClassMembers}
use Rattle.kr_classes_members.specs.Shown.{headings_in}
use Rattle.kr_classes_members.specs.Kept.{IsClass, class_shown}
use Rattle.kr_classes_members.proofs.Classes.{classes_in, classes_step}
use Rattle.kr_classes_members.proofs.members.Members.read.Goals as goal

pub loop-class-preserved : goal.loop-class-preserved
loop-class-preserved c =
    let files = c.args.trees.now in
    let hs = headings_in files in
    let xs = c.headings-heading-items.result.now in
    let i = c.loop-class.class in
    let l : i < length xs = c.loop-class-test.true in
    let absent : Heading = record { file = 0; name = record { start = 0; end = 0 }; place = record { file = 0; line = 0; col = 0 }; outer = None; extended = 0; members = 0 } in
    let kept = c.loop-class.classes.items in
    let one = c.in_ok-members.members in
    record {
      stands = subst (λ (ks : List ClassMembers). All (IsClass files) ks) (sym c.in_ok-push.ensures.items) (All-push (IsClass files) kept one c.loop-class.invariant.stands c.in_ok-members.ensures.stands);
      shown = ap (map (class_shown files)) c.in_ok-push.ensures.items
          ∙ map-append (class_shown files) kept (one ∷ [])
          ∙ ap (λ ds. ds ++ class_shown files one ∷ []) c.loop-class.invariant.shown
          ∙ ap (λ d. classes_from hs 0 (map (heading_shown files) (take i xs)) ++ d ∷ []) c.in_ok-members.ensures.shown
          ∙ classes_step hs (heading_shown files) xs i absent l;
    }

pub returns : goal.returns
returns c =
    let files = c.args.trees.now in
    let hs = headings_in files in
    let xs = c.headings-heading-items.result.now in
    record {
      stands = c.loop-class.invariant.stands;
      shown = c.loop-class.invariant.shown
          ∙ ap (λ ys. classes_from hs 0 (map (heading_shown files) ys)) (take_all c.loop-class.class xs (omega arith))
          ∙ ap (classes_from hs 0) (c.headings-heading-items.ensures.shown files c.requires)
          ∙ sym (classes_in files);
    }
