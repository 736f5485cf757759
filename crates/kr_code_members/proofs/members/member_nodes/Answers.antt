use Rattle.std.proofs.Common.{◌≡◌, sym, ap, ◌∙◌, subst, ◌<◌, [], ◌∷◌, length, length-append, take, arith}
use Rattle.std.specs.Prelude.{flat_map}
use Rattle.std.proofs.lemmas.List.{take_all}
use Rattle.kr_classes_members.specs.Rosters.{methods_of_class, no_method}
use Rattle.kr_code_members.specs.Nodes.{IsClassNodes, IsMethodNode, table}
use Rattle.kr_code_members.specs.Walk.{HasHeading, heading_numbered, no_heading}
use Rattle.kr_code_members.proofs.Zipped.{each_push, zip_at, zip_length, zip_number}
use Rattle.kr_code_members.proofs.Tables.{class_count_is, class_number, constructor_is, few_classes, fields_are, methods_more, no_class}
use Rattle.kr_code_members.proofs.members.member_nodes.Goals as goal

pub overflow_cast-count : goal.overflow_cast-count
overflow_cast-count c =
    let p = c.args.program.now in
    omega (arith, few_classes p c.requires.program, zip_length (HasHeading p) (table p).headings c.in_ok-nodes.nodes.items c.in_ok-nodes.ensures, c.len-count.ensures)

pub class_members-requires-clause-class : goal.class_members-requires-clause-class
class_members-requires-clause-class c =
    let p = c.args.program.now in
    let k = c.loop-class.class in
    let count = zip_length (HasHeading p) (table p).headings c.in_ok-nodes.nodes.items c.in_ok-nodes.ensures in
    let l : k < length c.in_ok-nodes.nodes.items = omega arith in
    record {
      node = subst (HasHeading p (heading_numbered p k)) (sym c.index-at.ensures) (zip_at (HasHeading p) (table p).headings c.in_ok-nodes.nodes.items k no_heading c.index-at.result.now c.in_ok-nodes.ensures l);
      number = class_number p c.requires.program k (omega (arith, count, l));
    }

pub loop-class-preserved : goal.loop-class-preserved
loop-class-preserved c =
    let p = c.args.program.now in
    let k = c.loop-class.class in
    let count = zip_length (HasHeading p) (table p).headings c.in_ok-nodes.nodes.items c.in_ok-nodes.ensures in
    let l : k < length (table p).headings = omega (arith, count) in
    let m : k < length (table p).classes = omega (arith, l, class_count_is p) in
    let made = c.in_ok-made.made in
    let inv = c.loop-class.invariant in
    let is_class : IsClassNodes p k made = record {
      fields = rw (fields_are p k l) c.in_ok-made.ensures.fields;
      constructor = rw (constructor_is p k l) c.in_ok-made.ensures.constructor;
    } in
    record {
      methods = rw (← methods_more p k (no_class p) m) (c.in_ok-made.ensures.methods (flat_map methods_of_class (take k (table p).classes)) inv.methods);
      count = omega (arith, inv.count, ap length c.in_ok-push.ensures.items, length-append c.loop-class.classes.items (made ∷ []));
      classes = each_push (IsClassNodes p) c.loop-class.classes.items _ made k c.in_ok-push.ensures.items inv.count is_class inv.classes;
    }

pub returns : goal.returns
returns c =
    let p = c.args.program.now in
    let count = zip_length (HasHeading p) (table p).headings c.in_ok-nodes.nodes.items c.in_ok-nodes.ensures in
    let e : c.loop-class.class ≡ length (table p).classes = omega (arith, count, class_count_is p) in
    let all = ap (flat_map methods_of_class) (take_all c.loop-class.class (table p).classes (omega (arith, e))) in
    let zipped = rw all at c.loop-class.invariant.methods in
    record {
      method_count = zip_length (IsMethodNode p) (flat_map methods_of_class (table p).classes) c.loop-class.methods.items zipped;
      methods = zip_number (IsMethodNode p) (flat_map methods_of_class (table p).classes) c.loop-class.methods.items (no_method (table p)) zipped;
      class_count = c.loop-class.invariant.count ∙ e;
      classes = c.loop-class.invariant.classes;
    }
