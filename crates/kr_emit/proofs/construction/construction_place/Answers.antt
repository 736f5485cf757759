use Rattle.std.proofs.Common.{[], ◌∙◌, arith}
use Rattle.std.specs.Prelude.{if◌then◌else◌}
use Rattle.kr_classes_members.specs.Shown.{table_in}
use Rattle.kr_emit_meaning.specs.Buildable.{construction_faults, is_built}
use Rattle.kr_emit.proofs.Faults.{all_classes, one_class}
use Rattle.kr_emit.proofs.construction.construction_place.Goals as goal

pub loop-class-preserved : goal.loop-class-preserved
loop-class-preserved c =
    let t = table_in c.args.trees.now in
    one_class (λ k. if is_built t k c.args.layout.now.domains then construction_faults t k else []) c.args.classes c.loop-class.class c.loop-class.first c.class_place.result c.earlier-first.result (omega arith) c.loop-class.invariant c.earlier-first.ensures.fault
    c.class_place.ensures

pub returns : goal.returns
returns c =
    let t = table_in c.args.trees.now in
    c.loop-class.invariant ∙ all_classes (λ k. if is_built t k c.args.layout.now.domains then construction_faults t k else []) c.args.classes c.loop-class.class (omega arith)
