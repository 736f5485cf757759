use Rattle.std.proofs.Common.{refl, sym, ap, ◌∙◌, map}
use Rattle.kr_value.specs.declared.object.Class.{Class}
use Rattle.kr_classes_names.specs.Types.{type_at}
use Rattle.kr_space_problem.specs.Posed.{posed}
use Rattle.kr_pure_effects.proofs.Finitized.{some_touched}
use Rattle.kr_pure_effects.proofs.candidates.touches_candidates.Goals as goal

pub returns-clause-touched : goal.returns-clause-touched
returns-clause-touched c = λ t typed.
    let problem = c.args.problem.now in
    let p = problem.program in
    let l = p.table.types in
    let mean = (posed problem).program in
    let touch = c.touch_of.result in
    let ds = problem.layout.domains in
    let arrays = ap (map (type_at l)) (sym c.deref.ensures.value) in
    let is = c.touches_some.ensures p.trees.items mean c.requires.problem.program.table.table.members refl arrays in
    let same = λ (class : Class). c.touch_of.ensures.shown mean t class typed in
    let law = some_touched mean l touch ds in
    (λ e. let w = law.0 (sym is ∙ e) in (w.0, sym (same w.0) ∙ w.1, w.2), λ w. is ∙ law.1 (w.0, same w.0 ∙ w.1, w.2))
