use Rattle.std.proofs.Common.{◌++◌, ◌∙◌, List, ℕ, ap, subst, sym}
use Rattle.std.specs.Prelude.{codes}
use Rattle.kr_base.specs.Cuts.{cut_text}
use Rattle.kr_emit_meaning.specs.Builders.{class_text, front_text}
use Rattle.kr_emit.proofs.Lines.{front_added, line_as}
use Rattle.kr_emit.specs.TypeNames.{type_name}
use Rattle.kr_mean.specs.Runs.{root_class}
use Rattle.kr_space_layout.specs.Bounds.{Bounds, bare}
use Rattle.kr_space_problem.specs.declared.problem.Problem.{Problem}
use Rattle.kr_space_problem.specs.Posed.{IsPosed, posed}
use Rattle.kr_text.specs.Lines.{line_bytes}
use Rattle.kr_emit.proofs.texts.builder_front.Goals as goal

pub class_name-requires : goal.class_name-requires
class_name-requires c = subst IsPosed (sym c.problem.ensures) c.laws.ensures.accepted.posed

pub returns : goal.returns
returns c =
    let problem = c.args.prepared.now.problem in
    let kind = c.class_name.result in
    let key = cut_text c.args.row.now.key in
    let old = line_bytes c.args.line.now in
    let new = line_bytes c.add_all.new.line in
    let named = λ (type : List ℕ). codes "  // " ++ key ++ codes "\n  static " ++ type ++ codes " b" in
    line_as c.add_all.result old new (named (type_name kind)) (front_text (posed problem) c.args.row.now)
    (front_added c.add_all.result old (line_bytes c.add.new.self) (line_bytes c.add_key.new.line) new key kind.outer.now kind.dot.now kind.name.now c.in_ok-add.ensures.added c.in_ok-add_key.ensures c.add_all.ensures)
    (ap (λ (n : ℕ). named (class_text (posed problem).program.table.headings n)) (sym (c.root_class-class.ensures ∙ ap (λ (b : Bounds). root_class (bare b)) c.layout.ensures.same))
    ∙ (ap (λ (q : Problem). named (class_text (posed q).program.table.headings c.root_class-class.result)) (sym c.problem.ensures) ∙ ap named (sym c.class_name.ensures)))
