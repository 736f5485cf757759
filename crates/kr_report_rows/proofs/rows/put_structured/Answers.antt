use Rattle.std.proofs.Common.{◌≡◌, ◌∙◌, [], List, ℕ, ap, map, subst, sym}
use Rattle.std.specs.Prelude.{All, None}
use Rattle.kr_ast.specs.Arena.{Arena}
use Rattle.kr_base.specs.Told.{Writes}
use Rattle.kr_classes_names.proofs.Walks.{map_map}
use Rattle.kr_classes_members.specs.Shown.{IsField, field_name, field_shown}
use Rattle.kr_classes_table.specs.Table as table
use Rattle.kr_iso.specs.Objects.{object_of}
use Rattle.kr_mean.specs.Problem.{domain_at}
use Rattle.kr_space_layout.specs.Bounds.{bare}
use Rattle.kr_space_problem.specs.declared.problem.Problem.{Problem}
use Rattle.kr_space_problem.specs.Posed.{posed}
use Rattle.kr_value.specs.declared.object.Class.{Class}
use Rattle.kr_report.specs.Texts.{field_names}
use Rattle.kr_report_rows.specs.Parts.{class_in}
use Rattle.kr_report_rows.proofs.Meant.{class_is, no_names, object_laid}
use Rattle.kr_report_rows.proofs.rows.put_structured.Goals as goal

pub put_object-requires : goal.put_object-requires
put_object-requires g c =
    let files : c.as_slice-trees.result.now ≡ c.args.prepared.now.problem.program.trees.items = c.as_slice-trees.ensures.value ∙ ap (λ (p : Problem). p.program.trees.items) c.problem.ensures in
    subst (λ (fs : List Arena). All (IsField fs) c.fields-fields.result.now) (sym files) c.fields-fields.ensures.fields

pub returns-in-None : goal.returns-in-None
returns-in-None g c =
    let problem = posed c.args.prepared.now.problem in
    let o = object_of c.args.object in
    let class = (domain_at (bare c.args.layout.now) c.args.object.domain).class in
    let none : class_in class ≡ None = ap class_in (sym c.class_of.ensures) ∙ (sym c.class_in.ensures ∙ c.in-None.is) in
    let P : List ℕ → Type 0 = λ text. Writes g.K.Sink.taken g.K.Sink.faults c.args.out.now c.put_unnamed.new.out text c.put_unnamed.result in
    subst P (object_laid problem c.args.layout.now c.requires.laid c.args.structure.now [] o (no_names problem.program.table class none)) c.put_unnamed.ensures

pub returns-in-Some : goal.returns-in-Some
returns-in-Some g c =
    let problem = posed c.args.prepared.now.problem in
    let o = object_of c.args.object in
    let trees = c.args.prepared.now.problem.program.trees.items in
    let fields = c.fields-fields.result.now in
    let files : c.as_slice-trees.result.now ≡ trees = c.as_slice-trees.ensures.value ∙ ap (λ (p : Problem). p.program.trees.items) c.problem.ensures in
    let class = (domain_at (bare c.args.layout.now) c.args.object.domain).class in
    let is = class_is class c.in-Some.class (ap class_in (sym c.class_of.ensures) ∙ (sym c.class_in.ensures ∙ c.in-Some.is)) in
    let names : map (field_name c.as_slice-trees.result.now) fields ≡ field_names problem.program.table class =
    ap (λ (fs : List Arena). map (field_name fs) fields) files
    ∙ ((sym (map_map (λ (f : table.Field). f.name) (field_shown trees) fields) ∙ ap (map (λ (f : table.Field). f.name)) c.fields-fields.ensures.shown)
    ∙ ap (λ (k : Class). field_names problem.program.table k) is) in
    let P : List ℕ → Type 0 = λ text. Writes g.K.Sink.taken g.K.Sink.faults c.args.out.now c.put_object.new.out text c.put_object.result in
    subst P (object_laid problem c.args.layout.now c.requires.laid c.args.structure.now (map (field_name c.as_slice-trees.result.now) fields) o names) c.put_object.ensures
