use Rattle.std.proofs.Common.{sym, subst}
use Rattle.kr_base.specs.Told.{Writes}
use Rattle.kr_mean.specs.Problem.{DomainObject}
use Rattle.kr_space_layout.specs.Bounds.{bare}
use Rattle.kr_value.specs.declared.value.Value.{Value}
use Rattle.kr_report.specs.Texts.{object_name, value_text}
use Rattle.kr_report_rows.proofs.values.put_value.Goals as goal

pub returns-in-Ref : goal.returns-in-Ref
returns-in-Ref g c =
    let P : DomainObject → Type 0 = λ o. Writes g.K.Sink.taken g.K.Sink.faults c.args.out.now c.put_object_name.new.out (object_name (bare c.args.layout.now) o) c.put_object_name.result in
    let Q : Value → Type 0 = λ v. Writes g.K.Sink.taken g.K.Sink.faults c.args.out.now c.put_object_name.new.out (value_text (bare c.args.layout.now) v) c.put_object_name.result in
    subst Q (sym c.in-Ref.is) (subst P c.numbered.ensures c.put_object_name.ensures)
