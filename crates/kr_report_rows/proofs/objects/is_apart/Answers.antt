use Rattle.std.proofs.Common.{◌∙◌, sym}
use Rattle.std.specs.Prelude.{not}
use Rattle.std.proofs.lemmas.Bool.{eq-eqb, eqb-true}
use Rattle.kr_iso.specs.Objects.{object_of}
use Rattle.kr_space_layout.specs.Bounds.{bare}
use Rattle.kr_report_rows.proofs.Apart.{apart_is}
use Rattle.kr_report_rows.proofs.objects.is_apart.Goals as goal

pub returns : goal.returns
returns c =
    apart_is (bare c.args.layout.now) c.args.other c.args.number (object_of c.args.object) c.requires (sym c.are_same.ensures ∙ c.if-are_same.false)
