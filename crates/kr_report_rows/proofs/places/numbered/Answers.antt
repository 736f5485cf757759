use Rattle.std.proofs.Common.{subst}
use Rattle.std.specs.Prelude.{Option}
use Rattle.kr_iso.specs.Objects.{object_of}
use Rattle.kr_iso.specs.declared.object.Object.{Object}
use Rattle.kr_space_layout.specs.Bounds.{bare}
use Rattle.kr_space_layout.specs.Numbers.{IsFound}
use Rattle.kr_report_rows.proofs.Absent.{found_is, none_is}
use Rattle.kr_report_rows.proofs.places.numbered.Goals as goal

pub returns-in-Some : goal.returns-in-Some
returns-in-Some c =
    found_is (bare c.args.layout.now) c.args.number (object_of c.in-Some.object)
    (subst (λ (x : Option Object). IsFound (bare c.args.layout.now) c.args.number x) c.in-Some.is c.numbered.ensures)

pub returns-in-None : goal.returns-in-None
returns-in-None c =
    none_is (bare c.args.layout.now) c.args.number
    (subst (λ (x : Option Object). IsFound (bare c.args.layout.now) c.args.number x) c.in-None.is c.numbered.ensures)
