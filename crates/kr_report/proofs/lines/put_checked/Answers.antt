use Rattle.std.proofs.Common.{◌∙◌, ℕ, List, subst}
use Rattle.std.specs.Prelude.{codes, decimal}
use Rattle.kr_base.specs.Told.{Writes}
use Rattle.kr_report.proofs.Texts.{five_pieces}
use Rattle.kr_report.proofs.lines.put_checked.Goals as goal

pub returns : goal.returns
returns g c =
    let P : List ℕ → Type 0 = λ text. Writes g.K.Sink.taken g.K.Sink.faults c.args.out.now c.put_pieces.new.out text c.put_pieces.result in
    subst P
    (five_pieces (codes "ok classes ") (decimal c.args.classes) (codes " slots ") (decimal c.args.slots) (codes "\n") c.as_bytes-classes.result.now c.as_bytes-slots.result.now
    (c.as_bytes-classes.ensures.value ∙ c.format.ensures.text) (c.as_bytes-slots.ensures.value ∙ c.format-2.ensures.text))
    c.put_pieces.ensures
