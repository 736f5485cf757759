use Rattle.std.proofs.Common.{◌∙◌, ℕ, List, subst}
use Rattle.std.specs.Prelude.{codes, decimal}
use Rattle.kr_base.specs.Told.{Writes}
use Rattle.kr_report.proofs.Texts.{five_pieces}
use Rattle.kr_report.proofs.lines.put_counted.Goals as goal

pub returns : goal.returns
returns g c =
    let P : List ℕ → Type 0 = λ text. Writes g.K.Sink.taken g.K.Sink.faults c.args.out.now c.put_pieces.new.out text c.put_pieces.result in
    subst P
    (five_pieces (codes "nodes ") (decimal c.args.nodes) (codes " valid ") (decimal c.args.valid) (codes "\n") c.as_bytes-nodes.result.now c.as_bytes-valid.result.now
    (c.as_bytes-nodes.ensures.value ∙ c.format.ensures.text) (c.as_bytes-valid.ensures.value ∙ c.format-2.ensures.text))
    c.put_pieces.ensures
