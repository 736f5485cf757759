use Rattle.std.proofs.Common.{◌∙◌, ℕ, List, subst}
use Rattle.std.specs.Prelude.{codes, decimal}
use Rattle.kr_base.specs.Told.{Writes}
use Rattle.kr_report_streaming.proofs.Pieces.{five_pieces}
use Rattle.kr_report_streaming.proofs.trace.put_head.Goals as goal

pub returns : goal.returns
returns g c =
    let P : List ℕ → Type 0 = λ text. Writes g.K.Sink.taken g.K.Sink.faults c.args.out.now c.put_pieces.new.out text c.put_pieces.result in
    subst P (five_pieces c.args.word.now (decimal c.args.a) (codes " ") (decimal c.args.b) (codes " ") c.as_bytes-a.result.now c.as_bytes-b.result.now (c.as_bytes-a.ensures.value ∙ c.format.ensures.text) (c.as_bytes-b.ensures.value ∙ c.format-2.ensures.text)) c.put_pieces.ensures
