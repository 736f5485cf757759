use Rattle.std.proofs.Common.{◌∙◌, ℕ, List, subst}
use Rattle.std.specs.Prelude.{codes, decimal}
use Rattle.kr_base.specs.Told.{Writes}
use Rattle.kr_report.proofs.Texts.{three_pieces}
use Rattle.kr_report.proofs.verdicts.put_signals.Goals as goal

pub returns : goal.returns
returns g c =
    let P : List ℕ → Type 0 = λ text. Writes g.K.Sink.taken g.K.Sink.faults c.args.out.now c.put_pieces.new.out text c.put_pieces.result in
    subst P (three_pieces (codes "signals ") (decimal c.args.number) (codes " ") c.as_bytes-number.result.now (c.as_bytes-number.ensures.value ∙ c.format.ensures.text)) c.put_pieces.ensures
