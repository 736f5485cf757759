use Rattle.std.proofs.Common.{rules, ◌≡◌, ◌∙◌, ◌∷◌, ℕ, List, subst}
use Rattle.std.specs.Prelude.{codes, decimal}
use Rattle.std.proofs.lemmas.Fmt.{decimal_digit}
use Rattle.kr_base.specs.Told.{Writes}
use Rattle.kr_report_rows.proofs.Pieces.{last_piece}
use Rattle.kr_report_rows.proofs.values.put_rank.Goals as goal

pub returns-then-number-lt10 : goal.returns-then-number-lt10
returns-then-number-lt10 g c =
    let P : List ℕ → Type 0 = λ text. Writes g.K.Sink.taken g.K.Sink.faults c.args.out.now c.put_all.new.out text c.put_all.result in
    let e : c.as_slice.result.now ≡ 35 ∷ decimal c.args.number = rw (decimal_digit c.args.number c.if-number-lt10.true) (search rules) in
    subst P e c.put_all.ensures

pub returns : goal.returns
returns g c =
    let P : List ℕ → Type 0 = λ text. Writes g.K.Sink.taken g.K.Sink.faults c.args.out.now c.put_pieces.new.out text c.put_pieces.result in
    subst P (last_piece (codes "#") (decimal c.args.number) c.as_bytes-number.result.now (c.as_bytes-number.ensures.value ∙ c.format.ensures.text)) c.put_pieces.ensures
