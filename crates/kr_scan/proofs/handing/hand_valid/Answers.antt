use Rattle.std.proofs.Common.{◌≡◌, List, [], ◌∷◌, sym, ap, ◌∙◌, subst}
use Rattle.std.specs.Prelude.{map}
use Rattle.kr_mean.specs.Entries.{mark_of, row_of}
use Rattle.kr_space_problem.specs.Posed.{posed}
use Rattle.kr_survey.specs.Scans.{row_of as rows_at}
use Rattle.kr_survey.specs.Takings.{Took}
use Rattle.kr_scan.proofs.Marks.{valid_row}
use Rattle.kr_scan.proofs.handing.hand_valid.Goals as goal

pub returns-in-Ok-make-clause-took : goal.returns-in-Ok-make-clause-took
returns-in-Ok-make-clause-took g c = λ start from done h.
    let P = posed c.args.maker.now.problem in
    let v = g.C.Candidate.vector c.args.span.now.candidates in
    let f = g.M.Making.made_of c.args.making.now in
    let row : c.fill.new.row ≡ row_of P v = subst (λ r. c.fill.new.row ≡ row_of P (g.C.Candidate.vector r)) c.candidates.ensures c.in-Ok.ensures.row in
    let made : c.make.new.made ∷ [] ≡ map f (rows_at (mark_of P v)) = ap (λ x. x ∷ []) (c.in-Ok-make.ensures ∙ ap f row) ∙ ap (map f) (sym (valid_row P v c.requires.ends)) in
    subst (λ (rows : List g.row.R.Denot). Took g.T.Taker.takes start from done rows c.take_row.new.self c.take_row.new.out c.take_row.result) made (c.take_row.ensures start from done h)
