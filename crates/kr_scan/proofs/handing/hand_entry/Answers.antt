use Rattle.std.proofs.Common.{◌≡◌, List, ◌++◌, sym, ap, ◌∙◌, subst, append-nil}
use Rattle.std.specs.Prelude.{Some, map}
use Rattle.kr_space_problem.specs.Posed.{posed}
use Rattle.kr_survey.specs.declared.taker.Room.TheVariants.{More}
use Rattle.kr_scan.proofs.Marks.{invalid_row, spent_row}
use Rattle.kr_scan.proofs.handing.hand_entry.Goals as goal

pub returns-in-Invalid-clause-took : goal.returns-in-Invalid-clause-took
returns-in-Invalid-clause-took g c = λ start from done h.
    let f = g.M.Making.made_of c.args.making.now in
    let none = invalid_row (posed c.args.maker.now.problem) (g.C.Candidate.vector c.args.span.now.candidates) (sym c.in-Invalid.is ∙ c.requires.ends) in
    subst (λ (rows : List g.row.R.Denot). g.T.Taker.takes start from rows c.args.taker.now c.args.out.now (Some More)) (sym (ap (λ l. done ++ map f l) none ∙ append-nil done)) h

pub returns-in-Spent-clause-took : goal.returns-in-Spent-clause-took
returns-in-Spent-clause-took g c = λ start from done h.
    let f = g.M.Making.made_of c.args.making.now in
    let none = spent_row (posed c.args.maker.now.problem) (g.C.Candidate.vector c.args.span.now.candidates) (sym c.in-Spent.is ∙ c.requires.ends) in
    subst (λ (rows : List g.row.R.Denot). g.T.Taker.takes start from rows c.args.taker.now c.args.out.now (Some More)) (sym (ap (λ l. done ++ map f l) none ∙ append-nil done)) h
