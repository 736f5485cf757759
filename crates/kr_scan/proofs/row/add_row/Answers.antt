use Rattle.std.proofs.Common.{◌≡◌, List, [], ◌∷◌, ◌++◌, sym, ap, subst, ◌∙◌, append-nil}
use Rattle.kr_mean.specs.Entries.{row_of}
use Rattle.kr_mean.specs.declared.row.Row.{Row}
use Rattle.kr_space_problem.specs.Posed.{posed}
use Rattle.kr_scan.proofs.Marks.{valid_row, invalid_row, spent_row}
use Rattle.kr_scan.proofs.row.add_row.Goals as goal

pub returns-in_ok-push-in-Valid-clause-rows : goal.returns-in_ok-push-in-Valid-clause-rows
returns-in_ok-push-in-Valid-clause-rows g c =
    let P = posed c.args.maker.now.problem in
    let v = g.C.Candidate.vector c.args.span.now.candidates in
    let old = c.args.rows.now.items in
    let row : c.in_ok-row-in-Valid.row ≡ row_of P v = subst (λ r. c.in_ok-row-in-Valid.row ≡ row_of P (g.C.Candidate.vector r)) c.candidates.ensures c.in_ok-row-in-Valid.ensures.row in
    c.in_ok-push-in-Valid.ensures.items
    ∙ (ap (λ (r : Row). old ++ r ∷ []) row ∙ ap (λ (l : List Row). old ++ l) (sym (valid_row P v (sym c.in-Valid.is ∙ c.requires.ends))))

pub returns-in-Invalid-clause-rows : goal.returns-in-Invalid-clause-rows
returns-in-Invalid-clause-rows g c =
    let old = c.args.rows.now.items in
    sym (append-nil old) ∙ ap (λ (l : List Row). old ++ l) (sym (invalid_row (posed c.args.maker.now.problem) (g.C.Candidate.vector c.args.span.now.candidates) (sym c.in-Invalid.is ∙ c.requires.ends)))

pub returns-in-Spent-clause-rows : goal.returns-in-Spent-clause-rows
returns-in-Spent-clause-rows g c =
    let old = c.args.rows.now.items in
    sym (append-nil old) ∙ ap (λ (l : List Row). old ++ l) (sym (spent_row (posed c.args.maker.now.problem) (g.C.Candidate.vector c.args.span.now.candidates) (sym c.in-Spent.is ∙ c.requires.ends)))
