use Rattle.std.proofs.Common.{true, false, Option, sym, ap, ◌∙◌}
use Rattle.kr_code.specs.declared.statement.Catch.{Catch}
use Rattle.kr_code.specs.Tables.{listed}
use Rattle.kr_run.specs.Unwinding.{clause_at, clause_or}
use Rattle.kr_run.proofs.Passing.{clause_fits, first_clause}
use Rattle.kr_run.proofs.unwinding.clause_for.Goals as goal

pub returns-in-None : goal.returns-in-None
returns-in-None c =
    let code = c.args.code.now in
    let rest = listed code c.in-Some.others in
    sym (c.clauses.invariant
    ∙ first_clause code c.args.kind (listed code c.clauses.left) rest c.in-Some.node c.catch.result c.in-Some.ensures c.catch.ensures
    ∙ ap (λ (x : Option Catch). clause_or code c.args.kind x (clause_at code c.args.kind rest)) c.in-None.is)

pub returns-then-is_caught_by : goal.returns-then-is_caught_by
returns-then-is_caught_by c =
    let code = c.args.code.now in
    let rest = listed code c.in-Some.others in
    sym (c.clauses.invariant
    ∙ first_clause code c.args.kind (listed code c.clauses.left) rest c.in-Some.node c.catch.result c.in-Some.ensures c.catch.ensures
    ∙ ap (λ (x : Option Catch). clause_or code c.args.kind x (clause_at code c.args.kind rest)) c.in-Some-catch.is
    ∙ clause_fits code c.args.kind c.in-Some-catch.clause (clause_at code c.args.kind rest) c.class_in_kind-class.result true c.class_in_kind-class.ensures (sym c.is_caught_by.ensures ∙ c.if-is_caught_by.true))

pub clauses-preserved : goal.clauses-preserved
clauses-preserved c =
    let code = c.args.code.now in
    let rest = listed code c.in-Some.others in
    c.clauses.invariant
    ∙ first_clause code c.args.kind (listed code c.clauses.left) rest c.in-Some.node c.catch.result c.in-Some.ensures c.catch.ensures
    ∙ ap (λ (x : Option Catch). clause_or code c.args.kind x (clause_at code c.args.kind rest)) c.in-Some-catch.is
    ∙ clause_fits code c.args.kind c.in-Some-catch.clause (clause_at code c.args.kind rest) c.class_in_kind-class.result false c.class_in_kind-class.ensures (sym c.is_caught_by.ensures ∙ c.if-is_caught_by.false)

pub returns : goal.returns
returns c = sym (c.clauses.invariant ∙ ap (clause_at c.args.code.now c.args.kind) c.in_default.ensures)
