use Rattle.std.proofs.Common.{◌≡◌, Bool, false, ap, rules, ◌∙◌}
use Rattle.kr_run_frames.specs.declared.frame.Waiting.TheVariants as kept
use Rattle.kr_run_lookahead.specs.declared.leaving.Point.TheVariants as points
use Rattle.kr_run_lookahead.proofs.Lefts.{leave_on, passes_as, scope_on}
use Rattle.kr_run_lookahead.proofs.leaving.gives_on.Goals as goal

pub returns-in-Scope : goal.returns-in-Scope
returns-in-Scope c = passes_as c.args.code.now c.args.waiting.now (kept.Scope c.in-Scope.field-0) (record { point = points.Gives c.args.given; fuel = c.args.fuel }) (record { point = points.Gives c.args.given; fuel = c.args.fuel }) c.in-Scope.is (scope_on c.args.code.now c.in-Scope.field-0 c.args.fuel c.args.given)

pub returns-in-Leave-false-default-default : goal.returns-in-Leave-false-default-default
returns-in-Leave-false-default-default c =
    let this = c.in-Leave-false-default-default.field-1 in
    let k = c.in-Leave-false-default-default.field-2 in
    let no : c.in-Leave-false-default-default.field-0 ≡ false = search rules in
    passes_as c.args.code.now c.args.waiting.now (kept.Leave false this k) (record { point = points.Gives c.args.given; fuel = c.args.fuel }) (record { point = points.Comes c.args.given; fuel = c.args.fuel }) (c.in-Leave-false-default-default.is ∙ ap (λ (b : Bool). kept.Leave b this k) no) (leave_on c.args.code.now this k c.args.fuel c.args.given)
