use Rattle.std.proofs.Common.{List, sym, subst}
use Rattle.std.specs.declared.vec.Vec.{Vec}
use Rattle.std.specs.declared.alloc.Global.{Global}
use Rattle.std.specs.Prelude.{ℕ}
use Rattle.kr_run_state.specs.Rows.{KeepNumbers}
use Rattle.kr_run_state.proofs.Rows.{keep_more}
use Rattle.kr_run_state.proofs.reads.add_rows.Goals as goal

pub adding-preserved : goal.adding-preserved
adding-preserved c =
    let before = c.args.rows.now.items in
    subst (λ (rows : List (Vec ℕ Global)). KeepNumbers before rows) (sym c.in_ok-push.ensures.items) (keep_more before c.adding.rows.items _ c.adding.invariant)

pub returns-in_err-push-clause-kept : goal.returns-in_err-push-clause-kept
returns-in_err-push-clause-kept c =
    subst (λ (rows : List (Vec ℕ Global)). KeepNumbers c.args.rows.now.items rows) (sym c.in_err-push.ensures.items) c.adding.invariant
