use Rattle.std.proofs.Common.{◌≡◌, ◌∙◌, List, ℕ, Option, sym, subst}
use Rattle.std.specs.Prelude.{IfOk}
use Rattle.kr_board.proofs.Splits.{split_there, split_other}
use Rattle.kr_board.proofs.board.splitting.split_at.Goals as goal

pub returns-then-is_same : goal.returns-then-is_same
returns-then-is_same c =
    subst (λ (o : Option (List ℕ)). IfOk c.inside.result (λ cut. cut ≡ o)) (split_there c.args.mark.now c.in-At.own c.args.upto.now c.args.lease.now c.in-At.is (c.is_same.ensures.0 c.if-is_same.true)) c.inside.ensures

pub returns-else-is_same : goal.returns-else-is_same
returns-else-is_same c =
    split_other c.args.mark.now c.in-At.own c.args.upto.now c.args.lease.now c.in-At.is (λ e. cc (sym c.if-is_same.false ∙ c.is_same.ensures.1 e))
