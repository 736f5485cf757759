use Rattle.std.proofs.Common.{List, ℕ, ◌-◌, ◌∙◌, ap, arith, sym}
use Rattle.kr_base.specs.Bounds.{is_same}
use Rattle.kr_base.specs.declared.span.Bound.TheVariants.{At}
use Rattle.kr_trace.proofs.Keys.{last_key_is}
use Rattle.kr_trace.proofs.rows.Rows.is_last.Goals as goal

pub returns : goal.returns
returns c =
    let key = c.args.key.now in
    c.is_key.ensures
    ∙ (ap (λ (k : List ℕ). is_same (At key) (At k)) c.key.ensures
    ∙ sym (last_key_is key c.args.self.now.keys (c.len-count.result - 1) (omega (arith, c.len-count.ensures, c.if-count-eq0.false))))
