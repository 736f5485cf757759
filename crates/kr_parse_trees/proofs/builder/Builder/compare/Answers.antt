use Rattle.std.proofs.Common.{◌≡◌, ◌-◌, suc, arith}
use Rattle.kr_parse_trees.proofs.Chains.{named_under, fold_step}
use Rattle.kr_parse_trees.proofs.builder.Builder.compare.Goals as goal

pub put_less-requires-clause-name : goal.put_less-requires-clause-name
put_less-requires-clause-name c =
    let i = c.loop-depth.invariant in
    let d : c.loop-depth.depth ≡ suc (c.loop-depth.depth - 1) = omega arith in
    named_under c.args.self.now.forest c.loop-depth.self.forest c.args.self.now.values c.loop-depth.self.values c.loop-depth.depth c.loop-depth.depth (c.loop-depth.depth - 1) c.below_names-bottom.result c.in_ok-past.past
    i.folds d (omega arith) (c.below_names-bottom.ensures.names (c.loop-depth.depth - 1) (omega arith) (omega arith))

pub loop-depth-preserved : goal.loop-depth-preserved
loop-depth-preserved c =
    let i = c.loop-depth.invariant in
    let o = c.in_ok-put_less.ensures in
    let d : c.loop-depth.depth ≡ suc (c.loop-depth.depth - 1) = omega arith in
    record {
      folds = fold_step c.args.self.now.forest c.loop-depth.self.forest c.put_less.new.self.forest c.args.self.now.values c.loop-depth.self.values c.put_less.new.self.values c.loop-depth.depth (c.loop-depth.depth - 1) c.below_names-bottom.result c.in_ok-past.past o.kept.0
          d i.folds (λ k l m. c.below_names-bottom.ensures.names k (omega arith) m) i.under o.built o.text o.kept.1 o.shown;
      from = omega arith;
      under = omega arith;
    }
