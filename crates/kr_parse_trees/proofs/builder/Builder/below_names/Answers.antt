use Rattle.std.proofs.Common.{sym, ◌∙◌, arith}
use Rattle.kr_parse_trees.proofs.Chains.{named_more}
use Rattle.kr_parse_trees.proofs.builder.Builder.below_names.Goals as goal

pub loop-depth-preserved : goal.loop-depth-preserved
loop-depth-preserved c = record {
  names = named_more c.args.self.now.values c.args.start c.loop-depth.depth c.loop-depth.invariant.names (sym c.is_name.ensures ∙ c.if-not-is_name.false);
  from = omega arith;
  within = omega arith;
}
