use Rattle.std.proofs.Common.{refl}
use Rattle.kr_core.specs.Steps.{lowered}
use Rattle.kr_trace.specs.Chains.{split_by}
use Rattle.kr_trace.proofs.Numbered.{written_at}
use Rattle.kr_trace.proofs.nodes.lower.Goals as goal

pub returns : goal.returns
returns c = written_at c.args.nodes.now.items c.args.at (split_by (lowered c.args.cut) c.args.next) c.index_mut-node.result.now _ c.requires c.index_mut-node.ensures.value refl
