use Rattle.std.proofs.Common.{refl}
use Rattle.kr_trace.specs.Chains.{cleared, with}
use Rattle.kr_trace.proofs.Numbered.{written_at}
use Rattle.kr_trace.proofs.nodes.clear_rows.Goals as goal

pub returns : goal.returns
returns c = written_at c.args.nodes.now.items c.args.at (with cleared) c.index_mut.result.now _ c.requires c.index_mut.ensures.value refl
