use Rattle.std.proofs.Common.{Bool, ◌∙◌, subst, sym}
use Rattle.kr_trace.specs.Chains.{Drops}
use Rattle.kr_trace.proofs.Views.{cut_dropped, cut_last, still_found}
use Rattle.kr_trace.proofs.chain.Chain.drop_after.Goals as goal

pub loop-preserved : goal.loop-preserved
loop-preserved c =
    let d = subst (λ (b : Bool). Drops c.args.at c.loop.self c.drop_next.new.self b) c.loop-test.true c.drop_next.ensures in
    record {
      found = still_found c.args.at c.loop.self.segments c.drop_next.new.self.segments d.0;
      rest = cut_dropped c.args.at c.loop.self.segments c.drop_next.new.self.segments d.0 ∙ c.loop.invariant.rest;
      made = d.1 ∙ c.loop.invariant.made;
    }

pub returns-clause-segments : goal.returns-clause-segments
returns-clause-segments c =
    let d = subst (λ (b : Bool). Drops c.args.at c.loop.self c.drop_next.new.self b) c.loop-test.false c.drop_next.ensures in
    sym (cut_last c.args.at c.loop.self.segments c.drop_next.new.self.segments d.0) ∙ c.loop.invariant.rest
