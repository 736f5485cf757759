use Rattle.std.proofs.Common.{◌∙◌, sym, subst, None, Some}
use Rattle.std.specs.Prelude.{Result, ℕ}
use Rattle.kr_shard.specs.Stages.{Answers}
use Rattle.kr_shard.specs.declared.shard.Shard.{Shard}
use Rattle.kr_shard.proofs.Fronts.{shard_first, shard_none}
use Rattle.kr_shard.proofs.reading.read_shard.Goals as goal

pub returns-in_default : goal.returns-in_default
returns-in_default c = shard_none c.args.text.now c.in_default.ensures

pub returns-in-Some-2 : goal.returns-in-Some-2
returns-in-Some-2 c =
    subst (λ (wanted : Result Shard ℕ). Answers wanted c.read_after.result)
    (sym (shard_first c.args.text.now c.in-Some.line.now c.in-Some.rest.now (Some c.in-Some-2.span) c.in-Some.ensures.0 c.in-Some.ensures.1 (sym c.in_ok-span.ensures ∙ c.in-Some-2.is)))
    c.read_after.ensures

pub returns-in-None : goal.returns-in-None
returns-in-None c =
    shard_first c.args.text.now c.in-Some.line.now c.in-Some.rest.now None c.in-Some.ensures.0 c.in-Some.ensures.1 (sym c.in_ok-span.ensures ∙ c.in-None.is)
