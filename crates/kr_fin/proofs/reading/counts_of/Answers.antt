use Rattle.std.proofs.Common.{◌≡◌, ◌∙◌, [], ◌++◌, ap, append-nil, arith, subst}
use Rattle.std.proofs.lemmas.Grind.{common_steps}
use Rattle.toml.specs.View.{members_view}
use Rattle.kr_fin.proofs.Ordered.{counts_ascend}
use Rattle.kr_fin.specs.Ascending.{AreCounts}
use Rattle.kr_fin.specs.Document.{counts_of}
use Rattle.kr_fin.proofs.reading.counts_of.Goals as goal

pub returns-clause-ordered : goal.returns-clause-ordered
returns-clause-ordered c =
    let none : c.loop-key.key-iterator ≡ [] = grind (arith, common_steps) in
    let whole : counts_of (members_view c.args.table.now.entries) ≡ c.loop-key.counts =
    c.loop-key.invariant ∙ (ap (λ es. c.loop-key.counts ++ counts_of (members_view es)) none ∙ append-nil c.loop-key.counts) in
    subst AreCounts whole (counts_ascend c.args.table.now.entries c.into_iter-key-iterator.ensures.into_iter_gives.5)
