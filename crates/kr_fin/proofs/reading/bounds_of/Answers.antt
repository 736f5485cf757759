use Rattle.std.proofs.Common.{◌≡◌, ◌∙◌, [], ◌++◌, ap, append-nil, arith, subst}
use Rattle.std.proofs.lemmas.Grind.{common_steps}
use Rattle.toml.specs.View.{members_view}
use Rattle.kr_fin.proofs.Ordered.{bounds_ascend}
use Rattle.kr_fin.specs.Ascending.{AreBounds}
use Rattle.kr_fin.specs.Document.{bounds_of}
use Rattle.kr_fin.proofs.reading.bounds_of.Goals as goal

pub returns-clause-ordered : goal.returns-clause-ordered
returns-clause-ordered c =
    let none : c.loop-key.key-iterator ≡ [] = grind (arith, common_steps) in
    let whole : bounds_of (members_view c.args.table.now.entries) ≡ c.loop-key.bounds =
    c.loop-key.invariant ∙ (ap (λ es. c.loop-key.bounds ++ bounds_of (members_view es)) none ∙ append-nil c.loop-key.bounds) in
    subst AreBounds whole (bounds_ascend c.args.table.now.entries c.into_iter-key-iterator.ensures.into_iter_gives.5)
