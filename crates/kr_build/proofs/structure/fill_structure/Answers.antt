use Rattle.std.proofs.Common.{◌∙◌, ℕ, List, sym, subst, length}
use Rattle.kr_mean.specs.Problem.{slots}
use Rattle.kr_mean.specs.Readings.{AllBelow}
use Rattle.kr_space_layout.specs.Bounds.{bare}
use Rattle.kr_build.proofs.Below.{walk_inside}
use Rattle.kr_build.proofs.structure.fill_structure.Goals as goal

pub put_values-requires-clause-inside : goal.put_values-requires-clause-inside
put_values-requires-clause-inside c =
    subst (λ (ss : List ℕ). AllBelow (length (slots (bare c.args.layout.now))) ss) (sym (c.slots.ensures ∙ c.in_ok-walk.ensures)) (walk_inside (bare c.args.layout.now) c.requires.well c.args.vector.now)
