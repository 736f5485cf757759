use Rattle.std.proofs.Common.{◌≡◌, List, ℕ, sym, subst}
use Rattle.std.specs.Prelude.{slice_index}
use Rattle.std.proofs.lemmas.List.{get_or-set_same}
use Rattle.kr_mean.specs.Space.{IsVector, space_of}
use Rattle.kr_space_layout.specs.Bounds.{bare}
use Rattle.kr_build.proofs.Changed.{vector_set}
use Rattle.kr_build.proofs.Rows.{in_vector}
use Rattle.kr_build.proofs.updates.change.Goals as goal

pub set-requires : goal.set-requires
set-requires c = (in_vector (bare c.args.layout.now) c.args.vector.now c.args.slot c.requires.vector c.requires.slot).slot

pub renew-requires-clause-vector : goal.renew-requires-clause-vector
renew-requires-clause-vector c = subst (λ (u : List ℕ). IsVector (space_of (bare c.args.layout.now)) u) (sym c.set.ensures) (vector_set (bare c.args.layout.now) c.args.vector.now c.args.slot c.args.index c.requires.vector c.requires.slot c.requires.index)

pub renew-requires-clause-heap : goal.renew-requires-clause-heap
renew-requires-clause-heap c = record { old = c.args.vector.now; index = c.args.index; changed = c.set.ensures; heap_is = c.requires.heap }

pub renew-requires-clause-index : goal.renew-requires-clause-index
renew-requires-clause-index c =
    subst (λ (u : List ℕ). c.args.index ≡ slice_index u c.args.slot) (sym c.set.ensures)
    (sym (get_or-set_same c.args.vector.now c.args.slot c.args.index 0 (in_vector (bare c.args.layout.now) c.args.vector.now c.args.slot c.requires.vector c.requires.slot).slot))
