use Rattle.std.proofs.Common.{List, sym, subst}
use Rattle.std.specs.Prelude.{map}
use Rattle.kr_value.specs.declared.place.SlotPlace.{SlotPlace}
use Rattle.kr_mean.specs.Places.{place_of}
use Rattle.kr_run_state.specs.Rows.{AreIndexed}
use Rattle.kr_run_state.proofs.reads.Reads.contains.Goals as goal

pub contains-requires : goal.contains-requires
contains-requires c = subst (λ (xs : List SlotPlace). AreIndexed c.self.inside.rows.items (map place_of xs)) (sym c.as_slice.ensures.value) c.self.invariant
