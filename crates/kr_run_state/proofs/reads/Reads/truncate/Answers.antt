use Rattle.std.proofs.Common.{List, ap, sym, subst, ◌∙◌}
use Rattle.std.specs.Prelude.{map}
use Rattle.std.proofs.lemmas.List.{take-map}
use Rattle.kr_value.specs.declared.place.SlotPlace.{SlotPlace}
use Rattle.kr_mean.specs.Places.{place_of}
use Rattle.kr_mean.specs.Places.{SlotPlace as Place}
use Rattle.kr_run_state.specs.Rows.{AreIndexed}
use Rattle.kr_run_state.proofs.Rows.{indexed_front}
use Rattle.kr_run_state.proofs.reads.Reads.truncate.Goals as goal

pub returns : goal.returns
returns c = rw (← c.self.view_is) (ap (λ (xs : List SlotPlace). map place_of xs) c.truncate.ensures.items ∙ sym (take-map place_of c.args.count c.self.inside.places.items))

pub invariant_of-self : goal.invariant_of-self
invariant_of-self c =
    let rows = c.self.inside.rows.items in
    subst (λ (ps : List Place). AreIndexed rows ps) (take-map place_of c.args.count c.self.inside.places.items ∙ sym (ap (λ (xs : List SlotPlace). map place_of xs) c.truncate.ensures.items))
    (indexed_front rows (map place_of c.self.inside.places.items) c.args.count c.self.invariant)
