use Rattle.std.proofs.Common.{◌≡◌, List, length, ap, sym, subst, ◌∙◌, false, arith}
use Rattle.std.specs.Prelude.{map}
use Rattle.std.proofs.lemmas.List.{length-map}
use Rattle.kr_value.specs.declared.place.SlotPlace.{SlotPlace}
use Rattle.kr_mean.specs.Places.{place_of}
use Rattle.kr_run_state.specs.Noting.{is_read}
use Rattle.kr_run_state.specs.Rows.{AreIndexed}
use Rattle.kr_run_state.proofs.Rows.{indexed_after}
use Rattle.kr_run_state.proofs.reads.Reads.note.Goals as goal

pub contains-requires : goal.contains-requires
contains-requires c = subst (λ (xs : List SlotPlace). AreIndexed c.self.inside.rows.items (map place_of xs)) (sym c.as_slice.ensures.value) c.self.invariant

pub invariant_of-self-2 : goal.invariant_of-self-2
invariant_of-self-2 c =
    let items = c.self.inside.places.items in
    let count : c.len-count.result ≡ length (map place_of items) = omega (arith, c.len-count.ensures, c.self.inside.places.ok.0, length-map items place_of) in
    let fresh : is_read (place_of c.args.place) (map place_of items) ≡ false = ap (λ (xs : List SlotPlace). is_read (place_of c.args.place) (map place_of xs)) (sym c.as_slice.ensures.value) ∙ (sym c.contains.ensures ∙ c.if-contains.false) in
    indexed_after place_of c.index_place.new.rows.items items c.append.new.items.items c.args.place c.append.result (c.in_ok-index_place.ensures.indexed (map place_of items) c.self.invariant count fresh) c.append.ensures.added c.append.ensures.unchanged
