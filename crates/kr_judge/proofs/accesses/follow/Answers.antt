use Rattle.std.proofs.Common.{◌≡◌, ◌++◌, ◌∙◌, [], List, ℕ, ap, drop, subst, sym, take}
use Rattle.std.specs.Prelude.{flat_map, map}
use Rattle.std.proofs.lemmas.List.{map-append, take-append-drop, take_rest}
use Rattle.kr_mean.specs.Places.{SlotPlace}
use Rattle.kr_mean.specs.Runs.{slots_for}
use Rattle.kr_space_layout.specs.Bounds.{bare}
use Rattle.kr_mean.specs.Places.{place_of}
use Rattle.kr_value.specs.declared.place.SlotPlace.{SlotPlace as Place}
use Rattle.kr_judge.specs.Follows.{place_in}
use Rattle.kr_judge.specs.Orders.{with_slots}
use Rattle.kr_judge.specs.declared.accesses.Access.{Access}
use Rattle.kr_judge.proofs.Follows.{all_come}
use Rattle.kr_judge.proofs.accesses.follow.Goals as goal

all : (old kept new : List Access) (reads : List Place) (n : ℕ) → map place_in (take n old) ≡ map place_of (take n reads) → kept ≡ take n old → map place_in new ≡ map place_in kept ++ map place_of (drop n reads) → map place_in new ≡ map place_of reads
all old kept new reads n w k a =
    a
    ∙ (ap (λ (l : List SlotPlace). l ++ map place_of (drop n reads)) (ap (λ (l : List Access). map place_in l) k ∙ w)
    ∙ (sym (map-append place_of (take n reads) (drop n reads)) ∙ ap (λ (l : List Place). map place_of l) (take-append-drop n reads)))

pub returns-clause-read : goal.returns-clause-read
returns-clause-read c = λ h.
    let n = c.alike-count.result in
    let same = subst (λ (l : List Access). take c.args.shared (map place_in l) ≡ take c.args.shared (map place_of c.args.reads.now) → map place_in (take n l) ≡ map place_of (take n c.args.reads.now)) c.as_slice.ensures.value c.alike-count.ensures.same h in
    all c.args.places.now.items c.go_back.new.places.items c.add_places.new.places.items c.args.reads.now n same c.go_back.ensures.places
    (c.in_ok-add_places.ensures.places ∙ ap (λ (l : List Place). map place_in c.go_back.new.places.items ++ map place_of l) (take_rest c.args.reads.now n))

pub returns-clause-order : goal.returns-clause-order
returns-clause-order c = λ h.
    let f = slots_for (bare c.args.layout.now) in
    let n = c.alike-count.result in
    let same = subst (λ (l : List Access). take c.args.shared (map place_in l) ≡ take c.args.shared (map place_of c.args.reads.now) → map place_in (take n l) ≡ map place_of (take n c.args.reads.now)) c.as_slice.ensures.value c.alike-count.ensures.same h in
    all_come f c.add_places.new.places.items c.add_places.new.order c.in_ok-add_places.ensures.order
    ∙ ap (λ (l : List SlotPlace). with_slots [] (flat_map f l))
    (all c.args.places.now.items c.go_back.new.places.items c.add_places.new.places.items c.args.reads.now n same c.go_back.ensures.places
    (c.in_ok-add_places.ensures.places ∙ ap (λ (l : List Place). map place_in c.go_back.new.places.items ++ map place_of l) (take_rest c.args.reads.now n)))
