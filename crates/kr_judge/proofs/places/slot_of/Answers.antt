use Rattle.std.proofs.Common.{◌≡◌, ◌∷◌, [], List, ℕ, sym, subst}
use Rattle.std.specs.Prelude.{Option}
use Rattle.kr_iso.specs.declared.object.Object.{Object}
use Rattle.kr_mean.specs.Runs.{slots_for}
use Rattle.kr_space_layout.specs.Bounds.{bare}
use Rattle.kr_space_layout.specs.Numbers.{IsFound}
use Rattle.kr_laws_pruning.proofs.Places.{this_slots}
use Rattle.kr_mean.specs.Places.{place_of}
use Rattle.kr_value.specs.declared.place.SlotPlace.{SlotPlace}
use Rattle.kr_judge.proofs.Spots.{no_object}
use Rattle.kr_judge.proofs.places.slot_of.Goals as goal

pub returns-in-This : goal.returns-in-This
returns-in-This c = subst (λ (p : SlotPlace). 0 ∷ [] ≡ slots_for (bare c.args.layout.now) (place_of p)) (sym c.in-This.is) (sym (this_slots (bare c.args.layout.now) c.requires.well))

pub returns-in-None : goal.returns-in-None
returns-in-None c =
    let none : List ℕ = [] in
    let found = subst (λ (x : Option Object). IsFound (bare c.args.layout.now) c.in-At.number x) c.in-None.is c.numbered.ensures in
    subst (λ (p : SlotPlace). none ≡ slots_for (bare c.args.layout.now) (place_of p)) (sym c.in-At.is) (sym (no_object (bare c.args.layout.now) c.in-At.number c.in-At.spot found))
