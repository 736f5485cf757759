use Rattle.std.proofs.Common.{◌≡◌, ◌+◌, ◌∷◌, ◌++◌, ◌∙◌, [], List, ℕ, ap, get_or, length, subst, sym, take}
use Rattle.std.specs.Prelude.{map, reverse}
use Rattle.std.proofs.lemmas.List.{append_assoc, map-append, map_more}
use Rattle.kr_mean.specs.Places.{SlotPlace}
use Rattle.kr_mean.specs.Runs.{slots_for}
use Rattle.kr_space_layout.specs.Bounds.{bare}
use Rattle.kr_mean.specs.Places.{place_of}
use Rattle.kr_value.specs.declared.place.SlotPlace.TheVariants.{This}
use Rattle.kr_judge.specs.Follows.{AreOf, place_in}
use Rattle.kr_judge.specs.declared.accesses.Access.{Access}
use Rattle.kr_judge.proofs.Follows.{come}
use Rattle.kr_judge.proofs.accesses.add_places.Goals as goal

pub reads-preserved : goal.reads-preserved
reads-preserved c =
    let f = slots_for (bare c.args.layout.now) in
    let k = c.reads.place-index in
    let old = c.reads.places.items in
    let p = get_or c.args.reads.now k This in
    let a : Access = record { place = p; before = length c.reads.order } in
    let items : c.push.new.self.items ≡ old ++ a ∷ [] = c.in_ok-push.ensures.items ∙ ap (λ (n : ℕ). old ++ record { place = p; before = n } ∷ []) c.len-before.ensures in
    let next : map place_of (take (k + 1) c.args.reads.now) ≡ map place_of (take k c.args.reads.now) ++ place_of p ∷ [] = map_more place_of c.args.reads.now k This c.reads-test.true in (
      ap (λ (l : List Access). map place_in l) items
          ∙ (map-append place_in old (a ∷ [])
          ∙ (ap (λ (l : List SlotPlace). l ++ place_of p ∷ []) c.reads.invariant.0
          ∙ (append_assoc (map place_in c.args.places.now.items) (map place_of (take k c.args.reads.now)) (place_of p ∷ [])
          ∙ ap (λ (l : List SlotPlace). map place_in c.args.places.now.items ++ l) (sym next)))),
      subst (λ (l : List Access). AreOf f (reverse l) c.add_place.new.order) (sym items) (come f old p c.reads.order c.add_place.new.order c.reads.invariant.1 c.in_ok-add_place.ensures),
    )
