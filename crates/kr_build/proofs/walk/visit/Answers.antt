use Rattle.std.proofs.Common.{◌≡◌, ◌<◌, ℕ, ap, sym, subst, length, get_or, ◌∙◌, Some}
use Rattle.kr_mean.specs.Problem.{choices_at}
use Rattle.kr_mean.specs.Heaps.{choice_at}
use Rattle.kr_mean.specs.Space.{no_choice}
use Rattle.kr_space_layout.specs.Bounds.{bare}
use Rattle.kr_iso.specs.Objects.{object_of, shown}
use Rattle.kr_build.proofs.Rows.{in_vector, in_domain}
use Rattle.kr_build.proofs.walk.visit.Goals as goal

pub get-requires : goal.get-requires
get-requires c = (in_vector (bare c.args.layout.now) c.args.vector.now c.args.slot c.requires.vector c.requires.slot).slot

pub object-requires-clause-index : goal.object-requires-clause-index
object-requires-clause-index c =
    subst (λ (i : ℕ). i < length (choices_at (bare c.args.layout.now) c.args.slot)) (sym c.get.ensures)
    (in_vector (bare c.args.layout.now) c.args.vector.now c.args.slot c.requires.vector c.requires.slot).index

pub heap_number-number-requires-clause-domain : goal.heap_number-number-requires-clause-domain
heap_number-number-requires-clause-domain c =
    let e : (choice_at (bare c.args.layout.now) c.args.vector.now c.args.slot).object ≡ Some (object_of c.in-Some.object) =
    sym (c.object.ensures ∙ ap (λ (i : ℕ). (get_or (choices_at (bare c.args.layout.now) c.args.slot) i no_choice).object) c.get.ensures) ∙ ap shown c.in-Some.is in
    (in_domain (bare c.args.layout.now) c.args.vector.now c.args.slot (object_of c.in-Some.object) e).domain

pub heap_number-number-requires-clause-number : goal.heap_number-number-requires-clause-number
heap_number-number-requires-clause-number c =
    let e : (choice_at (bare c.args.layout.now) c.args.vector.now c.args.slot).object ≡ Some (object_of c.in-Some.object) =
    sym (c.object.ensures ∙ ap (λ (i : ℕ). (get_or (choices_at (bare c.args.layout.now) c.args.slot) i no_choice).object) c.get.ensures) ∙ ap shown c.in-Some.is in
    (in_domain (bare c.args.layout.now) c.args.vector.now c.args.slot (object_of c.in-Some.object) e).number

pub slots_of-requires-clause-domain : goal.slots_of-requires-clause-domain
slots_of-requires-clause-domain c =
    let e : (choice_at (bare c.args.layout.now) c.args.vector.now c.args.slot).object ≡ Some (object_of c.in-Some.object) =
    sym (c.object.ensures ∙ ap (λ (i : ℕ). (get_or (choices_at (bare c.args.layout.now) c.args.slot) i no_choice).object) c.get.ensures) ∙ ap shown c.in-Some.is in
    (in_domain (bare c.args.layout.now) c.args.vector.now c.args.slot (object_of c.in-Some.object) e).domain

pub slots_of-requires-clause-number : goal.slots_of-requires-clause-number
slots_of-requires-clause-number c =
    let e : (choice_at (bare c.args.layout.now) c.args.vector.now c.args.slot).object ≡ Some (object_of c.in-Some.object) =
    sym (c.object.ensures ∙ ap (λ (i : ℕ). (get_or (choices_at (bare c.args.layout.now) c.args.slot) i no_choice).object) c.get.ensures) ∙ ap shown c.in-Some.is in
    (in_domain (bare c.args.layout.now) c.args.vector.now c.args.slot (object_of c.in-Some.object) e).number
