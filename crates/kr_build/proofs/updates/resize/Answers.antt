use Rattle.std.proofs.Common.{ap, sym, ◌∙◌}
use Rattle.kr_heap.specs.Objects.{with_values}
use Rattle.kr_iso.specs.Objects.{object_of, shown}
use Rattle.kr_value.specs.Heaps.{Heap}
use Rattle.kr_mean.specs.Heaps.{heap_object}
use Rattle.kr_mean.specs.Problem.{heap_number}
use Rattle.kr_space_layout.specs.Bounds.{bare}
use Rattle.kr_build.proofs.Changed.{heap_with, heap_without, owner_in}
use Rattle.kr_build.proofs.updates.resize.Goals as goal

pub rebuild-requires-clause-domain : goal.rebuild-requires-clause-domain
rebuild-requires-clause-domain c = (owner_in (bare c.args.layout.now) c.args.slot (object_of c.in-Some.object) c.requires.slot (sym c.owner.ensures ∙ ap shown c.in-Some.is)).domain

pub rebuild-requires-clause-number : goal.rebuild-requires-clause-number
rebuild-requires-clause-number c = (owner_in (bare c.args.layout.now) c.args.slot (object_of c.in-Some.object) c.requires.slot (sym c.owner.ensures ∙ ap shown c.in-Some.is)).number

pub returns-in-None : goal.returns-in-None
returns-in-None c =
    let b = bare c.args.layout.now in
    let k = c.requires.heap in
    k.heap_is ∙ sym (heap_without b k.old c.args.slot k.index c.requires.well c.args.vector.now k.changed (sym c.owner.ensures ∙ ap shown c.in-None.is))

pub returns-in_ok-rebuild-in-Some : goal.returns-in_ok-rebuild-in-Some
returns-in_ok-rebuild-in-Some c =
    let b = bare c.args.layout.now in
    let u = c.args.vector.now in
    let o = object_of c.in-Some.object in
    let k = c.requires.heap in
    let owner = sym c.owner.ensures ∙ ap shown c.in-Some.is in
    c.in_ok-rebuild-in-Some.ensures
    ∙ (ap (λ (h : Heap). with_values h (heap_number b o) (heap_object b u o).values) k.heap_is
    ∙ sym (heap_with b k.old c.args.slot k.index c.requires.well o u k.changed (owner_in b c.args.slot o c.requires.slot owner) owner))
