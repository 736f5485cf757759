use Rattle.std.proofs.Common.{◌≡◌, ◌∙◌, ◌+◌, ◌-◌, ◌*◌, ℕ, ap, sym, arith}
use Rattle.kr_iso.specs.Objects.{object_of, shown}
use Rattle.kr_mean.specs.Entries.{name_in}
use Rattle.kr_plain.proofs.Moving.{goes, owned, stays}
use Rattle.kr_plain.proofs.renaming.slot_for.Goals as goal

pub width-width-requires : goal.width-width-requires
width-width-requires c = owned c.args.layout.now c.requires.well (name_in c.args.perm.now) c.requires.renaming c.args.slot c.requires.slot (object_of c.in-Some.owner) (sym c.owner.ensures ∙ ap shown c.in-Some.is)

pub overflow_mul-column : goal.overflow_mul-column
overflow_mul-column c =
    let g = goes c.args.layout.now c.requires.well (name_in c.args.perm.now) c.requires.renaming c.args.slot c.requires.slot (object_of c.in-Some.owner) (sym c.owner.ensures ∙ ap shown c.in-Some.is) c.width-width.result c.width-width.ensures in
    let r = g.room in
    omega (arith, r, c.ranges.slot.fits)

pub overflow_sub-column : goal.overflow_sub-column
overflow_sub-column c =
    (goes c.args.layout.now c.requires.well (name_in c.args.perm.now) c.requires.renaming c.args.slot c.requires.slot (object_of c.in-Some.owner) (sym c.owner.ensures ∙ ap shown c.in-Some.is) c.width-width.result c.width-width.ensures).room

pub overflow_mul-result : goal.overflow_mul-result
overflow_mul-result c =
    let g = goes c.args.layout.now c.requires.well (name_in c.args.perm.now) c.requires.renaming c.args.slot c.requires.slot (object_of c.in-Some.owner) (sym c.owner.ensures ∙ ap shown c.in-Some.is) c.width-width.result c.width-width.ensures in
    let r = g.room in
    let i = g.inside in
    let e : c.number.result * c.width-width.result ≡ name_in c.args.perm.now c.in-Some.owner.domain c.in-Some.owner.number * c.width-width.result = ap (λ (x : ℕ). x * c.width-width.result) c.number.ensures in
    omega (arith, r, i, e, c.requires.small)

pub overflow_add-result : goal.overflow_add-result
overflow_add-result c =
    let g = goes c.args.layout.now c.requires.well (name_in c.args.perm.now) c.requires.renaming c.args.slot c.requires.slot (object_of c.in-Some.owner) (sym c.owner.ensures ∙ ap shown c.in-Some.is) c.width-width.result c.width-width.ensures in
    let i = g.inside in
    let e : c.number.result * c.width-width.result ≡ name_in c.args.perm.now c.in-Some.owner.domain c.in-Some.owner.number * c.width-width.result = ap (λ (x : ℕ). x * c.width-width.result) c.number.ensures in
    omega (arith, i, e, c.requires.small)

pub overflow_cast-result-in-Some : goal.overflow_cast-result-in-Some
overflow_cast-result-in-Some c =
    let g = goes c.args.layout.now c.requires.well (name_in c.args.perm.now) c.requires.renaming c.args.slot c.requires.slot (object_of c.in-Some.owner) (sym c.owner.ensures ∙ ap shown c.in-Some.is) c.width-width.result c.width-width.ensures in
    let i = g.inside in
    let e : c.number.result * c.width-width.result ≡ name_in c.args.perm.now c.in-Some.owner.domain c.in-Some.owner.number * c.width-width.result = ap (λ (x : ℕ). x * c.width-width.result) c.number.ensures in
    omega (arith, i, e, c.requires.small)

pub returns-in-None : goal.returns-in-None
returns-in-None c = stays c.args.layout.now c.requires.well (name_in c.args.perm.now) c.requires.renaming c.args.slot (sym c.owner.ensures ∙ ap shown c.in-None.is)

pub returns-in-Some : goal.returns-in-Some
returns-in-Some c =
    let g = goes c.args.layout.now c.requires.well (name_in c.args.perm.now) c.requires.renaming c.args.slot c.requires.slot (object_of c.in-Some.owner) (sym c.owner.ensures ∙ ap shown c.in-Some.is) c.width-width.result c.width-width.ensures in
    ap (λ (x : ℕ). c.args.slot - c.in-Some.owner.number * c.width-width.result + x * c.width-width.result) c.number.ensures ∙ g.there
