use Rattle.std.proofs.Common.{◌≡◌, ◌∷◌, [], ◌<◌, ◌+◌, ◌^◌, ℕ, ◌∙◌, arith, rules, ap, subst}
use Rattle.kr_value.specs.declared.object.Class.{Class}
use Rattle.kr_iso.specs.Objects.{object_of}
use Rattle.kr_space_layout.specs.Bounds.{bare}
use Rattle.kr_build.proofs.Rows.{row, narrow}
use Rattle.kr_judge.specs.Columns.{spot_at}
use Rattle.kr_judge.proofs.Spots.{there, not_there}
use Rattle.kr_judge.proofs.places.spot_slot.Goals as goal

pub overflow_cast-width : goal.overflow_cast-width
overflow_cast-width c =
    let o = c.args.object in
    let n = narrow (bare c.args.layout.now) [] o.domain o.number (row (bare c.args.layout.now) [] o.domain o.number c.requires.well c.requires.domain c.requires.number) in
    let f : c.width-width.result < 2 ^ 32 = omega (arith, n, c.requires.small, c.width-width.ensures) in
    search rules

pub overflow_add-result : goal.overflow_add-result
overflow_add-result c =
    let o = c.args.object in
    let r = row (bare c.args.layout.now) [] o.domain o.number c.requires.well c.requires.domain c.requires.number in
    let inside = r.inside c.in-Some.column (omega (arith, c.in-Some.ensures.0, c.width-width.ensures)) in
    let f : c.first_slot.result + c.in-Some.column < 2 ^ 32 = omega (arith, inside, c.requires.small, c.first_slot.ensures) in
    search rules

pub returns-in-None : goal.returns-in-None
returns-in-None c =
    not_there (bare c.args.layout.now) c.requires.well (object_of c.args.object) c.requires.domain c.requires.number c.args.spot
    (λ j h e. c.in-None.ensures j (omega (arith, h, c.width-width.ensures)) (ap (λ (k : Class). spot_at k j) c.class.ensures ∙ e))

pub returns-in-Some : goal.returns-in-Some
returns-in-Some c =
    ap (λ (n : ℕ). (n + c.in-Some.column) ∷ []) c.first_slot.ensures
    ∙ there (bare c.args.layout.now) c.requires.well (object_of c.args.object) c.requires.domain c.requires.number c.in-Some.column c.args.spot
    (omega (arith, c.in-Some.ensures.0, c.width-width.ensures)) (subst (λ (k : Class). spot_at k c.in-Some.column ≡ c.args.spot) c.class.ensures c.in-Some.ensures.1)
