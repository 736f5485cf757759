use Rattle.std.proofs.Common.{eq-eqb}
use Rattle.kr_iso.specs.Objects.{object_of}
use Rattle.kr_iso.proofs.Unused.{first_may, reached_may, may_reached}
use Rattle.kr_iso.proofs.choice.may_stand.Goals as goal

pub returns-then-object-eq0 : goal.returns-then-object-eq0
returns-then-object-eq0 g c =
    (λ t. first_may (g.S.Slots.space c.args.slots.now) c.args.path.now (object_of c.args.object) c.if-object-eq0.true, λ may. eq-eqb c.args.object.number 0 c.if-object-eq0.true)

pub returns-else-object-eq0 : goal.returns-else-object-eq0
returns-else-object-eq0 g c =
    let S = g.S.Slots.space c.args.slots.now in
    let o = object_of c.args.object in (
      λ t. reached_may S c.args.path.now o c.requires.allowed (c.is_reached.ensures.0 t),
      λ may. c.is_reached.ensures.1 (may_reached S c.args.path.now o c.if-object-eq0.false may),
    )
