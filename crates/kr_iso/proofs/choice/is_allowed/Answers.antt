use Rattle.std.proofs.Common.{◌≡◌, Some, sym, ap, ◌∙◌, subst}
use Rattle.kr_mean.specs.Problem.{DomainObject}
use Rattle.kr_mean.specs.Choices.{MayStand}
use Rattle.kr_iso.specs.Objects.{shown, object_of}
use Rattle.kr_iso.proofs.Unused.{barred_not}
use Rattle.kr_iso.proofs.choice.is_allowed.Goals as goal

pub returns-then-is_barred-clause-allowed : goal.returns-then-is_barred-clause-allowed
returns-then-is_barred-clause-allowed g c =
    let S = g.S.Slots.space c.args.slots.now in
    let o : DomainObject = object_of c.in-Some.object in
    let e : S.object_at c.args.slot c.args.index ≡ Some o = sym c.object_at.ensures ∙ ap shown c.in-Some.is in
    let behind = c.is_barred.ensures.0 c.if-is_barred.true in (
      λ t. absurd (cc),
      λ may. absurd (barred_not S c.args.path.now (shown c.args.barred.now) o c.requires.allowed c.requires.barred behind (subst (MayStand S c.args.path.now) e may)),
    )
