use Rattle.std.proofs.Common.{◌∙◌, ◌^◌, ◌≤◌, ◌⊎◌, ℕ, arith, refl, subst}
use Rattle.kr_iso.specs.Objects.{object_of}
use Rattle.kr_space_layout.specs.Bounds.{bare}
use Rattle.kr_report_rows.proofs.Stretches.{nowhere, stands}
use Rattle.kr_report_rows.proofs.places.stretch_of.Goals as goal

pub returns-then-object-domains-clause-are : goal.returns-then-object-domains-clause-are
returns-then-object-domains-clause-are c =
    nowhere (bare c.args.layout.now) (object_of c.args.object) (record { first = 0; count = 0 }) (λ d k. omega (arith, d, c.if-object-domains.true, c.domains.ensures)) refl

pub returns-then-object-count-clause-are : goal.returns-then-object-count-clause-are
returns-then-object-count-clause-are c =
    nowhere (bare c.args.layout.now) (object_of c.args.object) (record { first = 0; count = 0 }) (λ d k. omega (arith, k, c.if-object-count.true, c.count.ensures)) refl

pub returns-clause-are : goal.returns-clause-are
returns-clause-are c =
    stands (bare c.args.layout.now) (object_of c.args.object) (record { first = c.first_slot.result; count = c.at_most_all.result })
    (omega (arith, c.if-object-domains.false, c.domains.ensures)) (omega (arith, c.if-object-count.false, c.count.ensures)) c.first_slot.ensures (omega (arith, c.at_most_all.ensures.few, c.width.ensures))
    (subst (λ (n : ℕ). (n ≤ c.at_most_all.result) ⊎ (2 ^ 32 ≤ c.at_most_all.result)) c.width.ensures c.at_most_all.ensures.all)
