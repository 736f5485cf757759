use Rattle.std.proofs.Common.{◌∙◌, ◌+◌, ◌-◌, ℕ, ap, sym, arith}
use Rattle.kr_iso.specs.Objects.{object_of, shown}
use Rattle.kr_mean.specs.Entries.{name_in}
use Rattle.kr_mean.specs.Problem.{Choice}
use Rattle.kr_plain.proofs.Moving.{keeps, turns}
use Rattle.kr_plain.proofs.renaming.index_for.Goals as goal

pub overflow_sub-result : goal.overflow_sub-result
overflow_sub-result c =
    (turns c.args.layout.now c.requires.well (name_in c.args.perm.now) c.requires.renaming c.args.slot c.args.index c.requires.slot c.requires.index (object_of c.in-Some.object) (sym (ap (λ (x : Choice). x.object) c.choice.ensures) ∙ ap shown c.in-Some.is)).0

pub overflow_add-result : goal.overflow_add-result
overflow_add-result c =
    let t = turns c.args.layout.now c.requires.well (name_in c.args.perm.now) c.requires.renaming c.args.slot c.args.index c.requires.slot c.requires.index (object_of c.in-Some.object) (sym (ap (λ (x : Choice). x.object) c.choice.ensures) ∙ ap shown c.in-Some.is) in
    let i = t.2 in
    omega (arith, i, c.number.ensures, c.size-size.ensures, c.size-size.type_inv)

pub returns-in-None : goal.returns-in-None
returns-in-None c = keeps c.args.layout.now c.requires.well (name_in c.args.perm.now) c.requires.renaming c.args.slot c.args.index (sym (ap (λ (x : Choice). x.object) c.choice.ensures) ∙ ap shown c.in-None.is)

pub returns-in-Some : goal.returns-in-Some
returns-in-Some c =
    let t = turns c.args.layout.now c.requires.well (name_in c.args.perm.now) c.requires.renaming c.args.slot c.args.index c.requires.slot c.requires.index (object_of c.in-Some.object) (sym (ap (λ (x : Choice). x.object) c.choice.ensures) ∙ ap shown c.in-Some.is) in
    ap (λ (x : ℕ). c.args.index - c.in-Some.object.number + x) c.number.ensures ∙ t.1
