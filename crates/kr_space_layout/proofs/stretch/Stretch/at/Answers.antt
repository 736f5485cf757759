use Rattle.std.proofs.Common.{◌<◌, ap, sym, ◌∙◌, subst, arith, get_or}
use Rattle.std.proofs.lemmas.Int.{ints}
use Rattle.kr_mean.specs.Space.{no_choice}
use Rattle.kr_space_layout.specs.declared.stretch.Stretch.{Stretch}
use Rattle.kr_space_layout.specs.declared.stretch.Stretch.TheVariants.{Integers, Objects}
use Rattle.kr_space_layout.specs.Stretches.{choices_of, count_of, integer_choice}
use Rattle.kr_space_layout.proofs.Pieces.{integer_at, object_at}
use Rattle.kr_space_layout.proofs.stretch.Stretch.at.Goals as goal

pub returns-in-Integers : goal.returns-in-Integers
returns-in-Integers c =
    let from = c.in-Integers.from in
    let to = c.in-Integers.to in
    let h : c.args.index < count_of (Integers from to) = subst (λ (s : Stretch). c.args.index < count_of s) c.in-Integers.is c.requires.index in
    let e = integer_at from to c.args.index h in
    let v = c.integer_at.ensures in
    ap integer_choice (omega (arith, ints, v))
    ∙ (sym e ∙ sym (ap (λ (s : Stretch). get_or (choices_of s) c.args.index no_choice) c.in-Integers.is))

pub returns-in-Objects : goal.returns-in-Objects
returns-in-Objects c =
    let b = c.in-Objects.block in
    let h : c.args.index < count_of (Objects b) = subst (λ (s : Stretch). c.args.index < count_of s) c.in-Objects.is c.requires.index in
    sym (object_at b c.args.index h) ∙ sym (ap (λ (s : Stretch). get_or (choices_of s) c.args.index no_choice) c.in-Objects.is)
