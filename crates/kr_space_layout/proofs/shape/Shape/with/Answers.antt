use Rattle.std.proofs.Common.{◌≡◌, ◌+◌, ◌∙◌, ◌++◌, ◌<◌, ℕ, None, ap, sym, subst, length, get_or}
use Rattle.kr_mean.specs.Problem.{Choice}
use Rattle.kr_mean.specs.Space.{no_choice}
use Rattle.kr_space_layout.specs.declared.stretch.Stretch.{Stretch}
use Rattle.kr_space_layout.specs.declared.stretch.Stretch.TheVariants.{Integers}
use Rattle.kr_space_layout.specs.Shapes.{IsShape}
use Rattle.kr_space_layout.specs.Stretches.{Fits, IsNumbered, choices_of, count_of}
use Rattle.kr_space_layout.proofs.Pieces.{choices_long, integer_at}
use Rattle.kr_space_layout.proofs.Shapes.{with_plain, with_objects}
use Rattle.kr_space_layout.proofs.shape.Shape.with.Goals as goal

pub returns-in-Integers : goal.returns-in-Integers
returns-in-Integers c = λ cs is.
    let from = c.in-Integers.field-0 in
    let to = c.in-Integers.field-1 in
    let ds = choices_of (Integers from to) in
    let long : length ds ≡ count_of (Integers from to) = choices_long (Integers from to) in
    let size : c.args.size ≡ c.args.self.size + length ds = c.requires.size ∙ ap (λ (n : ℕ). c.args.self.size + n) (ap count_of c.in-Integers.is ∙ sym long) in
    let none : (j : ℕ) → j < length ds → (get_or ds j no_choice).object ≡ None = λ j h. ap (λ (x : Choice). x.object) (integer_at from to j (subst (λ (n : ℕ). j < n) long h)) in
    subst (λ (s : Stretch). IsShape (cs ++ choices_of s) (record { size = c.args.size; from = c.args.size; domain = 0; first = 0; simple = c.has_none-simple.result })) (sym c.in-Integers.is)
    (with_plain cs ds c.args.self c.args.size c.has_none-simple.result size c.has_none-simple.ensures none is)

pub returns-in-Objects : goal.returns-in-Objects
returns-in-Objects c = λ cs is.
    let b = c.in-Objects.block in
    let size : c.args.size ≡ c.args.self.size + b.count = c.requires.size ∙ ap (λ (s : Stretch). c.args.self.size + count_of s) c.in-Objects.is in
    let numbered : IsNumbered b = subst Fits c.in-Objects.is c.requires.fits in
    subst (λ (s : Stretch). IsShape (cs ++ choices_of s) (record { size = c.args.size; from = c.args.self.size; domain = b.domain; first = b.first; simple = c.has_none-simple.result })) (sym c.in-Objects.is)
    (with_objects cs b c.args.self c.args.size c.has_none-simple.result size numbered c.has_none-simple.ensures is)
