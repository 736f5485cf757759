use Rattle.std.proofs.Common.{refl}
use Rattle.kr_mean.specs.Space.{space_of}
use Rattle.kr_space_layout.specs.Layouts.{AnyProgramLaw}
use Rattle.kr_space_layout.proofs.layout.any_program_law.Goals as goal

pub law : AnyProgramLaw
unfolding space_of
law program b = record { slots_same = refl; choices_same = λ s. refl; space_same = refl }

pub returns : goal.returns
returns c = law
