use Rattle.std.proofs.Common.{◌∙◌}
use Rattle.kr_classes_names.proofs.Growing.{extends_on}
use Rattle.kr_mean.specs.Problem.{choices_in}
use Rattle.kr_fin.specs.declared.document.ArrayBound.{ArrayBound}
use Rattle.kr_space_meaning.specs.Bounds.{lengths_of}
use Rattle.kr_space_meaning.specs.Faults.{number_faults, of_arrays}
use Rattle.kr_space.specs.Bounded.{problem_in, setting_in}
use Rattle.kr_space.proofs.BoundedKept.{bounded_kept, noted_more}
use Rattle.kr_space.proofs.numbers.note_all_lengths.Goals as goal

pub loop-bound-preserved : goal.loop-bound-preserved
loop-bound-preserved c =
    let bounded = c.args.bounded.now in
    record {
      noted = c.loop-bound.invariant.noted
          ∙ noted_more (λ (b : ArrayBound). number_faults (of_arrays b.name) (choices_in (problem_in bounded) (lengths_of (setting_in bounded) b.lengths))) c.args.bounds.now c.loop-bound.bound-index c.bound-item.result c.loop-bound.least c.note_lengths.new.least c.loop-bound-test.true c.bound-item.is c.in_ok-note_lengths.ensures.noted;
      bounded = bounded_kept c.loop-bound.types c.note_lengths.new.types bounded c.note_lengths.ensures.extends c.loop-bound.invariant.bounded;
      extends = extends_on c.args.types.now c.loop-bound.types c.note_lengths.new.types c.loop-bound.invariant.extends c.note_lengths.ensures.extends;
    }
