use Rattle.std.proofs.lemmas.Result.{on_ok_weaker}
use Rattle.kr_space_meaning.specs.Faults.{of_arrays}
use Rattle.kr_space.specs.Bounded.{problem_in, setting_in}
use Rattle.kr_space.proofs.BoundedKept.{lengths_noted}
use Rattle.kr_space.proofs.numbers.note_lengths.Goals as goal

pub returns-clause-noted : goal.returns-clause-noted
returns-clause-noted c =
    on_ok_weaker c.note_length_values.result
    (λ n. lengths_noted (problem_in c.args.bounded.now) (setting_in c.args.bounded.now) (of_arrays c.args.bound.now.name) c.args.bound.now.lengths c.args.least.now c.note_length_values.new.least c.requires.lengths n)
    c.note_length_values.ensures.noted
