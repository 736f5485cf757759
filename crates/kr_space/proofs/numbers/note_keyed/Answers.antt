use Rattle.std.proofs.Common.{◌++◌, ◌∙◌, List, ℕ, ap}
use Rattle.std.proofs.lemmas.Result.{on_ok_weaker}
use Rattle.kr_space_meaning.specs.Bounds.{width_for}
use Rattle.kr_space_rules.specs.Widths.{asked}
use Rattle.kr_space.specs.Bounded.{problem_in, setting_in}
use Rattle.kr_space.proofs.BoundedKept.{width_noted}
use Rattle.kr_space.proofs.numbers.note_keyed.Goals as goal

pub returns-clause-noted : goal.returns-clause-noted
returns-clause-noted c =
    let setting = setting_in c.args.bounded.now in
    let domain = c.args.domain.now in
    on_ok_weaker c.note_domain.result
    (λ n. width_noted (problem_in c.args.bounded.now) setting (asked setting c.args.keyed domain.key) c.in_ok-width.width (c.args.table.now ++ domain.key) domain.domain c.args.least.now c.note_domain.new.least
    (c.in_ok-width.ensures.width ∙ ap (λ (key : List ℕ). width_for (asked setting c.args.keyed key)) (c.as_bytes-key.ensures.value ∙ c.as_str.ensures)) n)
    c.note_domain.ensures.noted
