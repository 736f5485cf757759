use Rattle.std.proofs.Common.{◌++◌, ◌∙◌}
use Rattle.kr_classes_names.proofs.Growing.{extends_on}
use Rattle.kr_mean.specs.Problem.{choices_in}
use Rattle.kr_fin.specs.declared.document.NamedDomain.{NamedDomain}
use Rattle.kr_space_meaning.specs.Bounds.{values_of}
use Rattle.kr_space_meaning.specs.Faults.{number_faults}
use Rattle.kr_space_rules.specs.Widths.{asked}
use Rattle.kr_space.specs.Bounded.{problem_in, setting_in}
use Rattle.kr_space.proofs.BoundedKept.{bounded_kept, noted_more}
use Rattle.kr_space.proofs.numbers.note_domains.Goals as goal

pub loop-domain-preserved : goal.loop-domain-preserved
loop-domain-preserved c =
    let b = c.args.bounded.now in
    record {
      noted = c.loop-domain.invariant.noted
          ∙ noted_more (λ (d : NamedDomain). number_faults (c.args.table.now ++ d.key) (choices_in (problem_in b) (values_of (setting_in b) (asked (setting_in b) c.args.keyed d.key) d.domain))) c.args.domains.now c.loop-domain.domain-index c.domain-item.result c.loop-domain.least c.note_keyed.new.least c.loop-domain-test.true c.domain-item.is c.in_ok-note_keyed.ensures.noted;
      bounded = bounded_kept c.loop-domain.types c.note_keyed.new.types b c.note_keyed.ensures.extends c.loop-domain.invariant.bounded;
      extends = extends_on c.args.types.now c.loop-domain.types c.note_keyed.new.types c.loop-domain.invariant.extends c.note_keyed.ensures.extends;
    }
