use Rattle.kr_classes_names.proofs.Growing.{extends_on}
use Rattle.kr_fin.specs.declared.document.ArrayBound.{ArrayBound}
use Rattle.kr_space_meaning.specs.Bounds.{lengths_of}
use Rattle.kr_space_rules.proofs.Bounded.{bounds_kept}
use Rattle.kr_space.specs.Basis.{setting_on}
use Rattle.kr_space.proofs.Pooled.{domains_next}
use Rattle.kr_space.proofs.domains.add_lengths.Goals as goal

pub loop-bound-preserved : goal.loop-bound-preserved
loop-bound-preserved c =
    record {
      added = domains_next (λ (a : ArrayBound). lengths_of (setting_on c.args.basis.now) a.lengths) _ _ _ c.args.arrays.now c.loop-bound.bound-index c.bound-item.result c.loop-bound-test.true c.bound-item.is c.loop-bound.invariant.added c.in_ok-add_length.ensures.added;
      bounds = bounds_kept c.loop-bound.types c.add_length.new.types c.args.basis.now.document.now.arrays c.args.basis.now.bounds.now (setting_on c.args.basis.now).arrays c.add_length.ensures.extends c.loop-bound.invariant.bounds;
      extends = extends_on c.args.types.now c.loop-bound.types c.add_length.new.types c.loop-bound.invariant.extends c.add_length.ensures.extends;
    }
