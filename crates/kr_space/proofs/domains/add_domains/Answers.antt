use Rattle.kr_classes_names.proofs.Growing.{extends_on}
use Rattle.kr_fin.specs.declared.document.NamedDomain.{NamedDomain}
use Rattle.kr_space_meaning.specs.Bounds.{values_of}
use Rattle.kr_space_names.proofs.Growing.{node_types_kept}
use Rattle.kr_space_rules.specs.Widths.{asked}
use Rattle.kr_space_rules.proofs.Bounded.{bounds_kept}
use Rattle.kr_space.specs.Basis.{setting_on}
use Rattle.kr_space.proofs.Pooled.{domains_next}
use Rattle.kr_space.proofs.domains.add_domains.Goals as goal

pub loop-domain-preserved : goal.loop-domain-preserved
loop-domain-preserved c =
    record {
      added = domains_next (λ (d : NamedDomain). values_of (setting_on c.args.basis.now) (asked (setting_on c.args.basis.now) c.args.keyed d.key) d.domain) _ _ _ c.args.named.now c.loop-domain.domain-index c.domain-item.result c.loop-domain-test.true c.domain-item.is c.loop-domain.invariant.added c.in_ok-add_domain.ensures.added;
      typed = node_types_kept c.args.basis.now.classes.now.trees.now c.loop-domain.types c.add_domain.new.types c.args.basis.now.classes.now.numbers.now c.add_domain.ensures.extends c.loop-domain.invariant.typed;
      bounds = bounds_kept c.loop-domain.types c.add_domain.new.types c.args.basis.now.document.now.arrays c.args.basis.now.bounds.now (setting_on c.args.basis.now).arrays c.add_domain.ensures.extends c.loop-domain.invariant.bounds;
      extends = extends_on c.args.types.now c.loop-domain.types c.add_domain.new.types c.loop-domain.invariant.extends c.add_domain.ensures.extends;
    }
