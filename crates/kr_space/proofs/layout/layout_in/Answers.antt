use Rattle.std.proofs.Common.{◌∙◌, List, ap, map}
use Rattle.kr_space_layout.specs.declared.item.DomainEntry.{DomainEntry}
use Rattle.kr_space_layout.specs.Items.{domain_of}
use Rattle.kr_space.specs.Basis.{setting_on}
use Rattle.kr_space.proofs.Laid.{arrays_kept}
use Rattle.kr_space.proofs.layout.layout_in.Goals as goal

pub layout_with-requires-clause-arrays : goal.layout_with-requires-clause-arrays
layout_with-requires-clause-arrays c = arrays_kept c.args.types.now c.pool_of.new.types (setting_on c.args.basis.now) c.args.arrays.now c.pool_of.ensures.extends c.requires.arrays

pub layout_with-requires-clause-values : goal.layout_with-requires-clause-values
layout_with-requires-clause-values c = ap (λ (ds : List (List DomainEntry)). map domain_of ds) c.deref.ensures.value ∙ c.in_ok-values.ensures.pool
