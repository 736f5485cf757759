use Rattle.std.proofs.Common.{◌≡◌, ◌∙◌, ap, get_or}
use Rattle.kr_fin.specs.declared.document.ArrayBound.{ArrayBound}
use Rattle.kr_space_rules.specs.Classes.{files_of}
use Rattle.kr_space_rules.specs.Entries.{no_bound}
use Rattle.kr_space.specs.Basis.{setting_on}
use Rattle.kr_space.specs.Pools.{pool}
use Rattle.kr_space.proofs.Laid.{array_domain_is, got_there}
use Rattle.kr_space.proofs.array_domains.array_domain.Goals as goal

pub returns : goal.returns
returns c =
    let document = c.args.basis.now.document.now in
    let b = get_or document.arrays c.args.bound.at no_bound in
    let same : c.index-as_slice-bound.result ≡ b = got_there document.arrays c.as_slice.result.now c.args.bound.at c.index-as_slice-bound.result no_bound c.as_slice.ensures c.requires.bound.1 c.index-as_slice-bound.is in
    array_domain_is (files_of c.args.basis.now.classes.now) document (pool (setting_on c.args.basis.now) document) c.args.types.now c.args.arrays.now c.args.bound c.array_number-number.result c.index-as_slice-bound.result.count c.from_vec.result c.in_ok-spots.spots
    c.requires.arrays c.array_number-number.ensures
    (c.from_vec.ensures ∙ (c.in_ok-from_slice.ensures.items ∙ (c.as_bytes-name.ensures.value ∙ (c.as_str.ensures ∙ ap (λ (a : ArrayBound). a.name) same))))
    (ap (λ (a : ArrayBound). a.count) same) c.in_ok-spots.ensures
