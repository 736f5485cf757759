use Rattle.std.proofs.Common.{◌≡◌, ◌∙◌, ap, get_or}
use Rattle.kr_fin.specs.declared.document.ArrayBound.{ArrayBound}
use Rattle.kr_space_meaning.specs.Bounds.{elements_key, greatest, lengths_of}
use Rattle.kr_space_rules.specs.Entries.{no_bound}
use Rattle.kr_space.specs.Basis.{setting_on}
use Rattle.kr_space.specs.Pools.{fields_given, pool}
use Rattle.kr_space.proofs.Laid.{array_spots_are, got_there}
use Rattle.kr_space.proofs.array_domains.array_spots.Goals as goal

pub returns : goal.returns
returns c =
    let setting = setting_on c.args.basis.now in
    let document = c.args.basis.now.document.now in
    let b = get_or document.arrays c.args.at no_bound in
    let same : c.index-as_slice-at.result ≡ b = got_there document.arrays c.as_slice.result.now c.args.at c.index-as_slice-at.result no_bound c.as_slice.ensures c.requires.at c.index-as_slice-at.is in
    array_spots_are setting (pool setting document) c.new-spots.result c.push.new.self c.add_elements.new.spots c.lengths_domain.result c.in_ok-elements.elements (lengths_of setting b.lengths) (fields_given setting document (elements_key b.name)) c.greatest_of-greatest.result
    c.new-spots.ensures c.in_ok-push.ensures.added (c.in_ok-add_elements.ensures (pool setting document)) (c.lengths_domain.ensures setting)
    (c.in_ok-elements.ensures setting ∙ ap (λ (a : ArrayBound). fields_given setting document (elements_key a.name)) same)
    (c.greatest_of-greatest.ensures ∙ ap (λ (a : ArrayBound). greatest (lengths_of setting a.lengths)) same)
