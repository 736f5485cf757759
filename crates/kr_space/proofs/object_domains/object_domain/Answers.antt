use Rattle.std.proofs.Common.{◌≡◌, List, get_or, ap, ◌∙◌}
use Rattle.kr_fin.specs.declared.document.Count.{Count}
use Rattle.kr_space_rules.specs.Classes.{files_of}
use Rattle.kr_space_rules.specs.ObjectDomains.{no_count}
use Rattle.kr_space.specs.Basis.{setting_on}
use Rattle.kr_space.specs.Pools.{pool}
use Rattle.kr_space.proofs.Laid.{got_there, object_domain_is}
use Rattle.kr_space.proofs.object_domains.object_domain.Goals as goal

pub returns : goal.returns
returns c =
    let document = c.args.basis.now.document.now in
    let line = c.index-as_slice-object.result in
    let same : line ≡ get_or document.objects c.args.object.at no_count = got_there document.objects c.as_slice.result.now c.args.object.at line no_count c.as_slice.ensures c.requires.object c.index-as_slice-object.is in
    object_domain_is (files_of c.args.basis.now.classes.now) document (pool (setting_on c.args.basis.now) document) c.args.object line c.from_vec.result c.in_ok-spots.spots
    same (c.from_vec.ensures ∙ (c.in_ok-from_slice.ensures.items ∙ (c.as_bytes-name.ensures.value ∙ c.as_str.ensures))) c.in_ok-spots.ensures
