use Rattle.kr_space_rules.specs.Classes.{files_of}
use Rattle.kr_space.proofs.Laid.{domains_whole}
use Rattle.kr_space.proofs.layout.all_domains.Goals as goal

pub returns : goal.returns
returns c =
    let basis = c.args.basis.now in
    domains_whole (files_of basis.classes.now) basis.document.now c.args.types.now c.in_ok-domains.domains c.add_array_domains.new.domains basis.objects.now basis.bounds.now
    c.in_ok-domains.ensures c.in_ok-add_array_domains.ensures c.requires.basis.objects.shown c.requires.bounds.shown
