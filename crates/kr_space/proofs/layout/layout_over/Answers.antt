use Rattle.kr_space_rules.specs.Classes.{files_of}
use Rattle.kr_space.proofs.Laid.{layout_is, ok_same}
use Rattle.kr_space.proofs.layout.layout_over.Goals as goal

pub returns : goal.returns
returns c =
    let basis = c.args.basis.now in
    ok_same c.new.result _ _
    (layout_is (files_of basis.classes.now) basis.document.now c.args.mode c.args.root c.in_ok-parameters.parameters c.args.domains c.args.values.now
    c.requires.values c.requires.root c.in_ok-parameters.ensures c.requires.domains)
    c.new.ensures
