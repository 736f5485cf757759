use Rattle.std.proofs.Common.{ap, ◌∙◌, arith}
use Rattle.kr_space_layout.proofs.Layouts.{known}
use Rattle.kr_iso.specs.Objects.{shown}
use Rattle.kr_space_layout.specs.declared.entry.Entry.{Entry}
use Rattle.kr_space_layout.proofs.layout.Layout.owner.Goals as goal

pub index-requires : goal.index-requires
index-requires c = omega (arith, c.requires, (known c.self.inside c.args.self.now c.self.invariant.0 c.self.view_is).long, c.self.inside.entries.ok.0)

pub returns : goal.returns
returns c =
    ap (λ (e : Entry). shown e.owner) c.index.ensures
    ∙ (known c.self.inside c.args.self.now c.self.invariant.0 c.self.view_is).owner c.args.slot c.index.result.now c.requires
