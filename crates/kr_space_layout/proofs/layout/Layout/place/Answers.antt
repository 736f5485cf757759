use Rattle.std.proofs.Common.{ap, ◌∙◌, arith}
use Rattle.kr_space_layout.proofs.Layouts.{known}
use Rattle.kr_space_layout.specs.declared.entry.Entry.{Entry}
use Rattle.kr_mean.specs.Places.{place_of}
use Rattle.kr_space_layout.proofs.layout.Layout.place.Goals as goal

pub index-requires : goal.index-requires
index-requires c = omega (arith, c.requires, (known c.self.inside c.args.self.now c.self.invariant.0 c.self.view_is).long, c.self.inside.entries.ok.0)

pub returns : goal.returns
returns c =
    ap (λ (e : Entry). place_of e.place) c.index.ensures
    ∙ (known c.self.inside c.args.self.now c.self.invariant.0 c.self.view_is).place c.args.slot c.index.result.now c.requires
