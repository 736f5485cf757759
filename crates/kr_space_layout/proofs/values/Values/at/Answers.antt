use Rattle.std.proofs.Common.{List, ap, sym, ◌∙◌, arith, get_or}
use Rattle.kr_mean.specs.Space.{no_choice}
use Rattle.kr_space_layout.specs.declared.stretch.Stretch.{Stretch}
use Rattle.kr_space_layout.specs.Stretches.{all_choices}
use Rattle.kr_space_layout.proofs.Pieces.{there, whole}
use Rattle.kr_space_layout.proofs.values.Values.at.Goals as goal

pub at-requires-clause-index : goal.at-requires-clause-index
at-requires-clause-index c =
    let r = there c.as_slice-pieces.result.now c.self.inside.pieces.items c.args.self.now c.self.inside.size c.args.index c.piece_at.result c.as_slice-pieces.ensures.value c.self.view_is c.self.invariant.0 c.requires c.piece_at.ensures in
    omega (arith, r.0.room, c.piece_at.ensures.from)

pub returns : goal.returns
returns c =
    let r = there c.as_slice-pieces.result.now c.self.inside.pieces.items c.args.self.now c.self.inside.size c.args.index c.piece_at.result c.as_slice-pieces.ensures.value c.self.view_is c.self.invariant.0 c.requires c.piece_at.ensures in
    c.at.ensures ∙ (sym (whole c.args.index c.as_slice-pieces.result.now c.piece_at.result r.0) ∙ ap (λ (s : List Stretch). get_or (all_choices s) c.args.index no_choice) r.1)
