use Rattle.kr_space_layout.proofs.Layouts.{known}
use Rattle.kr_space_layout.proofs.layout.Layout.slots.Goals as goal

pub returns : goal.returns
returns c = (known c.self.inside c.args.self.now c.self.invariant.0 c.self.view_is).count
