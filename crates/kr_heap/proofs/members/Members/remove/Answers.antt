use Rattle.std.proofs.Common.{ap, ◌∙◌, arith}
use Rattle.std.specs.Prelude.{◌<◌, ◌+◌, length, drop}
use Rattle.std.specs.List.{remove}
use Rattle.std.proofs.lemmas.List.{length-drop}
use Rattle.kr_heap.proofs.Parts.{drop_removed}
use Rattle.kr_heap.proofs.members.Members.remove.Goals as goal

-- src/members.rt:76:5
pub returns : goal.returns
returns c =
    let below : c.self.inside.gone + c.args.at < length c.self.inside.items.items = omega (arith, c.requires, ap length c.self.view_is, length-drop c.self.inside.gone c.self.inside.items.items) in
    ap (λ xs. drop c.self.inside.gone xs) c.remove.ensures.items ∙ drop_removed c.self.inside.gone c.args.at c.self.inside.items.items below ∙ ap (λ xs. remove xs c.args.at) c.self.view_is
