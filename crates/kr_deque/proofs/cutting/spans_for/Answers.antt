use Rattle.std.proofs.Common.{ℕ, List, ◌∙◌, ap}
use Rattle.kr_deque.specs.Cutting.{parts_at, alone}
use Rattle.kr_deque.proofs.Cuts.{few_parts}
use Rattle.kr_deque.proofs.cutting.spans_for.Goals as goal

pub pad-requires : goal.pad-requires
pad-requires c =
    let whole = c.args.span.now in
    few_parts whole c.args.workers c.in-Ok.spans.items c.requires.workers (c.in-Ok.ensures ∙ ap (λ (cuts : List (List ℕ)). alone (parts_at whole.after cuts whole.upto)) c.in_ok-cuts.ensures)
