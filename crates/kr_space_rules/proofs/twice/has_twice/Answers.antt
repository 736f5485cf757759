use Rattle.std.proofs.Common.{List, ap, ◌∙◌}
use Rattle.kr_space_rules.specs.declared.spans.Span.{Span}
use Rattle.kr_space_rules.specs.Spans.{meet}
use Rattle.kr_space_rules.proofs.TwiceIs.{twice_is}
use Rattle.kr_space_rules.proofs.twice.has_twice.Goals as goal

pub returns : goal.returns
returns c =
    c.spans_meet.ensures
    ∙ (ap (λ (ss : List Span). meet (record { start = 0; count = 0 }) ss) c.deref.ensures.value
    ∙ twice_is c.args.blocks.now c.args.items.now c.in_ok-spans.spans.items c.sort_spans.new.spans.items c.in_ok-spans.ensures.covered c.in_ok-spans.ensures.some c.in_ok-spans.ensures.told c.sort_spans.ensures.permutation c.sort_spans.ensures.sorted)
