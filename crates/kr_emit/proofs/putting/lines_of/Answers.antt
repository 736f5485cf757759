use Rattle.std.proofs.Common.{◌≡◌, ◌++◌, ◌∙◌, ℕ, List, [], ◌∷◌, ap, append_assoc, arith, length, length-append, sym}
use Rattle.std.specs.Vec.Iter.{into_iter_items}
use Rattle.kr_emit.specs.Writers.{line_at, numbered}
use Rattle.kr_emit.specs.declared.making.Builder.{Builder}
use Rattle.kr_report_streaming.specs.declared.row_line.RowLine.{RowLine}
use Rattle.kr_emit.proofs.Numbered.{numbered_more}
use Rattle.kr_emit.proofs.putting.lines_of.Goals as goal

pub loop-builder-preserved : goal.loop-builder-preserved
loop-builder-preserved c =
    let builders = c.args.builders in
    let first = c.args.first in
    let done = c.loop-builder.yielded in
    let b = c.in-Some.builder in
    let left = into_iter_items c.loop-builder.builder-iterator in
    let rest = into_iter_items c.next.new.self in
    let so_far = c.loop-builder.invariant in
    let steps = c.in-Some.ensures.steps in
    let long : length left ≡ length (b ∷ rest) = ap (λ (l : List Builder). length l) steps.0 in
    let all : length (done ++ left) ≡ length builders.items = ap (λ (l : List Builder). length l) so_far.0 in (
      append_assoc done (b ∷ []) rest ∙ (ap (λ (l : List Builder). done ++ l) (sym steps.0) ∙ so_far.0),
      omega (arith, so_far.1, steps.1, long),
      c.in_ok-add_line.ensures
          ∙ (ap (λ (l : List RowLine). l ++ line_at c.loop-builder.number b ∷ []) so_far.2
          ∙ (ap (λ (n : ℕ). numbered first done ++ line_at n b ∷ []) so_far.3 ∙ sym (numbered_more first done b))),
      omega (arith, c.saturating_add-number.ensures, so_far.3, all, long, length-append done left, length-append done (b ∷ []), builders.ok.0, builders.ok.1, builders.small, c.ranges.first.fits),
    )
