use Rattle.std.proofs.Common.{◌∙◌, ◌+◌, ℕ, ap, sym, take}
use Rattle.std.specs.List.{sum_by}
use Rattle.kr_shard.specs.Found.{count_in}
use Rattle.kr_shard.proofs.Pieces.{capped_more, sum_next}
use Rattle.kr_shard.proofs.writing.count_rows.Goals as goal

pub loop-at-preserved : goal.loop-at-preserved
loop-at-preserved c =
    let all = c.args.rows.now in
    let i = c.loop-at.at in
    let sum = sum_by count_in (take i all) in
    capped_more c.loop-at.count c.saturating_add-count.result sum (sum_by count_in (take (i + 1) all)) c.count.result c.loop-at.invariant c.saturating_add-count.ensures
    (sum_next all i c.get.result.now c.get.ensures ∙ ap (λ (n : ℕ). sum + n) (sym c.count.ensures))
