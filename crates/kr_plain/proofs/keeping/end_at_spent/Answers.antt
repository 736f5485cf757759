use Rattle.std.proofs.Common.{ℕ, ◌∙◌, ap, take}
use Rattle.kr_plain.specs.Keys.{through_count}
use Rattle.kr_plain.proofs.Entering.{take_through}
use Rattle.kr_plain.proofs.keeping.end_at_spent.Goals as goal

pub returns : goal.returns
returns g c =
    let es = c.args.entries.now.items in
    c.truncate.ensures.items ∙ (ap (λ (n : ℕ). take n es) (c.count_through-count.ensures ∙ ap (λ l. through_count l) c.as_slice.ensures.value) ∙ take_through es)
