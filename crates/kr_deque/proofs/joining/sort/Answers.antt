use Rattle.std.proofs.Common.{rules, ap, sym, ◌∙◌}
use Rattle.std.specs.Ordering.{is_lt}
use Rattle.std.proofs.lemmas.Cmp.{nat_list_cmp_total}
use Rattle.std.proofs.lemmas.List.Sorted.{answers_always, ranks_by}
use Rattle.kr_deque.proofs.Following.{earlier}
use Rattle.kr_deque.proofs.joining.sort.Goals as goal

pub returns-clause-sorted : goal.returns-clause-sorted
returns-clause-sorted g c = c.sort_unstable_by.ensures.sorted earlier (ranks_by nat_list_cmp_total (λ p. p.span.after)) (answers_always _ _ _ (λ f a r f' h. ap is_lt (search rules)))
