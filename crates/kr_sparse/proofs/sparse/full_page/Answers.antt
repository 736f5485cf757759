use Rattle.std.proofs.Common.{ap, sym, ◌∙◌, replicate}
use Rattle.kr_sparse.proofs.Paged.{all_usual}
use Rattle.kr_sparse.proofs.sparse.full_page.Goals as goal

pub returns-then-is_usual-clause-items : goal.returns-then-is_usual-clause-items
returns-then-is_usual-clause-items g c usual same =
    ap (λ k. replicate k usual) (sym c.requires) ∙ sym (all_usual usual c.args.items.now (same c.if-is_usual.true))
