use Rattle.std.proofs.Common.{◌≡◌, ◌++◌, ◌∷◌, [], List, true, All, ap, sym, subst, ◌∙◌}
use Rattle.kr_sparse.specs.Pages.{IsSparse, Mostly, all_items, page_items}
use Rattle.kr_sparse.proofs.Paged.{page_ended, page_made}
use Rattle.kr_sparse.proofs.sparse.Sparse.end_page.Goals as goal

pub invariant_of-self-2 : goal.invariant_of-self-2
invariant_of-self-2 g c =
    let usual = c.self.inside.usual in
    let ps = c.self.inside.pages.items in
    let rest = c.self.inside.rest.items in
    let page = c.in_ok-page.page in
    let read = c.deref.ensures.value in
    let usuals : c.self.inside.is_usual ≡ true → All (λ x. x ≡ usual) c.deref.result.now = λ e. subst (λ (xs : List g.row.T.Denot). All (λ x. x ≡ usual) xs) (sym read) (c.self.invariant.same e) in
    let same : page_items usual page ≡ rest = c.in_ok-page.ensures.items usual usuals ∙ read in
    let made : IsSparse usual c.self.inside.count (ps ++ page ∷ []) [] true = page_ended usual c.self.inside.count ps rest c.self.inside.is_usual page c.self.invariant same c.in_ok-page.ensures.full in
    rw (c.in_ok-push.ensures.items, c.clear.ensures.items) made

pub returns : goal.returns
returns g c =
    let usual = c.self.inside.usual in
    let ps = c.self.inside.pages.items in
    let rest = c.self.inside.rest.items in
    let page = c.in_ok-page.page in
    let read = c.deref.ensures.value in
    let usuals : c.self.inside.is_usual ≡ true → All (λ x. x ≡ usual) c.deref.result.now = λ e. subst (λ (xs : List g.row.T.Denot). All (λ x. x ≡ usual) xs) (sym read) (c.self.invariant.same e) in
    let same : page_items usual page ≡ rest = c.in_ok-page.ensures.items usual usuals ∙ read in
    let items : all_items usual (ps ++ page ∷ []) [] ≡ all_items usual ps rest = page_made usual ps page rest same in
    rw (c.in_ok-push.ensures.items, c.clear.ensures.items) (ap (λ (xs : List g.row.T.Denot). let m : Mostly g.row.T.Denot = record { usual = usual; items = xs } in m) items ∙ c.self.view_is)
