use Rattle.std.proofs.Common.{◌≡◌, ◌-◌, ◌*◌, ◌/◌, ◌%◌, ◌<◌, ◌≤◌, List, length, get_or, Some, ap, sym, subst, ◌∙◌, arith}
use Rattle.std.specs.Prelude.{slice_get}
use Rattle.std.proofs.lemmas.List.{get_or-replicate}
use Rattle.std.proofs.lemmas.Option.{slice_get-get_or}
use Rattle.kr_sparse.specs.Pages.{Mostly, all_items, page_items, page_len}
use Rattle.kr_sparse.proofs.Numbers.{within_page}
use Rattle.kr_sparse.proofs.Paged.{after_full, at_page, in_rest}
use Rattle.kr_sparse.proofs.sparse.Sparse.at.Goals as goal

pub index-requires : goal.index-requires
index-requires g c =
    let k = c.args.index in
    let ps = c.self.inside.pages.items in
    let rest = c.self.inside.rest.items in
    let usual = c.self.inside.usual in
    let items : c.args.self.now.items ≡ all_items usual ps rest = sym (ap (λ (m : Mostly g.row.T.Denot). m.items) c.self.view_is) in
    let lt : k < length (all_items usual ps rest) = subst (λ (xs : List g.row.T.Denot). k < length xs) items c.requires in
    let page : k / c.page_len.result ≡ k / page_len = ap (λ n. k / n) c.page_len.ensures.long in
    let le : length ps ≤ k / page_len = omega (arith, page, c.if-page-len.true, c.len.ensures, c.self.inside.pages.ok.0) in
    let count : c.len-then-page-len.result ≡ length ps = omega (arith, c.len-then-page-len.ensures, c.self.inside.pages.ok.0) in
    let before : c.len-then-page-len.result * c.page_len-then-page-len.result ≡ length ps * page_len =
    ap (λ n. n * c.page_len-then-page-len.result) count ∙ ap (λ n. length ps * n) c.page_len-then-page-len.ensures.long in
    omega (arith, before, (after_full usual ps rest k c.self.invariant.full lt le).0, c.self.inside.rest.ok.0)

pub returns-then-page-len : goal.returns-then-page-len
returns-then-page-len g c =
    let k = c.args.index in
    let ps = c.self.inside.pages.items in
    let rest = c.self.inside.rest.items in
    let usual = c.self.inside.usual in
    let x = c.index.result.now in
    let items : c.args.self.now.items ≡ all_items usual ps rest = sym (ap (λ (m : Mostly g.row.T.Denot). m.items) c.self.view_is) in
    let lt : k < length (all_items usual ps rest) = subst (λ (xs : List g.row.T.Denot). k < length xs) items c.requires in
    let page : k / c.page_len.result ≡ k / page_len = ap (λ n. k / n) c.page_len.ensures.long in
    let le : length ps ≤ k / page_len = omega (arith, page, c.if-page-len.true, c.len.ensures, c.self.inside.pages.ok.0) in
    let count : c.len-then-page-len.result ≡ length ps = omega (arith, c.len-then-page-len.ensures, c.self.inside.pages.ok.0) in
    let before : c.len-then-page-len.result * c.page_len-then-page-len.result ≡ length ps * page_len =
    ap (λ n. n * c.page_len-then-page-len.result) count ∙ ap (λ n. length ps * n) c.page_len-then-page-len.ensures.long in
    let n = k - length ps * page_len in
    let read : x ≡ get_or rest n x = c.index.ensures ∙ ap (λ b. get_or rest (k - b) x) before in
    ap (λ (xs : List g.row.T.Denot). slice_get xs k) items
    ∙ (slice_get-get_or (all_items usual ps rest) k x lt
    ∙ ap (λ y. Some y) (in_rest usual ps rest k n x c.self.invariant.full (after_full usual ps rest k c.self.invariant.full lt le).1 ∙ sym read))

pub returns-in-None : goal.returns-in-None
returns-in-None g c =
    let k = c.args.index in
    let ps = c.self.inside.pages.items in
    let rest = c.self.inside.rest.items in
    let usual = c.self.inside.usual in
    let p = c.index-2.result.now in
    let items : c.args.self.now.items ≡ all_items usual ps rest = sym (ap (λ (m : Mostly g.row.T.Denot). m.items) c.self.view_is) in
    let lt : k < length (all_items usual ps rest) = subst (λ (xs : List g.row.T.Denot). k < length xs) items c.requires in
    let page : k / c.page_len.result ≡ k / page_len = ap (λ n. k / n) c.page_len.ensures.long in
    let in_pages : k / page_len < length ps = omega (arith, page, c.if-page-len.false, c.len.ensures, c.self.inside.pages.ok.0) in
    let there : p ≡ get_or ps (k / page_len) p = c.index-2.ensures ∙ ap (λ n. get_or ps n p) page in
    ap (λ (xs : List g.row.T.Denot). slice_get xs k) items
    ∙ (slice_get-get_or (all_items usual ps rest) k usual lt
    ∙ ap (λ y. Some y) (at_page usual ps rest k p usual c.self.invariant.full in_pages there
    ∙ (ap (λ p. get_or (page_items usual p) (k % page_len) usual) c.in-None.is ∙ get_or-replicate page_len (k % page_len) usual usual (within_page k))))

pub returns-in-Some : goal.returns-in-Some
returns-in-Some g c =
    let k = c.args.index in
    let ps = c.self.inside.pages.items in
    let rest = c.self.inside.rest.items in
    let usual = c.self.inside.usual in
    let p = c.index-2.result.now in
    let x = c.index-in-Some.result.now in
    let items : c.args.self.now.items ≡ all_items usual ps rest = sym (ap (λ (m : Mostly g.row.T.Denot). m.items) c.self.view_is) in
    let lt : k < length (all_items usual ps rest) = subst (λ (xs : List g.row.T.Denot). k < length xs) items c.requires in
    let page : k / c.page_len.result ≡ k / page_len = ap (λ n. k / n) c.page_len.ensures.long in
    let in_pages : k / page_len < length ps = omega (arith, page, c.if-page-len.false, c.len.ensures, c.self.inside.pages.ok.0) in
    let there : p ≡ get_or ps (k / page_len) p = c.index-2.ensures ∙ ap (λ n. get_or ps n p) page in
    let within : k % c.page_len-2.result ≡ k % page_len = ap (λ n. k % n) c.page_len-2.ensures.long in
    let read : x ≡ get_or c.in-Some.items.items (k % page_len) x = c.index-in-Some.ensures ∙ ap (λ n. get_or c.in-Some.items.items n x) within in
    ap (λ (xs : List g.row.T.Denot). slice_get xs k) items
    ∙ (slice_get-get_or (all_items usual ps rest) k x lt
    ∙ ap (λ y. Some y) (at_page usual ps rest k p x c.self.invariant.full in_pages there
    ∙ (ap (λ p. get_or (page_items usual p) (k % page_len) x) c.in-Some.is ∙ sym read)))
