-- Headings of lists of items one after the other.
use Rattle.std.proofs.Common.{◌≡◌, sym, ap, ◌∙◌, ℕ, ◌+◌, List, [], ◌∷◌, ◌++◌, length, append_assoc, length-append, arith}
use Rattle.std.specs.Prelude.{None}
use Rattle.kr_ast.specs.Tree.{Tree}
use Rattle.kr_classes_table.specs.Table.{headings_from, heading_of, with_nested}

-- headings of more items come after those of earlier ones
pub headings_append : (k : ℕ) (ts us : List Tree) → headings_from k (ts ++ us) ≡ headings_from k ts ++ headings_from (k + length (headings_from k ts)) us
headings_append k [] us = ap (λ n. headings_from n us) (omega arith)
headings_append k (t ∷ ts) us =
    let own = with_nested k (heading_of None t) in
    let rest = headings_from (k + length own) ts in
    let e : k + length own + length rest ≡ k + length (own ++ rest) = omega (arith, length-append own rest) in
    ap (λ hs. own ++ hs) (headings_append (k + length own) ts us ∙ ap (λ n. rest ++ headings_from n us) e) ∙ sym (append_assoc own rest (headings_from (k + length (own ++ rest)) us))
