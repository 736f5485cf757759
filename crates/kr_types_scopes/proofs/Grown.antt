-- Lists in which each item is made of those before it.
use Rattle.std.proofs.Common.{◌≡◌, ℕ, ◌+◌, ◌<◌, List, [], ◌∷◌, ◌++◌, length, get_or, sym, ap, ◌∙◌, arith}
use Rattle.std.proofs.lemmas.List.{get_or_append_left}
use Rattle.std.proofs.Math.Seq.{get_or-append_seam}
use Rattle.kr_ast.specs.Grow.{grow}
use Rattle.kr_ast.proofs.Grown.{length-grow, grow-append}

pub grow_stay : {A N : Type 0} (f : List A → N → A) (d : A) (xs : List A) (ns : List N) (n : N) (k : ℕ) → k < length xs + length ns → get_or (grow f xs (ns ++ n ∷ [])) k d ≡ get_or (grow f xs ns) k d
grow_stay f d xs ns n k lt =
    ap (λ l. get_or l k d) (grow-append f xs ns n) ∙ get_or_append_left (grow f xs ns) (f (grow f xs ns) n ∷ []) d k (omega (arith, length-grow f xs ns))

pub grow_made : {A N : Type 0} (f : List A → N → A) (d : A) (xs : List A) (ns : List N) (n : N) (k : ℕ) → k ≡ length xs + length ns → get_or (grow f xs (ns ++ n ∷ [])) k d ≡ f (grow f xs ns) n
grow_made f d xs ns n k e =
    ap (λ l. get_or l k d) (grow-append f xs ns n)
    ∙ ap (λ k. get_or (grow f xs ns ++ f (grow f xs ns) n ∷ []) k d) (e ∙ sym (length-grow f xs ns))
    ∙ get_or-append_seam (grow f xs ns) (f (grow f xs ns) n) [] d
