-- Tokens break at most one rule of the grammar first, and none where they have a tree.
use Rattle.std.proofs.Common.{◌≡◌, ℕ, ◌+◌, ◌<◌, ◌≤◌, ◌⊎◌, inl, inr, true, false, List, ◌++◌, length, take, drop, refl, sym, ap, subst, ◌∙◌, arith, append_assoc}
use Rattle.std.proofs.lemmas.List.{take-append-drop, take-take}
use Rattle.std.proofs.lemmas.Bool.{cases_lt}
use Rattle.kr_base.specs.declared.place.Place.{Place}
use Rattle.kr_lex.specs.Lexemes.{Lexeme, Lexemes}
use Rattle.kr_ast.specs.Tree.{Tree}
use Rattle.kr_parse_grammar.specs.Grammar.{Derives}
use Rattle.kr_parse.specs.declared.refusal.ParseRule.TheVariants as rules
use Rattle.kr_parse.specs.Refusals.{IsDead, IsViable, IsLeastDead, IsFirstTooNested, OneRefusal, ParsedUnbroken, is_unsupported, place_at}

front_of : (xs : List Lexeme) (i j : ℕ) → i + 1 ≤ j → take (i + 1) xs ++ drop (i + 1) (take j xs) ≡ take j xs
front_of xs i j l = ap (λ a. a ++ drop (i + 1) (take j xs)) (sym (take-take (i + 1) j xs l)) ∙ take-append-drop (i + 1) (take j xs)

-- no derivable file begins with tokens that go through a dead one
dead_within : (xs : List Lexeme) (i j : ℕ) → IsDead xs i → i + 1 ≤ j → IsViable xs j → ⊥
dead_within xs i j d l v =
    let more = drop (i + 1) (take j xs) ++ v.1.0 in
    let e : take (i + 1) xs ++ more ≡ take j xs ++ v.1.0 = sym (append_assoc (take (i + 1) xs) (drop (i + 1) (take j xs)) v.1.0) ∙ ap (λ a. a ++ v.1.0) (front_of xs i j l) in
    d.within (omega (arith, v.0, l)) more v.1.1 (subst (λ a. Derives a v.1.1) (sym e) v.1.2)

below : (i j : ℕ) → (i < j → ⊥) → (j < i → ⊥) → i ≡ j
below i j a b = go (cases_lt i j) (cases_lt j i)
  where
    go : (i < j) ⊎ (j ≤ i) → (j < i) ⊎ (i ≤ j) → i ≡ j
    go (inl x) y = absurd (a x)
    go (inr x) (inl y) = absurd (b y)
    go (inr x) (inr y) = omega (arith, x, y)

one_index : (ts : Lexemes) (p q : Place) (b c : _) (x : IsLeastDead ts p b) (y : IsLeastDead ts q c) → x.index ≡ y.index
one_index ts p q b c x y =
    below x.index y.index (λ l. dead_within ts.list x.index y.index x.dead (omega (arith, l)) y.viable) (λ l. dead_within ts.list y.index x.index y.dead (omega (arith, l)) x.viable)

one_dead : (ts : Lexemes) (p q : Place) (b c : _) → IsLeastDead ts p b → IsLeastDead ts q c → (p ≡ q) × (b ≡ c)
one_dead ts p q b c x y =
    let e = one_index ts p q b c x y in
    (x.place ∙ (ap (place_at ts) e ∙ sym y.place), sym x.kind ∙ (ap (is_unsupported ts) e ∙ y.kind))

one_nested : (ts : Lexemes) (p q : Place) → IsFirstTooNested ts p → IsFirstTooNested ts q → p ≡ q
one_nested ts p q x y =
    let e = below x.index y.index (λ l. y.shallow x.index l x.nested) (λ l. x.shallow y.index l y.nested) in
    x.place ∙ (ap (place_at ts) e ∙ sym y.place)

dead_or_nested : (ts : Lexemes) (p q : Place) (b : _) → IsLeastDead ts p b → IsFirstTooNested ts q → ⊥
dead_or_nested ts p q b x y = go (cases_lt y.index x.index)
  where
    go : (y.index < x.index) ⊎ (x.index ≤ y.index) → ⊥
    go (inl l) = x.shallow y.index l y.nested
    go (inr l) = dead_within ts.list x.index (y.index + 1) x.dead (omega (arith, l)) y.viable

pub one_refusal : OneRefusal
one_refusal ts p q rules.Syntax rules.Syntax x y = ((one_dead ts p q false false x y).0, refl)
one_refusal ts p q rules.Syntax rules.Unsupported x y = let e = (one_dead ts p q false true x y).1 in cc
one_refusal ts p q rules.Syntax rules.TooNested x y = absurd (dead_or_nested ts p q false x y)
one_refusal ts p q rules.Unsupported rules.Syntax x y = let e = (one_dead ts p q true false x y).1 in cc
one_refusal ts p q rules.Unsupported rules.Unsupported x y = ((one_dead ts p q true true x y).0, refl)
one_refusal ts p q rules.Unsupported rules.TooNested x y = absurd (dead_or_nested ts p q true x y)
one_refusal ts p q rules.TooNested rules.Syntax x y = absurd (dead_or_nested ts q p false y x)
one_refusal ts p q rules.TooNested rules.Unsupported x y = absurd (dead_or_nested ts q p true y x)
one_refusal ts p q rules.TooNested rules.TooNested x y = (one_nested ts p q x y, refl)

-- the whole list of tokens with a tree is viable
dead_whole : (ts : Lexemes) (t : Tree) (p : Place) (b : _) → Derives ts.list t → IsLeastDead ts p b → ⊥
dead_whole ts t p b d x = go (cases_lt x.index (length ts.list))
  where
    go : (x.index < length ts.list) ⊎ (length ts.list ≤ x.index) → ⊥
    go (inl l) =
        let e : take (x.index + 1) ts.list ++ drop (x.index + 1) ts.list ≡ ts.list = take-append-drop (x.index + 1) ts.list in
        x.dead.within l (drop (x.index + 1) ts.list) t (subst (λ a. Derives a t) (sym e) d)
    go (inr l) = x.dead.end (omega (arith, l, x.viable.0)) t d

pub parsed_unbroken : ParsedUnbroken
parsed_unbroken ts t p rules.Syntax h x = dead_whole ts t p false h.derived x
parsed_unbroken ts t p rules.Unsupported h x = dead_whole ts t p true h.derived x
parsed_unbroken ts t p rules.TooNested h x = h.shallow x.index x.nested.0 x.nested
