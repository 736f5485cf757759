-- Fronts of identifiers, character by character.
use Rattle.std.proofs.Common.{◌≡◌, ℕ, Bool, true, false, not, ◌&&◌, cond, List, [], ◌∷◌, ◌++◌, refl, sym, ap, ◌∙◌}
use Rattle.std.specs.Prelude.{chars}
use Rattle.std.specs.List.{list_all}
use Rattle.std.specs.Str.{is_utf8}
use Rattle.kr_lex.specs.Characters.{is_start, is_part}
use Rattle.kr_fin.specs.Identifiers.{is_name, is_identifier}

abbrev pub is_empty : List ℕ → Bool
is_empty [] = true
is_empty (c ∷ cs) = false

abbrev pub is_front : List ℕ → Bool
is_front [] = true
is_front (c ∷ cs) = is_start c && list_all is_part cs

and_assoc : (a b c : Bool) → (a && (b && c)) ≡ ((a && b) && c)
and_assoc true b c = refl
and_assoc false b c = refl

and_true : (a : Bool) → (a && true) ≡ a
and_true true = refl
and_true false = refl

all_more : (cs : List ℕ) (c : ℕ) → list_all is_part (cs ++ c ∷ []) ≡ (list_all is_part cs && is_part c)
all_more [] c = and_true (is_part c)
all_more (d ∷ cs) c = ap (λ (b : Bool). is_part d && b) (all_more cs c) ∙ and_assoc (is_part d) (list_all is_part cs) (is_part c)

pub front_more : (cs : List ℕ) (c : ℕ) → is_front (cs ++ c ∷ []) ≡ (is_front cs && cond (is_empty cs) (is_start c) (is_part c))
front_more [] c = and_true (is_start c)
front_more (d ∷ cs) c = ap (λ (b : Bool). is_start d && b) (all_more cs c) ∙ and_assoc (is_start d) (list_all is_part cs) (is_part c)

pub whole : (cs : List ℕ) → (is_front cs && not (is_empty cs)) ≡ is_name cs
whole [] = refl
whole (c ∷ cs) = and_true (is_front (c ∷ cs))

pub ends : (first name : Bool) (cs text : List ℕ) → first ≡ is_empty cs → name ≡ is_front cs → cs ≡ chars text → is_utf8 text ≡ true → (name && not first) ≡ is_identifier text
unfolding is_identifier
ends first name cs text f n e u =
    ap (λ (b : Bool). name && not b) f
    ∙ (ap (λ (b : Bool). b && not (is_empty cs)) n ∙ (whole cs ∙ (ap is_name e ∙ sym (ap (λ (b : Bool). b && is_name (chars text)) u))))
