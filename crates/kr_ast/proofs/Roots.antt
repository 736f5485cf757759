-- The nodes that are no parts.
use Rattle.std.proofs.Common.{◌≡◌, ℕ, ◌⊎◌, inl, inr, List, [], ◌∷◌, ◌++◌}
use Rattle.kr_ast.specs.declared.node.Entry.{Entry}
use Rattle.kr_ast.specs.Forest.{IsApart, AreFree, IsIn, AreRoots}

pub in_append : (c : ℕ) (fs bs : List ℕ) → IsIn c (fs ++ bs) → IsIn c fs ⊎ IsIn c bs
in_append c [] bs h = inr h
in_append c (a ∷ fs) bs h = elim h [ inl q ↦ inl (inl q) | inr r ↦ elim (in_append c fs bs r) [ inl l ↦ inl (inr l) | inr s ↦ inr s ] ]

pub apart_front : (c : ℕ) (fs bs : List ℕ) → IsApart c (fs ++ bs) → IsApart c fs
apart_front c [] bs h = tt
apart_front c (a ∷ fs) bs h = (h.0, apart_front c fs bs h.1)

pub apart_behind : (c : ℕ) (fs bs : List ℕ) → IsApart c (fs ++ bs) → IsApart c bs
apart_behind c [] bs h = h
apart_behind c (a ∷ fs) bs h = apart_behind c fs bs h.1

pub free_front : (es : List Entry) (fs bs : List ℕ) → AreFree es (fs ++ bs) → AreFree es fs
free_front es [] bs f = tt
free_front es (a ∷ fs) bs f = (f.0, f.1, apart_front a fs bs f.2, free_front es fs bs f.3)

pub free_behind : (es : List Entry) (fs bs : List ℕ) → AreFree es (fs ++ bs) → AreFree es bs
free_behind es [] bs f = f
free_behind es (a ∷ fs) bs f = free_behind es fs bs f.3

-- without nodes there are no roots
pub roots_none : (es : List Entry) → es ≡ [] → AreRoots es []
roots_none es e = record { free = tt; only = λ i x is own. absurd (cc) }
