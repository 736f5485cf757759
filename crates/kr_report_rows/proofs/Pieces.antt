-- Texts in pieces.
use Rattle.std.proofs.Common.{◌≡◌, ℕ, Bool, true, false, List, [], ◌∷◌, ◌++◌, refl, sym, ap, ◌∙◌, append_assoc}
use Rattle.std.specs.Prelude.{codes, if◌then◌else◌}
use Rattle.std.proofs.lemmas.List.{append-nil}
use Rattle.kr_value.specs.declared.object.Class.{Class}
use Rattle.kr_report.specs.Texts.{in_brackets, in_parentheses, joined_by}
use Rattle.kr_report.specs.Joined.{are_any, closing, opening, separated}
use Rattle.kr_report.proofs.Joined.{bracketed, separated_one}

pub last_piece : (a b x : List ℕ) → x ≡ b → a ++ (x ++ []) ≡ a ++ b
last_piece a b x p = ap (λ (t : List ℕ). a ++ t) (append-nil x ∙ p)

-- a name and what follows it
pub named_piece : (a b x : List ℕ) (sign : List ℕ) → x ≡ a → a ++ sign ++ b ≡ x ++ (sign ++ b)
named_piece a b x sign p = append_assoc a sign b ∙ ap (λ (t : List ℕ). t ++ (sign ++ b)) (sym p)

-- a separator, a label and a value
pub field_pieces : (between : List ℕ) (any : Bool) (label value : List ℕ) → separated between any ((label ++ value) ∷ []) ≡ (if any then between else []) ++ (label ++ value)
field_pieces between any label value = separated_one between any (label ++ value)

-- a name, an opening bracket, a text and a closing bracket
pub object_pieces : (class : Class) (name text : List ℕ) → name ++ in_brackets class text ≡ name ++ opening class ++ text ++ closing class
object_pieces class name text =
    ap (λ (t : List ℕ). name ++ t) (bracketed class text)
    ∙ (sym (append_assoc name (opening class ++ text) (closing class)) ∙ ap (λ (t : List ℕ). t ++ closing class) (sym (append_assoc name (opening class) text)))

-- texts in their parentheses, where there are any
pub parenthesised : (ts : List (List ℕ)) → are_any ts ≡ true → in_parentheses ts ≡ codes "(" ++ joined_by (codes ",") ts ++ codes ") "
parenthesised [] h = absurd (cc (h))
parenthesised (t ∷ ts) h = refl

pub no_parentheses : (ts : List (List ℕ)) → are_any ts ≡ false → [] ≡ in_parentheses ts
no_parentheses [] h = refl
no_parentheses (t ∷ ts) h = absurd (cc (h))
