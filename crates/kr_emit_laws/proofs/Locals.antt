-- The locals of a builder: each has its number's name and one type.
use Rattle.std.proofs.Common.{◌≡◌, refl, ap, ◌∙◌, ℕ, suc, ◌<◌, ◌≤◌, Bool, true, false, nat_eq, List, [], ◌∷◌, length, rules, arith, Option, Some, None, if◌then◌else◌}
use Rattle.std.specs.Prelude.{bytes_eq}
use Rattle.std.proofs.lemmas.Bool.{eqb-true}
use Rattle.kr_classes_table.specs.Types.{JavaType}
use Rattle.kr_classes_table.specs.Table.{Field}
use Rattle.kr_types_meaning.specs.Scopes.{Scope, Local, LocalName, meant_by, field_or_none}
use Rattle.kr_types_meaning.specs.Rules.{is_new}
use Rattle.kr_laws_never_stuck.proofs.Declared.{equal_names}
use Rattle.kr_emit_laws.specs.Fitting.{local_type}

-- of their types, the newest first
abbrev pub locals_of : (ℕ → List ℕ) → List JavaType → List Local
locals_of name [] = []
locals_of name (a ∷ ts) = record { name = name (length ts); type = a } ∷ locals_of name ts

pub local_below : (ts : List JavaType) (i : ℕ) (a : JavaType) → local_type ts i ≡ Some a → i < length ts
local_below [] i a e = absurd (cc (e))
local_below (b ∷ ts) i a e = go (nat_eq (length ts) i) refl e (local_below ts i a)
  where
    go : (x : Bool) → nat_eq (length ts) i ≡ x → (if x then Some b else local_type ts i) ≡ Some a → (local_type ts i ≡ Some a → i < length ts) → i < suc (length ts)
    go true q e r = let s = eqb-true (length ts) i q in omega (arith, s)
    go false q e r = let s = r e in omega (arith, s)

module _ (name : ℕ → List ℕ) (most : ℕ) (apart : (i j : ℕ) → i < most → j < most → bytes_eq (name i) (name j) ≡ true → i ≡ j) where
  other_name : (i j : ℕ) → i < most → j < most → (i ≡ j → ⊥) → bytes_eq (name i) (name j) ≡ false
  other_name i j l m h = go (bytes_eq (name i) (name j)) refl
    where
      go : (b : Bool) → bytes_eq (name i) (name j) ≡ b → b ≡ false
      go true q = absurd (h (apart i j l m q))
      go false q = refl

  pub found_local : (f : Option Field) (ts : List JavaType) (i : ℕ) (a : JavaType) → length ts ≤ most → local_type ts i ≡ Some a → (k : ℕ) × (meant_by (locals_of name ts) f (name i) ≡ LocalName k a)
  found_local f [] i a l e = absurd (cc (e))
  found_local f (b ∷ ts) i a l e = go (nat_eq (length ts) i) refl e (found_local f ts i a (omega (arith, l)))
    where
      go : (x : Bool) → nat_eq (length ts) i ≡ x → (if x then Some b else local_type ts i) ≡ Some a → (local_type ts i ≡ Some a → (k : ℕ) × (meant_by (locals_of name ts) f (name i) ≡ LocalName k a))
          → (k : ℕ) × ((if bytes_eq (name (length ts)) (name i) then LocalName (length (locals_of name ts)) b else meant_by (locals_of name ts) f (name i)) ≡ LocalName k a)
      go true q e r =
          let s : b ≡ a = cc (e) in
          (length (locals_of name ts), ap (λ z. if z then LocalName (length (locals_of name ts)) b else meant_by (locals_of name ts) f (name i)) (equal_names (name (length ts)) (name i) (ap name (eqb-true (length ts) i q))) ∙ ap (LocalName (length (locals_of name ts))) s)
      go false q e r =
          let rest = r e in
          let below = local_below ts i a e in
          let differ : length ts ≡ i → ⊥ = λ s. absurd (omega (arith, s, below)) in
          (rest.0, ap (λ z. if z then LocalName (length (locals_of name ts)) b else meant_by (locals_of name ts) f (name i)) (other_name (length ts) i (omega (arith, l)) (omega (arith, l, below)) differ) ∙ rest.1)

  no_local : (f : Option Field) (ts : List JavaType) (j : ℕ) → length ts ≤ j → j < most → meant_by (locals_of name ts) f (name j) ≡ field_or_none f
  no_local f [] j l m = refl
  no_local f (b ∷ ts) j l m =
      let differ : length ts ≡ j → ⊥ = λ s. absurd (omega (arith, s, l)) in
      ap (λ z. if z then LocalName (length (locals_of name ts)) b else meant_by (locals_of name ts) f (name j)) (other_name (length ts) j (omega (arith, l, m)) m differ) ∙ no_local f ts j (omega (arith, l)) m

  pub new_local : (s : Scope) (f : Option Field) (ts : List JavaType) → length ts < most → is_new s (name (length ts)) (meant_by (locals_of name ts) f (name (length ts))) ≡ true
  new_local s f ts l = ap (is_new s (name (length ts))) (no_local f ts (length ts) (omega arith) l) ∙ go f
    where
      go : (x : Option Field) → is_new s (name (length ts)) (field_or_none x) ≡ true
      go None = refl
      go (Some y) = refl
