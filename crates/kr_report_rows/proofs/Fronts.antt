-- Texts of a list's entries, written from its front on.
use Rattle.std.proofs.Common.{◌≡◌, ℕ, ◌+◌, ◌<◌, ◌≤◌, Bool, false, List, [], ◌∷◌, ◌++◌, length, take, drop, get_or, refl, sym, ap, ◌∙◌}
use Rattle.std.specs.Prelude.{flat_map, ◌||◌}
use Rattle.std.proofs.lemmas.List.{append-nil, take-append-drop, take_all, take_more}
use Rattle.std.proofs.lemmas.List.Concat.{flat_map-append}
use Rattle.kr_report.specs.Texts.{joined_by}
use Rattle.kr_report.specs.Joined.{are_any, separated}
use Rattle.kr_report.proofs.Joined.{any_more, joined_more, separated_both}

-- some are written, and some follow them
pub joined_grown : (between : List ℕ) (any : Bool) (ps xs : List (List ℕ)) → any ≡ are_any ps → joined_by between (ps ++ xs) ≡ joined_by between ps ++ separated between any xs
joined_grown between any ps xs a = joined_more between ps xs (ps ++ xs) refl ∙ ap (λ (b : Bool). joined_by between ps ++ separated between b xs) (sym a)

pub any_grown : (any now : Bool) (ps xs : List (List ℕ)) → any ≡ are_any ps → now ≡ (any || are_any xs) → now ≡ are_any (ps ++ xs)
any_grown any now ps xs a b = b ∙ (ap (λ (c : Bool). c || are_any xs) a ∙ sym (any_more ps xs))

-- and the others are left
pub joined_exit : (between : List ℕ) (any : Bool) (ps xs rest all : List (List ℕ)) → any ≡ are_any ps → all ≡ (ps ++ xs) ++ rest
    → joined_by between all ≡ (joined_by between ps ++ separated between any xs) ++ separated between (are_any (ps ++ xs)) rest
joined_exit between any ps xs rest all a e =
    ap (joined_by between) e
    ∙ (separated_both between false (ps ++ xs) rest
    ∙ ap (λ (t : List ℕ). t ++ separated between (are_any (ps ++ xs)) rest) (joined_grown between any ps xs a))

module _ {X A : Type 0} (f : X → List A) (xs : List X) (k : ℕ) where
  pub front_grown : (d : X) → k < length xs → flat_map f (take (k + 1) xs) ≡ flat_map f (take k xs) ++ f (get_or xs k d)
  front_grown d h =
      ap (λ (ys : List X). flat_map f ys) (take_more xs k d h)
      ∙ (flat_map-append f (take k xs) (get_or xs k d ∷ []) ∙ ap (λ (t : List A). flat_map f (take k xs) ++ t) (append-nil (f (get_or xs k d))))

  pub front_rest : (d : X) → k < length xs → flat_map f xs ≡ (flat_map f (take k xs) ++ f (get_or xs k d)) ++ flat_map f (drop (k + 1) xs)
  front_rest d h =
      ap (λ (ys : List X). flat_map f ys) (sym (take-append-drop (k + 1) xs))
      ∙ (flat_map-append f (take (k + 1) xs) (drop (k + 1) xs) ∙ ap (λ (t : List A). t ++ flat_map f (drop (k + 1) xs)) (front_grown d h))

  pub front_whole : length xs ≤ k → flat_map f (take k xs) ≡ flat_map f xs
  front_whole h = ap (λ (ys : List X). flat_map f ys) (take_all k xs h)
