-- A step of a search through a list.
use Rattle.std.proofs.Common.{◌≡◌, ◌+◌, ◌<◌, ℕ, Bool, true, false, List, refl, ap, sym, ◌∙◌, length, get_or, drop}
use Rattle.std.specs.Prelude.{◌||◌}
use Rattle.std.specs.List.{list_any}
use Rattle.std.proofs.lemmas.List.{drop_more}

or_false : (a b : Bool) → a ≡ false → (a || b) ≡ b
or_false false b e = refl
or_false true b e = absurd (cc (e))

-- an item that fails a test is passed over
pub passed : {A : Type 0} (p : A → Bool) (xs : List A) (i : ℕ) (x : A) → i < length xs → x ≡ get_or xs i x → p x ≡ false → list_any p (drop i xs) ≡ list_any p (drop (i + 1) xs)
passed p xs i x h e f =
    ap (list_any p) (drop_more xs i x h) ∙ or_false (p (get_or xs i x)) (list_any p (drop (i + 1) xs)) (ap p (sym e) ∙ f)
