-- Between crates: permutations of nodes.
use Rattle.std.specs.Prelude.{ℕ, List, [], ◌∷◌}

pub data Perm : List ℕ → List ℕ → Type 0 where
  done : Perm [] []
  keep : {is js : List ℕ} (i : ℕ) → Perm is js → Perm (i ∷ is) (i ∷ js)
  flip : (i j : ℕ) (is : List ℕ) → Perm (i ∷ j ∷ is) (j ∷ i ∷ is)
  onward : {is js ks : List ℕ} → Perm is js → Perm js ks → Perm is ks
