-- Between crates: nodes during parsing.
use Rattle.std.specs.Prelude.{ℕ, ◌+◌, ◌<◌, ◌≡◌, ◌⊎◌, List, [], ◌∷◌, length, Some, slice_get, slice_set, slice_index_or}
use Rattle.kr_ast.specs.declared.node.Entry.{Entry}

-- a node that is no part is its own parent
abbrev pub IsFree : List Entry → ℕ → Type 0
IsFree es c = (e : Entry) → slice_get es c ≡ Some e → e.parent ≡ c

abbrev pub IsApart : ℕ → List ℕ → Type 0
IsApart c [] = Unit {0}
IsApart c (d ∷ ds) = (c ≡ d → ⊥) × IsApart c ds

-- distinct nodes that are no parts
abbrev pub AreFree : List Entry → List ℕ → Type 0
AreFree es [] = Unit {0}
AreFree es (c ∷ cs) = (c < length es) × IsFree es c × IsApart c cs × AreFree es cs

-- a node with its parent
abbrev pub owned : ℕ → ℕ → Entry → Entry
owned at j e = record e { parent = at; position = j }

-- the nodes after some of them got a parent
abbrev pub adopted : (d : Entry) → List Entry → ℕ → ℕ → List ℕ → List Entry
adopted d es at j [] = es
adopted d es at j (c ∷ cs) = adopted d (slice_set es c (owned at j (slice_index_or es c d))) at (j + 1) cs

-- the number is among these
abbrev pub IsIn : ℕ → List ℕ → Type 0
IsIn c [] = ⊥
IsIn c (d ∷ ds) = (c ≡ d) ⊎ IsIn c ds

-- these are exactly the nodes that are no parts
pub record AreRoots (es : List Entry) (cs : List ℕ) : Type 0 where
  pub free : AreFree es cs
  pub only : (i : ℕ) (e : Entry) → slice_get es i ≡ Some e → e.parent ≡ i → IsIn i cs

-- the last node is the only one that is no part
abbrev pub IsOneRoot : List Entry → Type 0
IsOneRoot es = (r : ℕ) × AreRoots es (r ∷ []) × (r + 1 ≡ length es)
