-- Shards in their places.
use Rattle.std.proofs.Common.{◌≡◌, ℕ, zero, suc, ◌+◌, ◌<◌, ◌≤◌, Bool, true, false, List, [], ◌∷◌, ◌++◌, length, take, drop, get_or, refl, sym, ap, ◌∙◌, subst, arith, add-one}
use Rattle.std.specs.List.{insert}
use Rattle.kr_base.specs.Cuts.{is_before}
use Rattle.kr_shard.specs.declared.shard.Shard.{Shard}
use Rattle.kr_shard.specs.Merging.{from_of, in_order, numbered, placed}
use Rattle.kr_shard.specs.Placing.{IsPlace}
use Rattle.kr_shard.specs.declared.order.Given.{Given}

-- all before a place begin before it, and the one there, if any, doesn't
placed_at : (given : Given) (ordered : List Given) (at : ℕ) → at ≤ length ordered
    → ((k : ℕ) (d : Given) → k < at → is_before (from_of (get_or ordered k d)) (from_of given) ≡ true)
    → ((d : Given) → at < length ordered → is_before (from_of (get_or ordered at d)) (from_of given) ≡ false)
    → insert ordered at given ≡ placed given ordered
placed_at given [] zero h before here = refl
placed_at given [] (suc at) h before here = absurd (omega arith)
placed_at given (next ∷ later) zero h before here =
    let no : is_before (from_of next) (from_of given) ≡ false = here given (omega arith) in
    rw no refl
placed_at given (next ∷ later) (suc at) h before here =
    let yes : is_before (from_of next) (from_of given) ≡ true = before 0 given (omega arith) in
    let rest : insert later at given ≡ placed given later = placed_at given later at (omega arith)
    (λ k d below. before (suc k) d (omega arith)) (λ d below. here d (omega arith)) in
    rw yes (ap (λ (l : List Given). next ∷ l) rest)

pub place_found : (ordered : List Given) (from : List ℕ) (at : ℕ) → at < length ordered
    → ((k : ℕ) (d : Given) → k < at → is_before (from_of (get_or ordered k d)) from ≡ true)
    → ((d : Given) → is_before (from_of (get_or ordered at d)) from ≡ false) → IsPlace ordered from at
place_found ordered from at h before here = record {
  within = omega arith;
  place = λ given e. placed_at given ordered at (omega arith)
      (λ k d below. ap (is_before (from_of (get_or ordered k d))) e ∙ before k d below)
      (λ d below. ap (is_before (from_of (get_or ordered at d))) e ∙ here d);
}

pub place_last : (ordered : List Given) (from : List ℕ) (at : ℕ) → length ordered ≡ at
    → ((k : ℕ) (d : Given) → k < length ordered → is_before (from_of (get_or ordered k d)) from ≡ true) → IsPlace ordered from at
place_last ordered from at e before = record {
  within = omega arith;
  place = λ given same. placed_at given ordered at (omega arith)
      (λ k d below. ap (is_before (from_of (get_or ordered k d))) same ∙ before k d (omega arith))
      (λ d below. absurd (omega arith));
}

-- ---- from the last one on

numbered_more : (n : ℕ) (shards : List Shard) (last : Shard) → numbered n (shards ++ last ∷ []) ≡ numbered n shards ++ record { index = n + length shards; shard = last } ∷ []
numbered_more n [] last = ap (λ (k : ℕ). record { index = k; shard = last } ∷ []) (omega arith)
numbered_more n (s ∷ shards) last =
    let rest = numbered_more (n + 1) shards last in
    let same : n + 1 + length shards ≡ n + length (s ∷ shards) = omega arith in
    ap (λ (l : List Given). record { index = n; shard = s } ∷ l) (rest ∙ ap (λ (k : ℕ). numbered (n + 1) shards ++ record { index = k; shard = last } ∷ []) same)

-- the later ones in order, onto which the earlier ones are put
pub onto : List Given → List Given → List Given
onto [] ordered = ordered
onto (given ∷ later) ordered = placed given (onto later ordered)

pub onto_none : (given : List Given) → onto given [] ≡ in_order given
unfolding onto
onto_none [] = refl
onto_none (g ∷ gs) = ap (placed g) (onto_none gs)

onto_last : (earlier : List Given) (last : Given) (ordered : List Given) → onto (earlier ++ last ∷ []) ordered ≡ onto earlier (placed last ordered)
unfolding onto
onto_last [] last ordered = refl
onto_last (g ∷ gs) last ordered = ap (placed g) (onto_last gs last ordered)

pub onto_more : (shards : List Shard) (last : Shard) (n : ℕ) (ordered : List Given) → n ≡ length shards
    → onto (numbered 0 (shards ++ last ∷ [])) ordered ≡ onto (numbered 0 shards) (placed (record { index = n; shard = last }) ordered)
onto_more shards last n ordered e =
    let same : 0 + length shards ≡ n = omega arith in
    ap (λ (l : List Given). onto l ordered) (numbered_more 0 shards last)
    ∙ (onto_last (numbered 0 shards) (record { index = 0 + length shards; shard = last }) ordered
    ∙ ap (λ (k : ℕ). onto (numbered 0 shards) (placed (record { index = k; shard = last }) ordered)) same)

pub onto_end : (ordered : List Given) → onto (numbered 0 []) ordered ≡ ordered
unfolding onto
onto_end ordered = refl

-- what is read at a place doesn't hang on what would be read past the end
pub same_read : (ordered : List Given) (i : ℕ) (d e : Given) → i < length ordered → get_or ordered i d ≡ get_or ordered i e
same_read [] i d e h = absurd (omega arith)
same_read (g ∷ gs) zero d e h = refl
same_read (g ∷ gs) (suc i) d e h = same_read gs i d e (omega arith)
