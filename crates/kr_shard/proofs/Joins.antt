-- Shards put together.
use Rattle.std.proofs.Common.{◌≡◌, ℕ, zero, suc, ◌+◌, ◌-◌, ◌^◌, ◌<◌, ◌≤◌, Bool, true, false, List, [], ◌∷◌, ◌++◌, length, map, take, drop, get_or, min, refl, sym, ap, ◌∙◌, subst, arith, add-one, drop-cons, Option, Some, None, is_some}
use Rattle.std.specs.List.{sum_by}
use Rattle.std.specs.Prelude.{Result, Ok, Err, slice_get}
use Rattle.kr_base.specs.Causes.{capped}
use Rattle.kr_shard.specs.Merging.{IsMerged, Joins, through_spent, tried_in, spent_in, or_else, fault_after, fault_between, first_fault}
use Rattle.kr_shard.specs.Rows.{rows_of}
use Rattle.kr_shard.specs.declared.merging.Merged.{Merged}
use Rattle.kr_shard.specs.declared.merging.MergeRefusal.TheVariants.{Overlap, Gap, NoMemory}
use Rattle.kr_shard.specs.declared.order.Given.{Given}
use Rattle.kr_shard.specs.declared.merging.MergeRefusal.{MergeRefusal}

-- the first spent one ends them
pub through_at : (ordered : List Given) (at : ℕ) (d : Given) → at < length ordered
    → ((k : ℕ) → k < at → is_some (get_or ordered k d).shard.spent ≡ false) → is_some (get_or ordered at d).shard.spent ≡ true
    → take (at + 1) ordered ≡ through_spent ordered
through_at [] at d h before here = absurd (omega arith)
through_at (g ∷ gs) zero d h before here = rw here refl
through_at (g ∷ gs) (suc at) d h before here =
    let none : is_some g.shard.spent ≡ false = before 0 (omega arith) in
    let rest : take (at + 1) gs ≡ through_spent gs = through_at gs at d (omega arith) (λ k below. before (suc k) (omega arith)) here in
    let next : suc at + 1 ≡ suc (at + 1) = omega arith in
    rw (next, none) (ap (λ (l : List Given). g ∷ l) rest)

-- none is spent
pub through_all : (ordered : List Given) → ((k : ℕ) (d : Given) → k < length ordered → is_some (get_or ordered k d).shard.spent ≡ false) → take (length ordered) ordered ≡ through_spent ordered
through_all [] before = refl
through_all (g ∷ gs) before =
    let none : is_some g.shard.spent ≡ false = before 0 g (omega arith) in
    rw none (ap (λ (l : List Given). g ∷ l) (through_all gs (λ k d below. before (suc k) d (omega arith))))

-- ---- what they tried

pub capped_more : (before now sum more : ℕ) → before ≡ capped sum → now ≡ min (before + more) (2 ^ 64 - 1) → now ≡ capped (sum + more)
capped_more before now sum more p q = omega arith

-- ---- the answer

pub merged_by : (ordered kept : List Given) (merged : Merged) → kept ≡ through_spent ordered → merged.rows ≡ map rows_of kept → merged.tried ≡ capped (sum_by tried_in kept) → merged.spent ≡ spent_in ordered → IsMerged ordered merged
merged_by ordered kept merged is rows tried spent = record {
  rows = rows ∙ ap (map rows_of) is;
  tried = tried ∙ ap (λ (gs : List Given). capped (sum_by tried_in gs)) is;
  spent = spent;
}

-- the rows of a shard among those of all
pub rows_at : (ordered : List Given) (i : ℕ) (g : Given) → i < length ordered → g ≡ get_or ordered i g → slice_get (map rows_of ordered) i ≡ Some (rows_of g)
rows_at [] i g h e = absurd (omega arith)
rows_at (x ∷ xs) zero g h e = ap (λ (y : Given). Some (rows_of y)) (sym e)
rows_at (x ∷ xs) (suc i) g h e = rows_at xs i g (omega arith) e
