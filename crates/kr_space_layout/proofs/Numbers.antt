-- Objects by their numbers in the heap.
use Rattle.std.proofs.Common.{◌≡◌, ℕ, zero, suc, ◌+◌, ◌<◌, List, [], ◌∷◌, length, get_or, sym, ap, ◌∙◌, arith, subst}
use Rattle.std.specs.Prelude.{map}
use Rattle.kr_mean.specs.Problem.{ClassDomain, no_objects, objects_before}
use Rattle.kr_space_layout.specs.declared.stretch.Block.{Block}
use Rattle.kr_space_layout.specs.declared.layout.Layout.TheInside.{Inside}
use Rattle.kr_space_layout.specs.Stretches.{domain_of}
use Rattle.kr_space_layout.specs.Bounds.{Bounds, bounds_of}
use Rattle.kr_space_layout.specs.Layouts.{IsLaid}
use Rattle.kr_space_layout.proofs.Objects.{count_in, of_objects}

-- one class domain more has as many objects more before it
next_domain : (d : ℕ) (ds : List ClassDomain) → d < length ds → objects_before (suc d) ds ≡ objects_before d ds + (get_or ds d no_objects).count
next_domain d [] h = absurd (omega (arith, h))
next_domain zero (c ∷ cs) h = omega arith
next_domain (suc d) (c ∷ cs) h = let r = next_domain d cs (omega (arith, h)) in omega (arith, r)

pub before_more : (d : ℕ) (ds : List ClassDomain) → d < length ds → objects_before (d + 1) ds ≡ objects_before d ds + (get_or ds d no_objects).count
before_more d ds h = let n : d + 1 ≡ suc d = omega arith in ap (λ (n : ℕ). objects_before n ds) n ∙ next_domain d ds h

-- an object is numbered before all those after the class domains
pub before_all : (d k : ℕ) (ds : List ClassDomain) → d < length ds → k < (get_or ds d no_objects).count → objects_before d ds + k < objects_before (length ds) ds
before_all d k [] h b = absurd (omega (arith, h))
before_all zero k (c ∷ cs) h b = omega (arith, b)
before_all (suc d) k (c ∷ cs) h b = let r = before_all d k cs (omega (arith, h)) b in omega (arith, r)

-- the entries of the table of class domains
pub record AtBlock (b : Bounds) (blocks : List Block) (d : ℕ) (x : Block) : Type 0 where
  pub inside : d < length b.domains
  pub domain : (get_or blocks d x).domain ≡ d
  pub count : (get_or blocks d x).count ≡ count_in b.domains d
  pub first : (get_or blocks d x).first ≡ objects_before d b.domains

pub record AreBlocks (b : Bounds) (blocks : List Block) : Type 0 where
  pub long : length blocks ≡ length b.domains
  pub each : (d : ℕ) (x : Block) → d < length blocks → AtBlock b blocks d x

pub are_blocks : (i : Inside) (b : Bounds) → IsLaid i.root i.parameters i.classes i.blocks.items i.starts.items i.entries.items i.count i.this i.pool.items → bounds_of i.root i.mode i.fuel i.parameters i.classes (map domain_of i.pool.items) ≡ b → (blocks : List Block) → blocks ≡ i.blocks.items → AreBlocks b blocks
are_blocks i b laid e blocks same =
    let k = of_objects i b laid e in
    subst (AreBlocks b) (sym same) record {
      long = k.blocks;
      each = λ d x h. let inside : d < length b.domains = omega (arith, h, k.blocks) in record {
        inside = inside;
        domain = k.domain d x inside;
        count = k.count d x inside;
        first = k.first d x inside;
      };
    }
