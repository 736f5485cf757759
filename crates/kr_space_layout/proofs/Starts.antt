-- Where the slots of the class domains begin.
use Rattle.std.proofs.Common.{◌≡◌, ℕ, zero, suc, ◌+◌, ◌*◌, ◌<◌, ◌≤◌, List, [], ◌∷◌, length, get_or, refl, ap, arith}
use Rattle.std.specs.Prelude.{map, flat_map}
use Rattle.std.specs.List.{range_with_len}
use Rattle.std.proofs.lemmas.List.{length-append, length-map}
use Rattle.kr_mean.specs.Problem.{Domain, no_objects}
use Rattle.kr_space_layout.specs.declared.classes.Spotted.{Spotted}
use Rattle.kr_space_layout.specs.declared.classes.ClassDomain.{ClassDomain}
use Rattle.kr_space_layout.specs.declared.stretch.Block.{Block}
use Rattle.kr_space_layout.specs.Bounds.{spotted, class_domain}
use Rattle.kr_space_layout.specs.Tables.{blocks_from, spot_entry, object_entries, class_entries, entries_with, starts_with}
use Rattle.kr_space_layout.specs.Layouts.{slots_before}

suc_times : (m w : ℕ) → suc m * w ≡ w + m * w
suc_times m w = omega arith

rows_long : (b : Block) (spots : List Spotted) (a n : ℕ) → length (flat_map (object_entries b spots) (range_with_len a n)) ≡ n * length spots
rows_long b spots a zero = omega arith
rows_long b spots a (suc n) =
    omega (arith, length-append (object_entries b spots a) (flat_map (object_entries b spots) (range_with_len (a + 1) n)), length-map spots (spot_entry b a), rows_long b spots (a + 1) n, suc_times n (length spots))

pub class_long : (b : Block) (spots : List Spotted) → length (class_entries b spots) ≡ b.count * length spots
class_long b spots = rows_long b spots 0 b.count

pub starts_long : (n d first : ℕ) (cs : List ClassDomain) → length (starts_with n (blocks_from d first cs) cs) ≡ length cs
starts_long n d first [] = refl
starts_long n d first (c ∷ cs) = ap suc (starts_long (n + length (class_entries (record { domain = d; first = first; count = c.count }) c.spots)) (d + 1) (first + c.count) cs)

pub record StartIs (domains : List Domain) (n d first : ℕ) (cs : List ClassDomain) (i : ℕ) : Type 0 where
  pub is : get_or (starts_with n (blocks_from d first cs) cs) i 0 ≡ n + slots_before i (map (class_domain domains) cs)
  pub room : slots_before i (map (class_domain domains) cs) + (get_or (map (class_domain domains) cs) i no_objects).count * length (get_or (map (class_domain domains) cs) i no_objects).spots ≤ length (entries_with (blocks_from d first cs) cs)

pub start_is : (domains : List Domain) (n d first : ℕ) (cs : List ClassDomain) (i : ℕ) → i < length cs → StartIs domains n d first cs i
start_is domains n d first [] i h = absurd (omega arith)
start_is domains n d first (c ∷ cs) zero h =
    let b : Block = record { domain = d; first = first; count = c.count } in
    let wide : c.count * length (map (spotted domains) c.spots) ≡ c.count * length c.spots = ap (λ (m : ℕ). c.count * m) (length-map c.spots (spotted domains)) in
    record {
      is = omega arith;
      room = omega (arith, wide, class_long b c.spots, length-append (class_entries b c.spots) (entries_with (blocks_from (d + 1) (first + c.count) cs) cs));
    }
start_is domains n d first (c ∷ cs) (suc i) h =
    let b : Block = record { domain = d; first = first; count = c.count } in
    let wide : c.count * length (map (spotted domains) c.spots) ≡ c.count * length c.spots = ap (λ (m : ℕ). c.count * m) (length-map c.spots (spotted domains)) in
    let r = start_is domains (n + length (class_entries b c.spots)) (d + 1) (first + c.count) cs i (omega arith) in
    record {
      is = omega (arith, r.is, wide, class_long b c.spots);
      room = omega (arith, r.room, wide, class_long b c.spots, length-append (class_entries b c.spots) (entries_with (blocks_from (d + 1) (first + c.count) cs) cs));
    }
