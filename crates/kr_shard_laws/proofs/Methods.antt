-- What holds of all methods of a table holds of the one of a name.
use Rattle.std.proofs.Common.{◌≡◌, ℕ, zero, suc, Bool, true, false, List, [], ◌∷◌, ◌++◌, Option, Some, ap, subst}
use Rattle.std.specs.Prelude.{bytes_eq, find, flat_map, option_to_list, unwrap_or, if◌then◌else◌}
use Rattle.std.specs.List.{AllByRecursion}
use Rattle.kr_classes_table.specs.Table.{Class, Method, Table, class_at, line_of, method_named, own_methods}
use Rattle.kr_shard_laws.specs.Names.{all_methods}
use Rattle.kr_space_meaning.proofs.Each.{each_always, each_flat, each_of_both}

module _ (P : Method → Type 0) where
  left_part : (xs ys : List Method) → AllByRecursion P (xs ++ ys) → AllByRecursion P xs
  left_part [] ys h = tt
  left_part (x ∷ xs) ys h = (h.0, left_part xs ys h.1)

  right_part : (xs ys : List Method) → AllByRecursion P (xs ++ ys) → AllByRecursion P ys
  right_part [] ys h = h
  right_part (x ∷ xs) ys h = right_part xs ys h.1

  class_methods : (ds : List Class) (c : ℕ) → AllByRecursion P (flat_map (λ d. d.methods) ds) → AllByRecursion P (flat_map (λ d. d.methods) (option_to_list (class_at ds c)))
  class_methods [] c h = tt
  class_methods (d ∷ ds) zero h = each_of_both P d.methods [] (left_part d.methods (flat_map (λ x. x.methods) ds) h) tt
  class_methods (d ∷ ds) (suc c) h = class_methods ds c (right_part d.methods (flat_map (λ x. x.methods) ds) h)

  of_found : (is : Method → Bool) (ms : List Method) (m : Method) → AllByRecursion P ms → find is ms ≡ Some m → P m
  of_found is [] m h e = absurd (cc (e))
  of_found is (x ∷ xs) m h e = go (is x) e (of_found is xs m h.1)
    where
      go : (b : Bool) → (if b then Some x else find is xs) ≡ Some m → (find is xs ≡ Some m → P m) → P m
      go true e rest = subst P (ap (λ (o : Option Method). unwrap_or o m) e) h.0
      go false e rest = rest e

  pub of_named : (table : Table) (c : ℕ) (n : List ℕ) (m : Method) → AllByRecursion P (all_methods table) → method_named table c n ≡ Some m → P m
  of_named table c n m h e =
      let line = line_of table c in
      of_found (λ x. bytes_eq x.name n) (flat_map (own_methods table) line) m
      (each_flat P (own_methods table) line (each_always (λ d. AllByRecursion P (own_methods table d)) line (λ d. class_methods table.classes d h))) e
