-- Lines of names, added one after another.
use Rattle.std.proofs.Common.{◌≡◌, ℕ, Bool, true, false, ◌||◌, cond, List, [], ◌∷◌, ◌++◌, append_assoc, append-nil, fold, map, Ordering, Less, Equal, Greater, nat_cmp, is_eq, refl, sym, ap, ◌∙◌, subst}
use Rattle.std.specs.List.{AllByRecursion, list_any}
use Rattle.std.specs.List.Sorted.{IsStrictlySortedBy}
use Rattle.std.specs.Ordering.{match_ordering, ordering_reverse, ordering_then}
use Rattle.std.specs.Cmp.Lexicographic.{slice_cmp}
use Rattle.std.proofs.lemmas.Cmp.{nat_list_cmp_total, ranked, tied_itself}
use Rattle.kr_classes_table.specs.Table.{Heading}
use Rattle.kr_fin.specs.declared.document.Count.{Count}
use Rattle.kr_fin.specs.Ascending.{AreCounts}
use Rattle.kr_space_meaning.specs.Bounds.{declared, declared_by}
use Rattle.kr_space_meaning.proofs.Each.{each_back, each_front, each_of_both}
use Rattle.kr_fin_upgrade.specs.Tables.{count_data}
use Rattle.kr_fin_upgrade.specs.Upgraded.{add_line, all_lines, has_line, line, put_line}
use Rattle.kr_fin_upgrade.proofs.Ordered.{all_before}

abbrev Text : Type 0
Text = List ℕ

pub equal_is : (a b : Text) → slice_cmp nat_cmp a b ≡ Equal → a ≡ b
equal_is [] [] e = refl
equal_is [] (y ∷ ys) e = absurd (cc (e))
equal_is (x ∷ xs) [] e = absurd (cc (e))
equal_is (x ∷ xs) (y ∷ ys) e = go (nat_cmp x y) refl e (equal_is xs ys)
  where
    go : (o : Ordering) → o ≡ nat_cmp x y → ordering_then o (slice_cmp nat_cmp xs ys) ≡ Equal → (slice_cmp nat_cmp xs ys ≡ Equal → xs ≡ ys) → x ∷ xs ≡ y ∷ ys
    go Less q e rest = absurd (cc (e))
    go Equal q e rest = let same : x ≡ y = ranked x y Equal q in ap (λ (n : ℕ). n ∷ xs) same ∙ ap (λ (ns : Text). y ∷ ns) (rest e)
    go Greater q e rest = absurd (cc (e))

turned : (a b : Text) → slice_cmp nat_cmp a b ≡ Greater → slice_cmp nat_cmp b a ≡ Less
turned a b e = nat_list_cmp_total.antisymm b a ∙ ap ordering_reverse e

-- ---- a line at its place

record IsInserted (cs : List Count) (n : Text) (k : ℕ) : Type 0 where
  front : List Count
  back : List Count
  whole : front ++ back ≡ cs
  new : front ++ line n k ∷ back ≡ put_line cs n k

inserted : (cs : List Count) (n : Text) (k : ℕ) → has_line cs n ≡ false → IsInserted cs n k
inserted [] n k e = record { front = []; back = []; whole = refl; new = refl }
inserted (c ∷ cs) n k e = go (slice_cmp nat_cmp n c.name) refl (inserted cs n k)
  where
    placed : Ordering → List Count
    placed o = match_ordering o (line n k ∷ c ∷ cs) (line c.name k ∷ cs) (c ∷ put_line cs n k)

    missing : (o : Ordering) → slice_cmp nat_cmp n c.name ≡ o → (is_eq o || has_line cs n) ≡ false
    missing o is = subst (λ (o : Ordering). (is_eq o || has_line cs n) ≡ false) is e

    go : (o : Ordering) → slice_cmp nat_cmp n c.name ≡ o → (has_line cs n ≡ false → IsInserted cs n k) → IsInserted (c ∷ cs) n k
    go Less is rest = record { front = []; back = c ∷ cs; whole = refl; new = sym (ap placed is) }
    go Equal is rest = let no = missing Equal is in absurd (cc (no))
    go Greater is rest =
        let r = rest (missing Greater is) in
        record { front = c ∷ r.front; back = r.back; whole = ap (λ (xs : List Count). c ∷ xs) r.whole; new = ap (λ (xs : List Count). c ∷ xs) r.new ∙ sym (ap placed is) }

-- what holds of lines, and of lists with one line more, holds of those after one is added
module _ (P : List Count → Type 0) where
  added : (cs : List Count) (c : Count) → (has_line cs c.name ≡ true → P cs) → ((front back : List Count) → front ++ back ≡ cs → has_line cs c.name ≡ false → P (front ++ line c.name c.count ∷ back)) → P (add_line cs c)
  added cs c old new = go (has_line cs c.name) refl
    where
      go : (b : Bool) → has_line cs c.name ≡ b → P (cond b cs (put_line cs c.name c.count))
      go true is = old is
      go false is = let i = inserted cs c.name c.count is in subst P i.new (new i.front i.back i.whole is)

-- ---- a property of each line

module _ (P : Count → Type 0) where
  one_more : (xs ys : List Count) (c : Count) → P c → AllByRecursion P (xs ++ ys) → AllByRecursion P (xs ++ c ∷ ys)
  one_more xs ys c p h = each_of_both P xs (c ∷ ys) (each_front P xs ys h) (p, each_back P xs ys h)

  pub each_added : (cs : List Count) (c : Count) → P (line c.name c.count) → AllByRecursion P cs → AllByRecursion P (add_line cs c)
  each_added cs c p h = added (AllByRecursion P) cs c (λ _. h) (λ front back e _. one_more front back (line c.name c.count) p (subst (AllByRecursion P) (sym e) h))

  pub each_folded : (cs ls : List Count) → AllByRecursion P cs → AllByRecursion (λ c. P (line c.name c.count)) ls → AllByRecursion P (fold add_line cs ls)
  each_folded cs [] h k = h
  each_folded cs (c ∷ ls) h k = each_folded (add_line cs c) ls (each_added cs c k.0 h) k.1

-- ---- each name has a line

any_here : (p : Count → Bool) (front back : List Count) (c : Count) → p c ≡ true → list_any p (front ++ c ∷ back) ≡ true
any_here p [] back c h = ap (λ (b : Bool). b || list_any p back) h
any_here p (x ∷ xs) back c h = go (p x) (any_here p xs back c h)
  where
    go : (b : Bool) → list_any p (xs ++ c ∷ back) ≡ true → (b || list_any p (xs ++ c ∷ back)) ≡ true
    go true r = refl
    go false r = r

any_there : (p : Count → Bool) (front back : List Count) (c : Count) → list_any p (front ++ back) ≡ true → list_any p (front ++ c ∷ back) ≡ true
any_there p [] back c h = go (p c) h
  where
    go : (b : Bool) → list_any p back ≡ true → (b || list_any p back) ≡ true
    go true r = refl
    go false r = r
any_there p (x ∷ xs) back c h = go (p x) h (any_there p xs back c)
  where
    go : (b : Bool) → (b || list_any p (xs ++ back)) ≡ true → (list_any p (xs ++ back) ≡ true → list_any p (xs ++ c ∷ back) ≡ true) → (b || list_any p (xs ++ c ∷ back)) ≡ true
    go true h r = refl
    go false h r = r h

added_there : (cs : List Count) (c : Count) → has_line (add_line cs c) c.name ≡ true
added_there cs c = added (λ xs. has_line xs c.name ≡ true) cs c (λ h. h) (λ front back e _. any_here (λ (x : Count). is_eq (slice_cmp nat_cmp c.name x.name)) front back (line c.name c.count) (ap is_eq (tied_itself nat_list_cmp_total c.name)))

added_keeps : (cs : List Count) (c : Count) (n : Text) → has_line cs n ≡ true → has_line (add_line cs c) n ≡ true
added_keeps cs c n h = added (λ xs. has_line xs n ≡ true) cs c (λ _. h) (λ front back e _. any_there (λ (x : Count). is_eq (slice_cmp nat_cmp n x.name)) front back (line c.name c.count) (subst (λ (xs : List Count). has_line xs n ≡ true) (sym e) h))

pub folded_keeps : (cs ls : List Count) (n : Text) → has_line cs n ≡ true → has_line (fold add_line cs ls) n ≡ true
folded_keeps cs [] n h = h
folded_keeps cs (c ∷ ls) n h = folded_keeps (add_line cs c) ls n (added_keeps cs c n h)

pub folded_there : (cs ls : List Count) → AllByRecursion (λ c. has_line (fold add_line cs ls) c.name ≡ true) ls
folded_there cs [] = tt
folded_there cs (c ∷ ls) = (folded_keeps (add_line cs c) ls c.name (added_there cs c), folded_there (add_line cs c) ls)

-- ---- names without objects declare nothing

module _ (hs : List Heading) where
  declared_without : (front back : List Count) (n : Text) → declared hs (front ++ line n 0 ∷ back) ≡ declared hs (front ++ back)
  declared_without [] back n = refl
  declared_without (c ∷ front) back n = ap (λ xs. declared_by hs c ++ xs) (declared_without front back n)

  declared_added : (cs : List Count) (c : Count) → c.count ≡ 0 → declared hs (add_line cs c) ≡ declared hs cs
  declared_added cs c z =
      added (λ xs. declared hs xs ≡ declared hs cs) cs c (λ _. refl)
      (λ front back e _. ap (λ (k : ℕ). declared hs (front ++ line c.name k ∷ back)) z ∙ (declared_without front back c.name ∙ ap (declared hs) e))

  pub declared_folded : (cs ls : List Count) → AllByRecursion (λ c. c.count ≡ 0) ls → declared hs (fold add_line cs ls) ≡ declared hs cs
  declared_folded cs [] h = refl
  declared_folded cs (c ∷ ls) h = declared_folded (add_line cs c) ls h.1 ∙ declared_added cs c h.0

-- ---- the order

-- names that aren't before it, one more among them
after_more : (P : Text → Type 0) (cs : List Count) (n : Text) (k : ℕ) → has_line cs n ≡ false → P n → AllByRecursion P (map (λ c. c.name) cs) → AllByRecursion P (map (λ c. c.name) (put_line cs n k))
after_more P [] n k e p h = (p, tt)
after_more P (c ∷ cs) n k e p h = go (slice_cmp nat_cmp n c.name) refl (after_more P cs n k)
  where
    placed : Ordering → List Count
    placed o = match_ordering o (line n k ∷ c ∷ cs) (line c.name k ∷ cs) (c ∷ put_line cs n k)

    Good : List Count → Type 0
    Good xs = AllByRecursion P (map (λ c. c.name) xs)

    go : (o : Ordering) → slice_cmp nat_cmp n c.name ≡ o → (has_line cs n ≡ false → P n → AllByRecursion P (map (λ c. c.name) cs) → AllByRecursion P (map (λ c. c.name) (put_line cs n k))) → Good (placed (slice_cmp nat_cmp n c.name))
    go Less is rest = subst (λ (o : Ordering). Good (placed o)) (sym is) (p, h)
    go Equal is rest = subst (λ (o : Ordering). Good (placed o)) (sym is) h
    go Greater is rest = subst (λ (o : Ordering). Good (placed o)) (sym is) (h.0, rest (subst (λ (o : Ordering). (is_eq o || has_line cs n) ≡ false) is e) p h.1)

below_all : (a b : Text) (ks : List Text) → slice_cmp nat_cmp a b ≡ Less → AllByRecursion (λ y. slice_cmp nat_cmp b y ≡ Less) ks → AllByRecursion (λ y. slice_cmp nat_cmp a y ≡ Less) ks
below_all a b [] e h = tt
below_all a b (k ∷ ks) e h = (nat_list_cmp_total.trans a b k e h.0, below_all a b ks e h.1)

ascends_put : (cs : List Count) (n : Text) (k : ℕ) → has_line cs n ≡ false → AreCounts cs → AreCounts (put_line cs n k)
unfolding IsStrictlySortedBy
ascends_put [] n k e h = (tt, tt)
ascends_put (c ∷ cs) n k e h = go (slice_cmp nat_cmp n c.name) refl (ascends_put cs n k)
  where
    placed : Ordering → List Count
    placed o = match_ordering o (line n k ∷ c ∷ cs) (line c.name k ∷ cs) (c ∷ put_line cs n k)

    missing : (o : Ordering) → slice_cmp nat_cmp n c.name ≡ o → (is_eq o || has_line cs n) ≡ false
    missing o is = subst (λ (o : Ordering). (is_eq o || has_line cs n) ≡ false) is e

    go : (o : Ordering) → slice_cmp nat_cmp n c.name ≡ o → (has_line cs n ≡ false → AreCounts cs → AreCounts (put_line cs n k)) → AreCounts (placed (slice_cmp nat_cmp n c.name))
    go Less is rest = subst (λ (o : Ordering). AreCounts (placed o)) (sym is) ((is, below_all n c.name (map (λ c. c.name) cs) is h.0), h)
    go Equal is rest = let no = missing Equal is in absurd (cc (no))
    go Greater is rest =
        subst (λ (o : Ordering). AreCounts (placed o)) (sym is)
        (after_more (λ y. slice_cmp nat_cmp c.name y ≡ Less) cs n k (missing Greater is) (turned n c.name is) h.0, rest (missing Greater is) h.1)

ascends_added : (cs : List Count) (c : Count) → AreCounts cs → AreCounts (add_line cs c)
ascends_added cs c h = go (has_line cs c.name) refl
  where
    go : (b : Bool) → has_line cs c.name ≡ b → AreCounts (cond b cs (put_line cs c.name c.count))
    go true is = h
    go false is = ascends_put cs c.name c.count is h

pub ascends_folded : (cs ls : List Count) → AreCounts cs → AreCounts (fold add_line cs ls)
ascends_folded cs [] h = h
ascends_folded cs (c ∷ ls) h = ascends_folded (add_line cs c) ls (ascends_added cs c h)

-- ---- lines in order stay as they are

not_there : (cs : List Count) (n : Text) → AllByRecursion (λ y. slice_cmp nat_cmp n y.name ≡ Greater) cs → has_line cs n ≡ false
not_there [] n h = refl
not_there (c ∷ cs) n h = ap (λ (o : Ordering). is_eq o || has_line cs n) h.0 ∙ not_there cs n h.1

put_last : (cs : List Count) (n : Text) (k : ℕ) → AllByRecursion (λ y. slice_cmp nat_cmp n y.name ≡ Greater) cs → put_line cs n k ≡ cs ++ line n k ∷ []
put_last [] n k h = refl
put_last (c ∷ cs) n k h =
    ap (λ (o : Ordering). match_ordering o (line n k ∷ c ∷ cs) (line c.name k ∷ cs) (c ∷ put_line cs n k)) h.0
    ∙ ap (λ (xs : List Count). c ∷ xs) (put_last cs n k h.1)

as_line : (c : Count) → c.class ≡ c.name → line c.name c.count ≡ c
as_line c e = ap (λ (t : Text). record { name = c.name; class = t; count = c.count }) (sym e)

in_turn : (done rest : List Count) → AreCounts (done ++ rest) → AllByRecursion (λ c. c.class ≡ c.name) rest → fold add_line done rest ≡ done ++ rest
in_turn done [] h k = sym (append-nil done)
in_turn done (c ∷ rest) h k =
    let all : (done ++ c ∷ []) ++ rest ≡ done ++ c ∷ rest = append_assoc done (c ∷ []) rest in
    let before = all_before (λ (c : Count). c.name) (count_data 2) done c rest h in
    ap (λ (b : Bool). fold add_line (cond b done (put_line done c.name c.count)) rest) (not_there done c.name before)
    ∙ (ap (λ (xs : List Count). fold add_line xs rest) (put_last done c.name c.count before ∙ ap (λ (x : Count). done ++ x ∷ []) (as_line c k.0))
    ∙ (in_turn (done ++ c ∷ []) rest (subst AreCounts (sym all) h) k.1 ∙ all))

pub lines_stay : (cs : List Count) → AreCounts cs → AllByRecursion (λ c. c.class ≡ c.name) cs → all_lines cs ≡ cs
lines_stay cs h k = in_turn [] cs h k
