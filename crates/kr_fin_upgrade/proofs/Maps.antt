-- Names in a map, and the object domains that they stand for.
use Rattle.std.proofs.Common.{◌≡◌, ℕ, ◌+◌, Bool, true, false, ◌||◌, cond, List, [], ◌∷◌, ◌++◌, fold, Some, is_some, String, Global, Ordering, Less, Equal, Greater, nat_cmp, is_eq, string_bytes, refl, sym, ap, ◌∙◌}
use Rattle.std.proofs.lemmas.List.Sums.{fold-append}
use Rattle.std.specs.Cmp.Lexicographic.{slice_cmp}
use Rattle.std.specs.Map.{lookup}
use Rattle.std.specs.String.{string_cmp}
use Rattle.std.specs.Ordering.{match_ordering}
use Rattle.std.specs.BTreeMap.{is_at, insert_entry}
use Rattle.kr_fin.specs.declared.document.Count.{Count}
use Rattle.kr_fin.specs.declared.document.FinDoc.{FinDoc}
use Rattle.kr_fin_upgrade.specs.Shown.{entries_shown}
use Rattle.kr_fin_upgrade.specs.Upgraded.{add_line, domain_lines, has_line, line, lines_of, name_lines, put_line}

-- one more name
pub put_shown : (es : List (String Global × ℕ)) (k : String Global) (n : ℕ) → entries_shown (insert_entry string_cmp es k n) ≡ put_line (entries_shown es) (string_bytes k) n
put_shown [] k n = refl
put_shown (e ∷ es) k n = go (string_cmp k e.0) (put_shown es k n)
  where
    go : (o : Ordering) → entries_shown (insert_entry string_cmp es k n) ≡ put_line (entries_shown es) (string_bytes k) n
        → entries_shown (match_ordering o ((k, n) ∷ e ∷ es) ((e.0, n) ∷ es) (e ∷ insert_entry string_cmp es k n))
        ≡ match_ordering o (line (string_bytes k) n ∷ entries_shown (e ∷ es)) (line (string_bytes e.0) n ∷ entries_shown es) (line (string_bytes e.0) e.1 ∷ put_line (entries_shown es) (string_bytes k) n)
    go Less r = refl
    go Equal r = refl
    go Greater r = ap (λ (cs : List Count). line (string_bytes e.0) e.1 ∷ cs) r

-- whether a name is there
pub found_shown : (es : List (String Global × ℕ)) (name : List ℕ) → is_some (lookup (is_at (λ k. slice_cmp nat_cmp name (string_bytes k))) es) ≡ has_line (entries_shown es) name
found_shown [] name = refl
found_shown (e ∷ es) name = go (is_eq (slice_cmp nat_cmp name (string_bytes e.0))) (found_shown es name)
  where
    go : (b : Bool) → is_some (lookup (is_at (λ k. slice_cmp nat_cmp name (string_bytes k))) es) ≡ has_line (entries_shown es) name
        → is_some (cond b (Some e.1) (lookup (is_at (λ k. slice_cmp nat_cmp name (string_bytes k))) es)) ≡ (b || has_line (entries_shown es) name)
    go true r = refl
    go false r = r

pub added_old : (cs : List Count) (name : List ℕ) (n : ℕ) (b : Bool) → b ≡ has_line cs name → b ≡ true → cs ≡ add_line cs (line name n)
added_old cs name n b e t = ap (λ (x : Bool). cond x cs (put_line cs name n)) (sym t ∙ e)

pub added_new : (cs new : List Count) (name : List ℕ) (n : ℕ) (b : Bool) → b ≡ has_line cs name → b ≡ false → new ≡ put_line cs name n → new ≡ add_line cs (line name n)
added_new cs new name n b e f k = k ∙ ap (λ (x : Bool). cond x cs (put_line cs name n)) (sym f ∙ e)

pub all_added : (d : FinDoc) (old first second third fourth : List Count) → first ≡ fold add_line old d.objects → second ≡ fold add_line first (name_lines d.root) → third ≡ fold add_line second (domain_lines d.fields) → fourth ≡ fold add_line third (domain_lines d.params)
    → fourth ≡ fold add_line old (lines_of d)
all_added d old first second third fourth a b c e =
    let fields = domain_lines d.fields in
    let params = domain_lines d.params in
    e ∙ (ap (λ (cs : List Count). fold add_line cs params) (c ∙ ap (λ (cs : List Count). fold add_line cs fields) (b ∙ ap (λ (cs : List Count). fold add_line cs (name_lines d.root)) a))
    ∙ sym (fold-append add_line old d.objects (name_lines d.root ++ (fields ++ params))
    ∙ (fold-append add_line (fold add_line old d.objects) (name_lines d.root) (fields ++ params)
    ∙ fold-append add_line (fold add_line (fold add_line old d.objects) (name_lines d.root)) fields params)))
